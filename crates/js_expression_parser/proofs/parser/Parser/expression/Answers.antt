use Rattle.std.proofs.Common.{Some, sym, ap, ◌∙◌}
use Rattle.std.proofs.lemmas.Result.{err_from_is_err_and}
use Rattle.js_expression_parser.proofs.Commas.{all_fail, all_give, more_come}
use Rattle.js_expression_parser.proofs.parser.Parser.expression.Goals as goal

pub returns-in_err-all : goal.returns-in_err-all
returns-in_err-all g c =
    let more = more_come c.args.self.now.end (g.N.Nested.readers c.args.self.now.nested) c.args.form c.args.tokens.now _ _ c.in_ok-first.ensures (sym c.next_sign.ensures ∙ c.in-Some-Comma.is ∙ ap (λ s. Some s) c.in-Some-Comma.field-0-is) in
    let p = err_from_is_err_and c.from_residual-in_err-all.result c.from_residual-in_err-all.ensures.1 in
    rw (p.1, p.2) (all_fail c.args.self.now.end (g.N.Nested.readers c.args.self.now.nested) c.args.form c.args.tokens.now c.in_err-all.field-0.0
    (c.in_err-all.ensures (rw c.rest_of.ensures more)))

pub returns : goal.returns
returns g c =
    let more = more_come c.args.self.now.end (g.N.Nested.readers c.args.self.now.nested) c.args.form c.args.tokens.now _ _ c.in_ok-first.ensures (sym c.next_sign.ensures ∙ c.in-Some-Comma.is ∙ ap (λ s. Some s) c.in-Some-Comma.field-0-is) in
    rw (c.joined.ensures, c.place_at-place.ensures) (all_give c.args.self.now.end (g.N.Nested.readers c.args.self.now.nested) c.args.form c.args.tokens.now _ _ (c.in_ok-all.ensures (rw c.rest_of.ensures more)))
