use Rattle.std.proofs.Common.{◌≡◌, Option, Some, None, false, refl, sym, subst, ◌∙◌}
use Rattle.std.specs.Option.{is_some}
use Rattle.std.proofs.lemmas.Result.{err_from_is_err_and}
use Rattle.js_tree.specs.declared.operators.BinaryOp.{BinaryOp}
use Rattle.js_reading.specs.Reads.{Reads}
use Rattle.js_expression_parser.proofs.Rows as rows
use Rattle.js_expression_parser.proofs.parser.Parser.operators.Goals as goal

none_found : (op : Option BinaryOp) → is_some op ≡ false → op ≡ None
none_found None is = refl
none_found (Some op) is = cc

pub returns-in_err-first : goal.returns-in_err-first
returns-in_err-first g c =
    let p = err_from_is_err_and c.from_residual.result c.from_residual.ensures.1 in
    rw (p.1, p.2) (rows.first_fails c.args.self.now.end (g.N.Nested.readers c.args.self.now.nested) c.args.form c.in_err-first.field-0.0 10 c.args.tokens.now c.in_err-first.ensures)

pub returns-then-is_none : goal.returns-then-is_none
returns-then-is_none g c =
    rows.begins c.args.self.now.end (g.N.Nested.readers c.args.self.now.nested) c.args.form 10 c.args.tokens.now c.in_ok-first.first c.in_ok-first.ensures
    ∙ rows.no_operator c.args.self.now.end (g.N.Nested.readers c.args.self.now.nested) c.args.form c.in_ok-first.first (sym c.next_binary.ensures ∙ none_found c.next_binary.result c.if-is_none.ensures)

pub returns : goal.returns
returns g c =
    subst (λ read. Reads read c.operators_behind.result)
    (sym (rows.begins c.args.self.now.end (g.N.Nested.readers c.args.self.now.nested) c.args.form 10 c.args.tokens.now c.in_ok-first.first c.in_ok-first.ensures))
    c.operators_behind.ensures
