use Rattle.std.proofs.Common.{◌≡◌, ◌<◌, ◌++◌, ◌∷◌, [], length, sym, ap, ◌∙◌, arith}
use Rattle.std.proofs.lemmas.List.{nil_from_length}
use Rattle.js_grammar.specs.Operators.{level_of, next_binary}
use Rattle.js_expression_parser.specs.Operators.{behind, closes, limit, within}
use Rattle.js_expression_parser.proofs.Costs as costs
use Rattle.js_expression_parser.proofs.Rows as rows
use Rattle.js_expression_parser.proofs.operators.next_step.Goals as goal

pub returns-in-Some-clause-goes : goal.returns-in-Some-clause-goes
returns-in-Some-clause-goes c d =
    rw (c.opened.ensures, c.rest_of-rest.ensures)
    (ap (within c.args.end d c.args.form c.args.rows.now.items) (rows.opens c.args.end d c.args.form c.args.reading c.in-Some.op (sym c.next_between-next.ensures ∙ c.in-Some.is)))

pub returns-in-Some-clause-costs : goal.returns-in-Some-clause-costs
returns-in-Some-clause-costs c =
    let h = rows.is_among c.args.reading.level c.args.reading.bound (next_binary c.args.form c.args.reading.rest.now) c.in-Some.op (sym c.next_between-next.ensures ∙ c.in-Some.is) in
    let few : length c.args.reading.rest.now < limit = omega (arith, rows.one_longer c.args.reading.rest.now, ap length c.rest_of-rest.ensures, c.rest_of-rest.type_inv.0) in
    let less = costs.opening c.args.reading.level (level_of c.in-Some.op) c.args.reading.bound (length c.args.reading.rest.now) h.1.0 h.1.1 few in
    rw c.opened.ensures (omega (arith, less))

pub returns-in-None-clause-goes : goal.returns-in-None-clause-goes
returns-in-None-clause-goes c d =
    let none : c.args.rows.now.items ≡ [] = nil_from_length c.args.rows.now.items (omega (arith, c.args.rows.now.ok, c.in-None.ensures.cases.0)) in
    rw none (rows.nothing_left c.args.end d c.args.form c.args.reading.level c.args.reading.bound c.args.reading.place c.args.reading.value c.args.reading.rest.now (sym c.next_between-next.ensures ∙ c.in_default.is))

pub returns-in-Some-pop-clause-goes : goal.returns-in-Some-pop-clause-goes
returns-in-Some-pop-clause-goes c d =
    rows.carried c.args.end d c.args.form c.pop.new.self.items (closes c.args.end d c.args.form c.in-Some-pop.row c.args.reading.value c.args.reading.rest.now) _
    (ap (λ all. within c.args.end d c.args.form all (behind c.args.end d c.args.form c.args.reading)) c.in-Some-pop.ensures.items
    ∙ ap (within c.args.end d c.args.form (c.pop.new.self.items ++ c.in-Some-pop.row ∷ [])) (rows.nothing_left c.args.end d c.args.form c.args.reading.level c.args.reading.bound c.args.reading.place c.args.reading.value c.args.reading.rest.now (sym c.next_between-next.ensures ∙ c.in_default.is))
    ∙ rows.within_last c.args.end d c.args.form c.pop.new.self.items c.in-Some-pop.row _)
    _ (c.operand_done.ensures.goes d)

pub returns-in-Some-pop-clause-costs : goal.returns-in-Some-pop-clause-costs
returns-in-Some-pop-clause-costs c = costs.carried c.pop.new.self.items c.in-Some-pop.row c.args.reading c.args.rows.now.items c.in-Some-pop.ensures.items _ c.operand_done.ensures.costs
