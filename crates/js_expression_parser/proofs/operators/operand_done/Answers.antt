use Rattle.std.proofs.Common.{◌≡◌, suc, ◌+◌, ◌-◌, Some, sym, ◌∙◌, arith}
use Rattle.js_grammar.specs.Operators.{level_of}
use Rattle.js_expression_parser.specs.Operators.{next_in, whole}
use Rattle.js_expression_parser.proofs.Costs as costs
use Rattle.js_expression_parser.proofs.Rows as rows
use Rattle.js_expression_parser.proofs.operators.operand_done.Goals as goal

pub returns-in-Some-clause-goes : goal.returns-in-Some-clause-goes
returns-in-Some-clause-goes c d =
    rw (c.from_vec-operands.ensures, c.in_ok-add_part.ensures, c.into_vec-operands.ensures, c.place_at.ensures, c.rest_of.ensures, c.saturating_sub.ensures)
    (rows.goes_on c.args.end d c.args.form c.args.row c.args.reading.value c.args.reading.rest.now c.in-Some.op (sym c.next_in-next.ensures ∙ c.in-Some.is))

pub returns-in-Some-clause-costs : goal.returns-in-Some-clause-costs
returns-in-Some-clause-costs c =
    let some : next_in c.args.form c.args.row c.args.reading.rest.now ≡ Some c.in-Some.op = sym c.next_in-next.ensures ∙ c.in-Some.is in
    let h = rows.takes_more c.args.form c.args.row c.args.reading.rest.now c.in-Some.op some in
    let same : level_of c.in-Some.op ≡ level_of c.args.row.op = rows.is_at_level (level_of c.args.row.op) _ c.in-Some.op h.0 in
    let less = costs.going (level_of c.args.row.op) c.args.row.turns (c.args.row.turns - 1) (whole c.args.row.bound - whole (suc (level_of c.args.row.op))) (omega (arith, h.1)) in
    rw (same, c.saturating_sub.ensures) (omega (arith, less))

pub returns-clause-goes : goal.returns-clause-goes
returns-clause-goes c d =
    let level : c.level_of.result + 1 ≡ suc (level_of c.args.row.op) = omega (arith, c.level_of.ensures) in
    rw (level, c.in_ok-chained.ensures, c.from_vec-operands.ensures, c.in_ok-add_part.ensures, c.into_vec-operands.ensures) (rows.ends c.args.end d c.args.form c.args.row c.args.reading.value c.args.reading.rest.now (sym c.next_in-next.ensures ∙ c.in_default.is))
