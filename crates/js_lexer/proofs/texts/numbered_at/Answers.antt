use Rattle.std.proofs.Common.{◌≤◌, length, length-take, arith, sym, ◌∙◌}
use Rattle.js_lexer.proofs.Digits.{value_below, numbered-value}
use Rattle.js_lexer.proofs.texts.numbered_at.Goals as goal

pub overflow_cast-result : goal.overflow_cast-result
overflow_cast-result c =
    let short : length c.front-digits.result.now ≤ c.args.count = rw c.front-digits.ensures (omega (arith, length-take c.args.count c.args.units.now)) in
    omega (arith, value_below c.args.count c.front-digits.result.now c.requires (sym c.hexadecimal_length.ensures.value ∙ c.if-hexadecimal_length-count.false) short)

pub returns-clause-value : goal.returns-clause-value
returns-clause-value c =
    let all = rw c.front-digits.ensures at (sym c.hexadecimal_length.ensures.value ∙ c.if-hexadecimal_length-count.false) in
    numbered-value c.args.count c.capped_value.result c.args.units.now c.requires all (rw c.front-digits.ensures at c.capped_value.ensures)
