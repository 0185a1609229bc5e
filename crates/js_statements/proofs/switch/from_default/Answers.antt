use Rattle.std.proofs.Common.{arith, refl, ap, ◌∙◌}
use Rattle.js_evaluation.specs.State.{Does}
use Rattle.heap_values.specs.declared.value.Value.{Value}
use Rattle.js_frames.specs.Rests.{giving}
use Rattle.js_machine.specs.Moves.{left}
use Rattle.js_statements.proofs.Ends.{in_a_switch}
use Rattle.js_statements.proofs.Parts.{moves_by}
use Rattle.js_statements.proofs.Rows.{none_default, skip_test, first_default}
use Rattle.js_statements.proofs.switch.from_default.Goals as goal

pub loop-left-init : goal.loop-left-init
loop-left-init c = record { same = refl; unmoved = refl }

pub returns-then-is_none : goal.returns-then-is_none
returns-then-is_none c = moves_by (ap (in_a_switch c.args.machine.now) (c.loop-left.invariant.same ∙ first_default c.args.machine.now c.loop-left.left.now _ c.clause-item.is c.in-len1-up.len_at_least _ c.is_none.ensures c.if-is_none.true)) (rw c.loop-left.invariant.unmoved at c.clauses_from.ensures)

pub loop-left-preserved : goal.loop-left-preserved
loop-left-preserved c = record { same = c.loop-left.invariant.same ∙ skip_test c.args.machine.now c.loop-left.left.now _ c.clause-item.is c.in-len1-up.len_at_least _ c.is_none.ensures c.if-is_none.false; unmoved = c.loop-left.invariant.unmoved }

pub returns : goal.returns
returns c = rw c.loop-left.invariant.unmoved (record { goes = λ last. ap (λ (p : Does Value). left last c.args.machine.now (giving (in_a_switch c.args.machine.now p))) (c.loop-left.invariant.same ∙ none_default c.args.machine.now c.loop-left.left.now c.in_default.len_below); light = omega arith })
