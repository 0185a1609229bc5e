use Rattle.std.proofs.Common.{arith, refl, ap, ◌∙◌}
use Rattle.js_evaluation.specs.State.{Does}
use Rattle.heap_values.specs.declared.value.Value.{Value}
use Rattle.js_frames.specs.Rests.{giving}
use Rattle.js_machine.specs.Moves.{left}
use Rattle.js_statements.proofs.Ends.{in_a_switch}
use Rattle.js_statements.proofs.Parts.{moves_by}
use Rattle.js_statements.proofs.Rows.{none_left, skip_empty, first_statement}
use Rattle.js_statements.proofs.switch.clauses_from.Goals as goal

pub loop-left-init : goal.loop-left-init
loop-left-init c = record { same = refl; unmoved = refl }

pub returns-in-len1-up-as_slice : goal.returns-in-len1-up-as_slice
returns-in-len1-up-as_slice c = moves_by (ap (in_a_switch c.args.machine.now) (c.loop-left.invariant.same ∙ first_statement c.args.machine.now c.loop-left.left.now _ c.clause-item.is c.in-len1-up.len_at_least _ _ c.as_slice.ensures c.one-item.is c.in-len1-up-as_slice.len_at_least)) (rw c.loop-left.invariant.unmoved at c.execute.ensures)

pub loop-left-preserved : goal.loop-left-preserved
loop-left-preserved c = record { same = c.loop-left.invariant.same ∙ skip_empty c.args.machine.now c.loop-left.left.now _ c.clause-item.is c.in-len1-up.len_at_least _ c.as_slice.ensures c.in_default-as_slice.len_below; unmoved = c.loop-left.invariant.unmoved }

pub returns : goal.returns
returns c = rw c.loop-left.invariant.unmoved (record { goes = λ last. ap (λ (p : Does Value). left last c.args.machine.now (giving (in_a_switch c.args.machine.now p))) (c.loop-left.invariant.same ∙ none_left c.args.machine.now c.loop-left.left.now c.in_default.len_below); light = omega arith })
