use Rattle.std.proofs.Common.{arith, refl, ap, ◌∙◌}
use Rattle.js_evaluation.specs.State.{Does}
use Rattle.heap_values.specs.declared.value.Value.{Value}
use Rattle.js_frames.specs.Rests.{giving}
use Rattle.js_machine.specs.Moves.{left}
use Rattle.js_statements.proofs.Parts.{moves_by}
use Rattle.js_statements.proofs.Rows.{none_declared, skip_declared, first_declared}
use Rattle.js_statements.proofs.variables.variables_from.Goals as goal

pub loop-left-init : goal.loop-left-init
loop-left-init c = record { same = refl; unmoved = refl }

pub returns-in-Some : goal.returns-in-Some
returns-in-Some c = moves_by (c.loop-left.invariant.same ∙ first_declared c.args.machine.now c.args.place c.loop-left.left.now _ c.declared-item.is c.in-len1-up.len_at_least _ c.in-Some.is) (rw c.loop-left.invariant.unmoved at c.evaluate.ensures)

pub loop-left-preserved : goal.loop-left-preserved
loop-left-preserved c = record { same = c.loop-left.invariant.same ∙ skip_declared c.args.machine.now c.args.place c.loop-left.left.now _ c.declared-item.is c.in-len1-up.len_at_least c.in_default-value.is; unmoved = c.loop-left.invariant.unmoved }

pub returns : goal.returns
returns c = rw c.loop-left.invariant.unmoved (record { goes = λ last. ap (λ (p : Does Value). left last c.args.machine.now (giving p)) (c.loop-left.invariant.same ∙ none_declared c.args.machine.now c.args.place c.loop-left.left.now c.in_default.len_below); light = omega arith })
