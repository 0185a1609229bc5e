use Rattle.std.proofs.Common.{Ok, ap, sym}
use Rattle.heap_values.specs.declared.value.Value.{Value}
use Rattle.heap_steps.specs.Works.{state_with}
use Rattle.heap_steps.proofs.Chains.{chained, stops}
use Rattle.js_evaluation.specs.State.{write_slot}
use Rattle.js_entries.proofs.arguments.write_arguments.Goals as goal

pub returns-in_err-object : goal.returns-in_err-object
returns-in_err-object c = stops _ (λ (object : Value). write_slot c.args.scope c.args.slot object) _ _ _ _ c.from_residual.ensures.1 c.in_err-object.ensures

pub returns : goal.returns
returns c = chained _ (λ (object : Value). write_slot c.args.scope c.args.slot object) _ _ _ _ _ c.in_ok-object.ensures (record { is = λ after fuel beside. ap (λ k. after (Ok tt) (state_with k fuel beside)) (sym c.in_ok-write_slot.ensures.after) })
