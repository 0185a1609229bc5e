use Rattle.std.proofs.Common.{refl, sym}
use Rattle.js_evaluation.specs.BySlots.{write_name}
use Rattle.heap_values.specs.declared.value.Value.{Value}
use Rattle.heap_steps.proofs.Chains.{chained, stops}
use Rattle.js_entries.proofs.names.bind_function.Goals as goal

pub returns-in-None : goal.returns-in-None
returns-in-None c = λ this. rw (sym c.in-None.ensures) (record { is = λ after fuel beside. refl })

pub returns-in_err-function-in-Some : goal.returns-in_err-function-in-Some
returns-in_err-function-in-Some c = λ this. rw (sym c.in-Some.ensures) (stops _ (λ (f : Value). write_name (record { scope = c.args.scope; this = this }) c.in-Some.name.now f c.args.place) _ _ _ _ c.from_residual.ensures.1 c.in_err-function-in-Some.ensures)

pub returns-in_ok-function-in-Some : goal.returns-in_ok-function-in-Some
returns-in_ok-function-in-Some c = λ this. rw (sym c.in-Some.ensures) (chained _ (λ (f : Value). write_name (record { scope = c.args.scope; this = this }) c.in-Some.name.now f c.args.place) _ _ _ _ _ c.in_ok-function-in-Some.ensures (c.write_name.ensures this))
