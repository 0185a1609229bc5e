use Rattle.std.proofs.Common.{refl, sym}
use Rattle.heap_values.specs.declared.value.Value.{Value}
use Rattle.heap_steps.proofs.Chains.{chained, stops}
use Rattle.js_entries.proofs.Entering.{scope_by_number}
use Rattle.js_entries.specs.Globals.{declare_function}
use Rattle.js_entries.proofs.globals.declare_in.Goals as goal

pub returns-in-None : goal.returns-in-None
returns-in-None c = rw (sym c.in-None.ensures) (record { is = λ after fuel beside. refl })

pub returns-in_err-function-in-Some : goal.returns-in_err-function-in-Some
returns-in_err-function-in-Some c = rw (sym c.in-Some.ensures) (stops _ (λ (f : Value). declare_function c.in-Some.name.now.name f) _ _ _ _ c.from_residual.ensures.1 (rw (scope_by_number _ _ c.outer-scope.ensures) at c.in_err-function-in-Some.ensures))

pub returns-in_ok-function-in-Some : goal.returns-in_ok-function-in-Some
returns-in_ok-function-in-Some c = rw (sym c.in-Some.ensures) (chained _ (λ (f : Value). declare_function c.in-Some.name.now.name f) _ _ _ _ _ (rw (scope_by_number _ _ c.outer-scope.ensures) at c.in_ok-function-in-Some.ensures) c.declare_function.ensures)
