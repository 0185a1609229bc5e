use Rattle.std.proofs.Common.{refl}
use Rattle.js_machine.proofs.Steps.{forgets, works_then, works_stops}
use Rattle.js_native_calls.proofs.handed.value_converted.Goals as goal

pub returns-in_err-value : goal.returns-in_err-value
returns-in_err-value c = works_stops _ _ _ _ _ _ c.from_residual.ensures.1 (rw (c.conversion_at-conversion.ensures, c.len.ensures) at (c.in_err-value.ensures c.args.machine.now.state.heap))

pub returns-in_err-push : goal.returns-in_err-push
returns-in_err-push c = forgets _ _ c.from_residual-in_err-push.ensures.1 refl

pub returns : goal.returns
returns c = works_then _ _ _ _ _ (rw (c.conversion_at-conversion.ensures, c.len.ensures) at (c.in_ok-value.ensures c.args.machine.now.state.heap)) (rw c.in_ok-push.ensures.ok at c.values_converted.ensures)
