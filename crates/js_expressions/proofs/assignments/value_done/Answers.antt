use Rattle.std.proofs.Common.{refl}
use Rattle.js_machine.proofs.Steps.{forgets, works_then, works_stops}
use Rattle.js_native_calls.proofs.Steps.{gives}
use Rattle.js_expressions.proofs.assignments.value_done.Goals as goal

pub returns-in_err-written : goal.returns-in_err-written
returns-in_err-written c = forgets _ _ c.from_residual.ensures.1 refl

pub returns-in_err-write_reference : goal.returns-in_err-write_reference
returns-in_err-write_reference c = works_stops _ _ _ _ _ _ c.from_residual-in_err-write_reference.ensures.1 (rw c.in_ok-written.ensures at (c.in_err-write_reference.ensures c.args.machine.now.context.this))

pub returns : goal.returns
returns c = works_then _ _ _ _ _ (rw c.in_ok-written.ensures at (c.in_ok-write_reference.ensures c.args.machine.now.context.this)) (gives _ _ _ (λ after. refl))
