use Rattle.std.proofs.Common.{refl}
use Rattle.js_machine.proofs.Steps.{forgets, works_then, works_stops}
use Rattle.js_native_calls.proofs.Steps.{gives}
use Rattle.js_primary.proofs.literals.length_written.Goals as goal

pub returns-in_err-name : goal.returns-in_err-name
returns-in_err-name c = forgets _ _ c.from_residual.ensures.1 refl

pub returns-in_err-put : goal.returns-in_err-put
returns-in_err-put c = works_stops _ _ _ _ _ _ c.from_residual-in_err-put.ensures.1 (rw (c.in_ok-name.ensures, c.from.ensures) at c.in_err-put.ensures)

pub returns : goal.returns
returns c = works_then _ _ _ _ _ (rw (c.in_ok-name.ensures, c.from.ensures) at c.in_ok-put.ensures) (gives _ _ _ (λ after. refl))
