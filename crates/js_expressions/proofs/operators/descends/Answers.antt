use Rattle.std.proofs.Common.{refl}
use Rattle.js_machine.proofs.Steps.{forgets, works_then, works_stops}
use Rattle.js_expressions.proofs.operators.descends.Goals as goal

pub returns-in_err-name : goal.returns-in_err-name
returns-in_err-name c = forgets _ _ c.from_residual.ensures.1 refl

pub returns-in_err-prototype : goal.returns-in_err-prototype
returns-in_err-prototype c = works_stops _ _ _ _ _ _ c.from_residual-in_err-prototype.ensures.1 (rw c.in_ok-name.ensures at c.in_err-prototype.ensures)

pub returns-in_err-value : goal.returns-in_err-value
returns-in_err-value c = works_then _ _ _ _ _ (rw c.in_ok-name.ensures at c.in_ok-prototype.ensures) (works_stops _ _ _ _ _ _ c.from_residual-in_err-value.ensures.1 c.in_err-value.ensures)

pub returns : goal.returns
returns c = works_then _ _ _ _ _ (rw c.in_ok-name.ensures at c.in_ok-prototype.ensures) (works_then _ _ _ _ _ c.in_ok-value.ensures c.behind_operator.ensures)
