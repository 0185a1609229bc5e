use Rattle.std.proofs.Common.{refl}
use Rattle.js_machine.proofs.Steps.{forgets as memory, works_stops}
use Rattle.js_entries.proofs.Entering.{object_stops, constructs}
use Rattle.js_entries.proofs.calls.constructed.Goals as goal

pub returns-in_err-name : goal.returns-in_err-name
returns-in_err-name c = memory _ _ c.from_residual.ensures.1 refl

pub returns-in_err-prototype : goal.returns-in_err-prototype
returns-in_err-prototype c = works_stops _ _ _ _ _ _ c.from_residual-in_err-prototype.ensures.1 (rw c.in_ok-name.ensures at c.in_err-prototype.ensures)

pub returns-in_err-made : goal.returns-in_err-made
returns-in_err-made c = object_stops c.args.machine.now _ _ _ _ _ _ _ _ _ (rw c.in_ok-name.ensures at c.in_ok-prototype.ensures) _ c.from_residual-in_err-made.ensures.1 (rw c.made_from-prototype.ensures at c.in_err-made.ensures)

pub returns : goal.returns
returns c = constructs c.args.machine.now _ _ _ _ _ _ _ _ _ (rw c.in_ok-name.ensures at c.in_ok-prototype.ensures) _ _ (rw c.made_from-prototype.ensures at c.in_ok-made.ensures) c.entered.ensures
