use Rattle.js_machine.proofs.Steps.{works_stops}
use Rattle.js_native_calls.proofs.ErrorNames.{asked_name, plain_name}
use Rattle.js_native_calls.proofs.errors.text_of_error.Goals as goal

pub returns-in_err-name : goal.returns-in_err-name
returns-in_err-name c = works_stops _ _ _ _ _ _ c.from_residual-in_err-name.ensures.1 (rw c.in_ok-key.ensures at c.in_err-name.ensures)

pub returns-in-Object : goal.returns-in-Object
returns-in-Object c =
    asked_name c.args.machine.now c.args.error c.args.place _ c.in_ok-name.name (rw c.in_ok-key.ensures at c.in_ok-name.ensures) _ _ c.in-Object.object c.in-Object.is c.convert.ensures

pub returns : goal.returns
returns c =
    plain_name c.args.machine.now c.args.error c.args.place _ c.in_ok-name.name (rw c.in_ok-key.ensures at c.in_ok-name.ensures) _ _ c.in_default.not-Object
    (rw c.in_ok-shown-in_default.ensures at c.error_named.ensures)
