use Rattle.std.proofs.Common.{refl}
use Rattle.js_machine.proofs.Steps.{forgets as memory}
use Rattle.js_entries.proofs.Entering.{scope_stops, names_stop, enters}
use Rattle.js_entries.proofs.calls.enter.Goals as goal

pub returns-in_err-size : goal.returns-in_err-size
returns-in_err-size c = memory _ _ c.from_residual.ensures.1 refl

pub returns-in_err-scope : goal.returns-in_err-scope
returns-in_err-scope c = scope_stops c.args.machine.now c.args.made c.args.around c.args.this c.args.arguments c.args.place c.args.function.now _ _ _ c.from_residual-in_err-scope.ensures.1 (rw c.in_ok-size.ensures at c.in_err-scope.ensures)

pub returns-in_err-bind_names : goal.returns-in_err-bind_names
returns-in_err-bind_names c = names_stop c.args.machine.now c.args.made c.args.around c.args.this c.args.arguments c.args.place c.args.function.now _ _ _ _ (rw c.in_ok-size.ensures at c.in_ok-scope.ensures) _ c.from_residual-in_err-bind_names.ensures.1 (rw c.as_slice-values.ensures at (c.in_err-bind_names.ensures c.args.this))

pub returns : goal.returns
returns c = enters c.args.machine.now c.args.made c.args.around c.args.this c.args.arguments c.args.place c.args.function.now _ _ _ _ (rw c.in_ok-size.ensures at c.in_ok-scope.ensures) _ (rw c.as_slice-values.ensures at (c.in_ok-bind_names.ensures c.args.this)) (rw c.as_slice.ensures at c.enter_body.ensures)
