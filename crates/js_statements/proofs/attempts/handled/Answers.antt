use Rattle.js_tree.specs.View.{optional_statement}
use Rattle.js_statements.proofs.Ends.{handler_stops, handler_begins}
use Rattle.js_statements.proofs.attempts.handled.Goals as goal

pub returns-in_err-scope : goal.returns-in_err-scope
returns-in_err-scope c = handler_stops c.args.machine.now c.args.place c.args.handler.now.name c.args.handler.now.body c.args.thrown (optional_statement c.args.last.now) _ _ _ c.from_residual.ensures.1 c.in_err-scope.ensures

pub returns : goal.returns
returns c = handler_begins c.args.machine.now c.args.place c.args.handler.now.name c.args.handler.now.body c.args.thrown (optional_statement c.args.last.now) _ _ _ c.in_ok-scope.ensures c.in_ok-write_slot.ensures.after c.execute_in.ensures
