use Rattle.js_machine.proofs.Steps.{works_either, either_stops}
use Rattle.js_expressions.proofs.updates.update_done.Goals as goal

pub returns-in_err-old : goal.returns-in_err-old
returns-in_err-old c = either_stops _ _ _ _ _ _ c.from_residual.ensures.1 (c.in_err-old.ensures c.args.machine.now.context.this)

pub returns : goal.returns
returns c = works_either _ _ _ _ _ (c.in_ok-old.ensures c.args.machine.now.context.this) c.primitive.ensures
