use Rattle.js_machine.proofs.Steps.{works_either, either_stops}
use Rattle.js_expressions.proofs.suffixes.first_referred.Goals as goal

pub returns-in_err-value : goal.returns-in_err-value
returns-in_err-value c = either_stops _ _ _ _ _ _ c.from_residual.ensures.1 (c.in_err-value.ensures c.args.machine.now.context.this)

pub returns : goal.returns
returns c = works_either _ _ _ _ _ (c.in_ok-value.ensures c.args.machine.now.context.this) (rw c.this_of-this.ensures at c.suffixes_from.ensures)
