use Rattle.std.proofs.Common.{sym, ◌∙◌}
use Rattle.js_primary.proofs.CallSteps.{called_there, not_called}
use Rattle.js_primary.proofs.calls.call_value.Goals as goal

pub returns-in-Some : goal.returns-in-Some
returns-in-Some c = called_there c.args.machine.now c.args.call c.args.arguments _ _ _ (sym c.callable.ensures ∙ c.in-Some.is) c.call.ensures

pub returns : goal.returns
returns c = not_called c.args.machine.now c.args.call c.args.arguments _ _ (sym c.callable.ensures ∙ c.in-None.is) c.type_error.ensures
