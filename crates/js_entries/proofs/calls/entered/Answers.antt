use Rattle.js_entries.proofs.Entering.{no_function, some_function}
use Rattle.js_entries.proofs.calls.entered.Goals as goal

pub returns-in-None : goal.returns-in-None
returns-in-None c = no_function c.args.machine.now _ _ _ _ _ _ _ c.in-None.ensures c.nothing.ensures

pub returns-in-Some : goal.returns-in-Some
returns-in-Some c = some_function c.args.machine.now _ _ _ _ _ _ _ _ _ c.in-Some.ensures c.enter.ensures
