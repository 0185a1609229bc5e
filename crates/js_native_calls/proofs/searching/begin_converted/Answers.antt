use Rattle.js_machine.proofs.Steps.{works_then, works_stops}
use Rattle.js_native_calls.proofs.searching.begin_converted.Goals as goal

pub returns-in_err-begin : goal.returns-in_err-begin
returns-in_err-begin c = works_stops _ _ _ _ _ _ c.from_residual.ensures.1 (c.in_err-begin.ensures c.args.machine.now.state.heap)

pub returns : goal.returns
returns c = works_then _ _ _ _ _ (c.in_ok-begin.ensures c.args.machine.now.state.heap) c.pattern_worked.ensures
