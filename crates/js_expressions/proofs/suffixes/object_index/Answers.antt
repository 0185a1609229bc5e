use Rattle.js_machine.proofs.Steps.{works_either, either_stops}
use Rattle.js_expressions.proofs.suffixes.object_index.Goals as goal

pub returns-in_err-test_base : goal.returns-in_err-test_base
returns-in_err-test_base c = either_stops _ _ _ _ _ _ c.from_residual.ensures.1 c.in_err-test_base.ensures

pub returns : goal.returns
returns c = works_either _ _ _ _ _ c.in_ok-test_base.ensures c.convert.ensures
