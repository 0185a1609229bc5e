use Rattle.js_machine.proofs.Steps.{works_either, either_stops}
use Rattle.js_expressions.proofs.primitives.index_by.Goals as goal

pub returns-in_err-value : goal.returns-in_err-value
returns-in_err-value c = either_stops _ _ _ _ _ _ c.from_residual.ensures.1 c.in_err-value.ensures

pub returns : goal.returns
returns c = works_either _ _ _ _ _ c.in_ok-value.ensures c.suffixes_from.ensures
