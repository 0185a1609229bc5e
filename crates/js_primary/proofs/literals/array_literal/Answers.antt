use Rattle.js_machine.proofs.Steps.{works_then, works_stops}
use Rattle.js_primary.proofs.literals.array_literal.Goals as goal

pub returns-in_err-array : goal.returns-in_err-array
returns-in_err-array c = works_stops _ _ _ _ _ _ c.from_residual.ensures.1 c.in_err-array.ensures

pub returns : goal.returns
returns c = works_then _ _ _ _ _ c.in_ok-array.ensures c.items_from.ensures
