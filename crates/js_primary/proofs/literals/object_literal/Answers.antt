use Rattle.js_machine.proofs.Steps.{works_then, works_stops}
use Rattle.js_primary.proofs.literals.object_literal.Goals as goal

pub returns-in_err-object : goal.returns-in_err-object
returns-in_err-object c = works_stops _ _ _ _ _ _ c.from_residual.ensures.1 c.in_err-object.ensures

pub returns : goal.returns
returns c = works_then _ _ _ _ _ c.in_ok-object.ensures c.properties_from.ensures
