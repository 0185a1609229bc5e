use Rattle.js_machine.proofs.Steps.{works_then, works_stops}
use Rattle.js_primary.proofs.literals.property_done.Goals as goal

pub returns-in_err-define : goal.returns-in_err-define
returns-in_err-define c = works_stops _ _ _ _ _ _ c.from_residual.ensures.1 c.in_err-define.ensures

pub returns : goal.returns
returns c = works_then _ _ _ _ _ c.in_ok-define.ensures c.properties_from.ensures
