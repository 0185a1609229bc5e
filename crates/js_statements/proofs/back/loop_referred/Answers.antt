use Rattle.js_statements.proofs.Targets.{not_waiting}
use Rattle.js_statements.proofs.back.loop_referred.Goals as goal

pub returns-in-ForInTarget : goal.returns-in-ForInTarget
returns-in-ForInTarget c = rw c.in-ForInTarget.is c.targeted.ensures

pub returns-in_default : goal.returns-in_default
returns-in_default c = not_waiting _ _ _ _ _ c.in_default.not-ForInTarget c.loop_back.ensures
