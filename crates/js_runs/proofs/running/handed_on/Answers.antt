use Rattle.js_runs.proofs.Loops.{kept}
use Rattle.js_runs.proofs.running.handed_on.Goals as goal

pub returns-in_default : goal.returns-in_default
returns-in_default c = rw c.in-Err.is (kept c.in-Err.halt c.in_default.not-Throw)
