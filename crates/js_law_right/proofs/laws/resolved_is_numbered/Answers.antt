use Rattle.js_law_right.proofs.RightLaw.{resolved_is_numbered}
use Rattle.js_law_right.proofs.laws.resolved_is_numbered.Goals as goal

pub returns : goal.returns
returns c = resolved_is_numbered
