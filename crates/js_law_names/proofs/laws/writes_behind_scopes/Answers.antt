use Rattle.js_law_names.proofs.OfWrites.{writes_behind_scopes}
use Rattle.js_law_names.proofs.laws.writes_behind_scopes.Goals as goal

pub returns : goal.returns
returns c = writes_behind_scopes
