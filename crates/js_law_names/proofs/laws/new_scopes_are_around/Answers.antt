use Rattle.js_law_names.proofs.OfNewScopes.{new_scopes_are_around}
use Rattle.js_law_names.proofs.laws.new_scopes_are_around.Goals as goal

pub returns : goal.returns
returns c = new_scopes_are_around
