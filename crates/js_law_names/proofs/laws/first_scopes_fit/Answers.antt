use Rattle.js_law_names.proofs.OfNewScopes.{first_scopes_fit}
use Rattle.js_law_names.proofs.laws.first_scopes_fit.Goals as goal

pub returns : goal.returns
returns c = first_scopes_fit
