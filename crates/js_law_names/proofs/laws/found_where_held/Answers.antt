use Rattle.js_law_names.proofs.OfPairs.{found_where_held}
use Rattle.js_law_names.proofs.laws.found_where_held.Goals as goal

pub returns : goal.returns
returns c = found_where_held
