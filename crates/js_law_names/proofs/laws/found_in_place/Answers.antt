use Rattle.js_law_names.proofs.OfPairs.{found_in_place}
use Rattle.js_law_names.proofs.laws.found_in_place.Goals as goal

pub returns : goal.returns
returns c = found_in_place
