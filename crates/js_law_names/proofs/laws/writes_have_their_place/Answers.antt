use Rattle.js_law_names.proofs.OfPairs.{writes_have_their_place}
use Rattle.js_law_names.proofs.laws.writes_have_their_place.Goals as goal

pub returns : goal.returns
returns c = writes_have_their_place
