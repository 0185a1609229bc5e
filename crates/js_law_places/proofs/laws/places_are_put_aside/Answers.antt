use Rattle.js_law_places.proofs.AsideScripts.{places_aside}
use Rattle.js_law_places.proofs.laws.places_are_put_aside.Goals as goal

pub returns : goal.returns
returns c = places_aside
