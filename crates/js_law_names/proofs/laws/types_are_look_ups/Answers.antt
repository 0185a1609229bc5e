use Rattle.js_law_names.proofs.OfLookUps.{types_are_look_ups}
use Rattle.js_law_names.proofs.laws.types_are_look_ups.Goals as goal

pub returns : goal.returns
returns c = types_are_look_ups
