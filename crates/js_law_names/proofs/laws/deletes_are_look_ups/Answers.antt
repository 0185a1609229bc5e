use Rattle.js_law_names.proofs.OfLookUps.{deletes_are_look_ups}
use Rattle.js_law_names.proofs.laws.deletes_are_look_ups.Goals as goal

pub returns : goal.returns
returns c = deletes_are_look_ups
