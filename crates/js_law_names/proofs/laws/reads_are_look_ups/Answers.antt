use Rattle.js_law_names.proofs.OfLookUps.{reads_are_look_ups}
use Rattle.js_law_names.proofs.laws.reads_are_look_ups.Goals as goal

pub returns : goal.returns
returns c = reads_are_look_ups
