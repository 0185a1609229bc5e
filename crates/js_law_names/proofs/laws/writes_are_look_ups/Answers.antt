use Rattle.js_law_names.proofs.OfWrites.{writes_are_look_ups}
use Rattle.js_law_names.proofs.laws.writes_are_look_ups.Goals as goal

pub returns : goal.returns
returns c = writes_are_look_ups
