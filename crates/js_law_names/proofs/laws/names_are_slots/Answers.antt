use Rattle.js_law_names.proofs.ReadRuns.{names_are_slots}
use Rattle.js_law_names.proofs.laws.names_are_slots.Goals as goal

pub returns : goal.returns
returns c = names_are_slots
