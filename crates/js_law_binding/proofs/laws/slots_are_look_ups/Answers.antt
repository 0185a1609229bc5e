use Rattle.js_law_binding.proofs.ReadsLaw.{slots_read}
use Rattle.js_law_binding.proofs.laws.slots_are_look_ups.Goals as goal

pub returns : goal.returns
returns c = slots_read
