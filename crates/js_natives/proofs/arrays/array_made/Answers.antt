use Rattle.std.proofs.Common.{sym, ◌∙◌}
use Rattle.js_natives.proofs.Parts.{others_work, length_works}
use Rattle.js_natives.proofs.arrays.array_made.Goals as goal

pub returns-in-Some : goal.returns-in-Some
returns-in-Some c = length_works _ _ _ _ _ _ (sym c.in-Some.is ∙ c.length_in.ensures) c.array_of_length.ensures

pub returns-in-None : goal.returns-in-None
returns-in-None c = others_work _ _ _ _ _ (sym c.in-None.is ∙ c.length_in.ensures) c.array_of.ensures
