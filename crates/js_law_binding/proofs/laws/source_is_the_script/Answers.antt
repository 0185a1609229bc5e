use Rattle.js_law_binding.proofs.SourceLaw.{source_of_resolved}
use Rattle.js_law_binding.proofs.laws.source_is_the_script.Goals as goal

pub returns : goal.returns
returns c = source_of_resolved
