use Rattle.js_law_binding.proofs.NameRules.{names_bound}
use Rattle.js_law_binding.proofs.laws.names_are_bound.Goals as goal

pub returns : goal.returns
returns c = names_bound
