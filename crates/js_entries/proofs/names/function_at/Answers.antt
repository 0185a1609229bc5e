use Rattle.js_entries.proofs.Steps.{function_found}
use Rattle.js_entries.proofs.names.function_at.Goals as goal

pub returns : goal.returns
returns c = function_found _ _ _ c.get.ensures.lookup
