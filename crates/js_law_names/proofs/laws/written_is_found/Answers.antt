use Rattle.js_law_names.proofs.OfPairs.{written_is_found}
use Rattle.js_law_names.proofs.laws.written_is_found.Goals as goal

pub returns : goal.returns
returns c = written_is_found
