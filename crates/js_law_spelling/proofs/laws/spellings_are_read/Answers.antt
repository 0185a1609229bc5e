use Rattle.js_law_spelling.proofs.Spellings.{each_is_read}
use Rattle.js_law_spelling.proofs.laws.spellings_are_read.Goals as goal

pub returns : goal.returns
returns c = each_is_read
