use Rattle.js_law_spelling.proofs.Spellings.{each_is_read}
use Rattle.js_law_spelling.proofs.Scripts.{scripts_lexed}
use Rattle.js_law_spelling.proofs.laws.printed_scripts_are_lexed.Goals as goal

pub returns : goal.returns
returns c = scripts_lexed each_is_read
