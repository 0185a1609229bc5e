use Rattle.js_law_spelling.proofs.Lexed.{each_is_spellable}
use Rattle.js_law_spelling.proofs.laws.tokens_are_spellable.Goals as goal

pub returns : goal.returns
returns c = each_is_spellable
