use Rattle.js_law_tokens.proofs.KeptTokens.{reading_keeps}
use Rattle.js_law_tokens.proofs.laws.reading_keeps_tokens.Goals as goal

pub returns : goal.returns
returns c = reading_keeps
