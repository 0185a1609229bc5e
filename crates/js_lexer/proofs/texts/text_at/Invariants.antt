use Rattle.std.proofs.Common.{length}
use Rattle.js_lexer.proofs.TextLoop.{TextSoFar}
use Rattle.js_lexer.proofs.texts.text_at.Given as goal

abbrev pub invariant-characters : goal.invariant-characters
invariant-characters l = TextSoFar l.quote l.text.items l.length l.rest l.units

abbrev pub decreases-characters : goal.decreases-characters
decreases-characters l = length l.rest
