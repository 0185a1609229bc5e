use Rattle.std.proofs.Common.{length}
use Rattle.js_lexer.proofs.LexLoop.{SoFar}
use Rattle.js_lexer.proofs.lexer.lex.Given as goal

abbrev pub invariant-pieces : goal.invariant-pieces
invariant-pieces l = SoFar l.tokens.items l.place l.after_line l.rest l.source

abbrev pub decreases-pieces : goal.decreases-pieces
decreases-pieces l = length l.rest
