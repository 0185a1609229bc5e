use Rattle.std.proofs.Common.{◌≡◌, ◌+◌, length}
use Rattle.js_grammar.specs.Tokens.{comment_length}
use Rattle.js_lexer.proofs.Comments.{later}
use Rattle.js_lexer.proofs.pieces.comment_length.Given as goal

abbrev pub invariant-loop-rest : goal.invariant-loop-rest
invariant-loop-rest l = (l.passed + length l.rest ≡ length l.units) × (later l.passed (comment_length l.rest) ≡ comment_length l.units)

abbrev pub decreases-loop-rest : goal.decreases-loop-rest
decreases-loop-rest l = length l.rest
