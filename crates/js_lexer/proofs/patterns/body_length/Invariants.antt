use Rattle.std.proofs.Common.{◌≡◌, ◌+◌, length}
use Rattle.js_grammar.specs.Patterns.{body_length, body_length_from}
use Rattle.js_lexer.proofs.Comments.{later}
use Rattle.js_lexer.proofs.patterns.body_length.Given as goal

abbrev pub invariant-loop-rest : goal.invariant-loop-rest
invariant-loop-rest l = (l.passed + length l.rest ≡ length l.units) × (later l.passed (body_length_from l.escaped l.within l.rest) ≡ body_length l.units)

abbrev pub decreases-loop-rest : goal.decreases-loop-rest
decreases-loop-rest l = length l.rest
