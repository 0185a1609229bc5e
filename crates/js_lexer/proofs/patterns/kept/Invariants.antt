use Rattle.std.proofs.Common.{◌≡◌, ◌++◌, length}
use Rattle.js_grammar.specs.Patterns.{kept, kept_from}
use Rattle.js_lexer.proofs.patterns.kept.Given as goal

abbrev pub invariant-loop-rest : goal.invariant-loop-rest
invariant-loop-rest l = l.out.items ++ kept_from l.escaped l.rest ≡ kept l.units

abbrev pub decreases-loop-rest : goal.decreases-loop-rest
decreases-loop-rest l = length l.rest
