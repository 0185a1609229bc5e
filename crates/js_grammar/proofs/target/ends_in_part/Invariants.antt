use Rattle.std.proofs.Common.{◌≡◌, length, false}
use Rattle.js_tree.specs.View.{suffixes_of}
use Rattle.js_grammar.specs.Operators.{ends_in_part}
use Rattle.js_grammar.proofs.target.ends_in_part.Given as goal

abbrev pub invariant-loop-rest : goal.invariant-loop-rest
invariant-loop-rest l = ends_in_part l.part (suffixes_of l.rest) ≡ ends_in_part false (suffixes_of l.suffixes)

abbrev pub decreases-loop-rest : goal.decreases-loop-rest
decreases-loop-rest l = length l.rest
