use Rattle.std.proofs.Common.{◌≡◌, length}
use Rattle.js_tree.specs.View.{clauses_of}
use Rattle.js_ends.specs.Ends.{has_default}
use Rattle.js_ends.proofs.statements.has_default.Given as goal

abbrev pub invariant-loop-left : goal.invariant-loop-left
invariant-loop-left l = has_default (clauses_of l.left) ≡ has_default (clauses_of l.all)

abbrev pub decreases-loop-left : goal.decreases-loop-left
decreases-loop-left l = length l.left
