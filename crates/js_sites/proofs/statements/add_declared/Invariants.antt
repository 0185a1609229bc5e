use Rattle.std.proofs.Common.{◌≡◌, ◌++◌, length}
use Rattle.js_tree.specs.View.{declarations_of}
use Rattle.js_sites.specs.Sites.{declarations_sites}
use Rattle.js_sites.proofs.statements.add_declared.Given as goal

abbrev pub invariant-loop-left : goal.invariant-loop-left
invariant-loop-left l = l.found ++ declarations_sites (declarations_of l.left) ≡ l.initial.found ++ declarations_sites (declarations_of l.all)

abbrev pub decreases-loop-left : goal.decreases-loop-left
decreases-loop-left l = length l.left
