use Rattle.std.proofs.Common.{◌≡◌, ◌++◌, length}
use Rattle.js_tree.specs.Tree.{statements_of}
use Rattle.js_binding.specs.Names.{functions_of}
use Rattle.scope_names.proofs.variables.add_functions.Given as goal

abbrev pub invariant-loop-left : goal.invariant-loop-left
invariant-loop-left l = l.names ++ functions_of (statements_of l.left) ≡ l.initial.names ++ functions_of (statements_of l.all)

abbrev pub decreases-loop-left : goal.decreases-loop-left
decreases-loop-left l = length l.left
