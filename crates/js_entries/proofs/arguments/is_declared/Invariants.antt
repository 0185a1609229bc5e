use Rattle.std.proofs.Common.{◌≡◌, length}
use Rattle.js_tree.specs.Tree.{statements_of}
use Rattle.js_binding.specs.Names.{arguments_name, functions_of}
use Rattle.js_evaluation.specs.Entries.{has_name}
use Rattle.js_entries.proofs.arguments.is_declared.Given as goal

abbrev pub invariant-loop-left : goal.invariant-loop-left
invariant-loop-left l = has_name arguments_name (functions_of (statements_of l.left)) ≡ has_name arguments_name (functions_of (statements_of l.body))

abbrev pub decreases-loop-left : goal.decreases-loop-left
decreases-loop-left l = length l.left
