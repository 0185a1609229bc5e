use Rattle.std.proofs.Common.{◌≡◌, length}
use Rattle.js_tree.specs.View.{declarations_of}
use Rattle.js_binding.specs.Names.{mentions_in_declarations}
use Rattle.scope_names.proofs.mentions.in_declared.Given as goal

abbrev pub invariant-loop-left : goal.invariant-loop-left
invariant-loop-left l = mentions_in_declarations l.x (declarations_of l.left) ≡ mentions_in_declarations l.x (declarations_of l.all)

abbrev pub decreases-loop-left : goal.decreases-loop-left
decreases-loop-left l = length l.left
