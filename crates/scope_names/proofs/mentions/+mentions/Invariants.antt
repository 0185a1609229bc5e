-- The measure of each function is the size of its tree; a loop has passed no tree that mentions the name.
use Rattle.std.proofs.Common.{◌≡◌, ◌≤◌, length}
use Rattle.js_tree.specs.Size.{expression_size, optional_expression_size, expressions_size, items_size, properties_size, suffix_size, suffixes_size, operands_size}
use Rattle.js_tree.specs.Tree.{optional_of, expressions_of, items_of}
use Rattle.js_tree.specs.View.{properties_of, suffix_of, suffixes_of, operands_of}
use Rattle.js_binding.specs.Names.{mentions_in_expressions, mentions_in_items, mentions_in_properties, mentions_in_suffixes, mentions_in_operands}
use Rattle.scope_names.proofs.mentions.+mentions.Given as goal

abbrev pub decreases-mentions : goal.decreases-mentions
decreases-mentions l = expression_size l.e.now

abbrev pub decreases-in_optional : goal.decreases-in_optional
decreases-in_optional l = optional_expression_size (optional_of l.o.now)

abbrev pub decreases-in_suffix : goal.decreases-in_suffix
decreases-in_suffix l = suffix_size (suffix_of l.one.now.place l.one.now.node)

abbrev pub decreases-in_expressions : goal.decreases-in_expressions
decreases-in_expressions l = expressions_size (expressions_of l.all.now)

abbrev pub invariant-in_expressions-loop-left : goal.invariant-in_expressions-loop-left
invariant-in_expressions-loop-left l = (expressions_size (expressions_of l.left) ≤ expressions_size (expressions_of l.all)) × (mentions_in_expressions l.x (expressions_of l.left) ≡ mentions_in_expressions l.x (expressions_of l.all))

abbrev pub decreases-in_expressions-loop-left : goal.decreases-in_expressions-loop-left
decreases-in_expressions-loop-left l = length l.left

abbrev pub decreases-in_items : goal.decreases-in_items
decreases-in_items l = items_size (items_of l.all.now)

abbrev pub invariant-in_items-loop-left : goal.invariant-in_items-loop-left
invariant-in_items-loop-left l = (items_size (items_of l.left) ≤ items_size (items_of l.all)) × (mentions_in_items l.x (items_of l.left) ≡ mentions_in_items l.x (items_of l.all))

abbrev pub decreases-in_items-loop-left : goal.decreases-in_items-loop-left
decreases-in_items-loop-left l = length l.left

abbrev pub decreases-in_properties : goal.decreases-in_properties
decreases-in_properties l = properties_size (properties_of l.all.now)

abbrev pub invariant-in_properties-loop-left : goal.invariant-in_properties-loop-left
invariant-in_properties-loop-left l = (properties_size (properties_of l.left) ≤ properties_size (properties_of l.all)) × (mentions_in_properties l.x (properties_of l.left) ≡ mentions_in_properties l.x (properties_of l.all))

abbrev pub decreases-in_properties-loop-left : goal.decreases-in_properties-loop-left
decreases-in_properties-loop-left l = length l.left

abbrev pub decreases-in_suffixes : goal.decreases-in_suffixes
decreases-in_suffixes l = suffixes_size (suffixes_of l.all.now)

abbrev pub invariant-in_suffixes-loop-left : goal.invariant-in_suffixes-loop-left
invariant-in_suffixes-loop-left l = (suffixes_size (suffixes_of l.left) ≤ suffixes_size (suffixes_of l.all)) × (mentions_in_suffixes l.x (suffixes_of l.left) ≡ mentions_in_suffixes l.x (suffixes_of l.all))

abbrev pub decreases-in_suffixes-loop-left : goal.decreases-in_suffixes-loop-left
decreases-in_suffixes-loop-left l = length l.left

abbrev pub decreases-in_operands : goal.decreases-in_operands
decreases-in_operands l = operands_size (operands_of l.all.now)

abbrev pub invariant-in_operands-loop-left : goal.invariant-in_operands-loop-left
invariant-in_operands-loop-left l = (operands_size (operands_of l.left) ≤ operands_size (operands_of l.all)) × (mentions_in_operands l.x (operands_of l.left) ≡ mentions_in_operands l.x (operands_of l.all))

abbrev pub decreases-in_operands-loop-left : goal.decreases-in_operands-loop-left
decreases-in_operands-loop-left l = length l.left
