-- The measure of each function is the size of its tree; a loop has added the sites of what it passed.
use Rattle.std.proofs.Common.{◌≡◌, ◌≤◌, ◌++◌, length}
use Rattle.std.specs.Option.{option_copied}
use Rattle.js_tree.specs.Size.{expression_size, optional_expression_size, expressions_size, items_size, properties_size, suffix_size, suffixes_size, operands_size}
use Rattle.js_tree.specs.Tree.{optional_of, expressions_of, items_of}
use Rattle.js_tree.specs.View.{properties_of, suffix_of, suffixes_of, operands_of}
use Rattle.js_sites.specs.Sites.{row_sites, items_sites, properties_sites, suffixes_sites, operands_sites}
use Rattle.js_sites.proofs.expressions.+expressions.Given as goal

abbrev pub decreases-add_expression : goal.decreases-add_expression
decreases-add_expression l = expression_size l.e.now

abbrev pub decreases-add_optional : goal.decreases-add_optional
decreases-add_optional l = optional_expression_size (optional_of l.o.now)

abbrev pub decreases-add_suffix : goal.decreases-add_suffix
decreases-add_suffix l = suffix_size (suffix_of l.one.now.place l.one.now.node)

abbrev pub decreases-add_row : goal.decreases-add_row
decreases-add_row l = expressions_size (expressions_of l.all.now)

abbrev pub invariant-add_row-loop-left : goal.invariant-add_row-loop-left
invariant-add_row-loop-left l = (expressions_size (expressions_of l.left) ≤ expressions_size (expressions_of l.all)) × (l.found ++ row_sites (option_copied l.function) (option_copied l.beside) l.number (expressions_of l.left) ≡ l.initial.found ++ row_sites (option_copied l.fn.function) (option_copied l.fn.beside) 0 (expressions_of l.all))

abbrev pub decreases-add_row-loop-left : goal.decreases-add_row-loop-left
decreases-add_row-loop-left l = length l.left

abbrev pub decreases-add_items : goal.decreases-add_items
decreases-add_items l = items_size (items_of l.all.now)

abbrev pub invariant-add_items-loop-left : goal.invariant-add_items-loop-left
invariant-add_items-loop-left l = (items_size (items_of l.left) ≤ items_size (items_of l.all)) × (l.found ++ items_sites (items_of l.left) ≡ l.initial.found ++ items_sites (items_of l.all))

abbrev pub decreases-add_items-loop-left : goal.decreases-add_items-loop-left
decreases-add_items-loop-left l = length l.left

abbrev pub decreases-add_properties : goal.decreases-add_properties
decreases-add_properties l = properties_size (properties_of l.all.now)

abbrev pub invariant-add_properties-loop-left : goal.invariant-add_properties-loop-left
invariant-add_properties-loop-left l = (properties_size (properties_of l.left) ≤ properties_size (properties_of l.all)) × (l.found ++ properties_sites (properties_of l.left) ≡ l.initial.found ++ properties_sites (properties_of l.all))

abbrev pub decreases-add_properties-loop-left : goal.decreases-add_properties-loop-left
decreases-add_properties-loop-left l = length l.left

abbrev pub decreases-add_suffixes : goal.decreases-add_suffixes
decreases-add_suffixes l = suffixes_size (suffixes_of l.all.now)

abbrev pub invariant-add_suffixes-loop-left : goal.invariant-add_suffixes-loop-left
invariant-add_suffixes-loop-left l = (suffixes_size (suffixes_of l.left) ≤ suffixes_size (suffixes_of l.all)) × (l.found ++ suffixes_sites (option_copied l.object) (option_copied l.leading) (suffixes_of l.left) ≡ l.initial.found ++ suffixes_sites (option_copied l.fn.object) (option_copied l.fn.leading) (suffixes_of l.all))

abbrev pub decreases-add_suffixes-loop-left : goal.decreases-add_suffixes-loop-left
decreases-add_suffixes-loop-left l = length l.left

abbrev pub decreases-add_operands : goal.decreases-add_operands
decreases-add_operands l = operands_size (operands_of l.all.now)

abbrev pub invariant-add_operands-loop-left : goal.invariant-add_operands-loop-left
invariant-add_operands-loop-left l = (operands_size (operands_of l.left) ≤ operands_size (operands_of l.all)) × (l.found ++ operands_sites (option_copied l.beside) (operands_of l.left) ≡ l.initial.found ++ operands_sites (option_copied l.beside) (operands_of l.all))

abbrev pub decreases-add_operands-loop-left : goal.decreases-add_operands-loop-left
decreases-add_operands-loop-left l = length l.left
