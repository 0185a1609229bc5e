-- The measure of each count is the size of its tree; a loop has counted what it passed.
use Rattle.std.proofs.Common.{◌≡◌, ◌+◌, ◌≤◌, min, length}
use Rattle.js_tree.specs.declared.count.TheConstants.{LIMIT}
use Rattle.js_tree.specs.Size.{expression_size, optional_expression_size, expressions_size, items_size, properties_size, suffix_size, suffixes_size, operands_size, function_size, statement_size, optional_statement_size, statements_size, declarations_size, branches_size, start_size, target_size, clauses_size, catch_size}
use Rattle.js_tree.specs.Tree.{optional_of, expressions_of, items_of, statements_of}
use Rattle.js_tree.specs.View.{properties_of, suffix_of, suffixes_of, operands_of, function_of, declarations_of, branches_of, clauses_of, optional_box, optional_statement, start_of, optional_start, target_of, optional_catch}
use Rattle.js_tree.proofs.count.+count.Given as goal

abbrev pub decreases-count_expression : goal.decreases-count_expression
decreases-count_expression l = expression_size l.e.now

abbrev pub decreases-count_optional : goal.decreases-count_optional
decreases-count_optional l = optional_expression_size (optional_of l.o.now)

abbrev pub decreases-count_boxed : goal.decreases-count_boxed
decreases-count_boxed l = optional_expression_size (optional_box l.o.now)

abbrev pub decreases-count_suffix : goal.decreases-count_suffix
decreases-count_suffix l = suffix_size (suffix_of l.one.now.place l.one.now.node)

abbrev pub decreases-count_function : goal.decreases-count_function
decreases-count_function l = function_size (function_of l.f.now)

abbrev pub decreases-count_statement : goal.decreases-count_statement
decreases-count_statement l = statement_size l.s.now

abbrev pub decreases-count_otherwise : goal.decreases-count_otherwise
decreases-count_otherwise l = optional_statement_size (optional_statement l.o.now)

abbrev pub decreases-count_start : goal.decreases-count_start
decreases-count_start l = start_size (optional_start l.o.now) + 1

abbrev pub decreases-count_some_start : goal.decreases-count_some_start
decreases-count_some_start l = start_size (start_of l.start.now)

abbrev pub decreases-count_target : goal.decreases-count_target
decreases-count_target l = target_size (target_of l.target.now)

abbrev pub decreases-count_catch : goal.decreases-count_catch
decreases-count_catch l = catch_size (optional_catch l.o.now)

abbrev pub decreases-count_expressions : goal.decreases-count_expressions
decreases-count_expressions l = expressions_size (expressions_of l.all.now)

abbrev pub invariant-count_expressions-loop-left : goal.invariant-count_expressions-loop-left
invariant-count_expressions-loop-left l = (l.count ≤ LIMIT) × (expressions_size (expressions_of l.left) ≤ expressions_size (expressions_of l.all)) × (min (l.count + expressions_size (expressions_of l.left)) LIMIT ≡ min (l.n + expressions_size (expressions_of l.all)) LIMIT)

abbrev pub decreases-count_expressions-loop-left : goal.decreases-count_expressions-loop-left
decreases-count_expressions-loop-left l = length l.left

abbrev pub decreases-count_items : goal.decreases-count_items
decreases-count_items l = items_size (items_of l.all.now)

abbrev pub invariant-count_items-loop-left : goal.invariant-count_items-loop-left
invariant-count_items-loop-left l = (l.count ≤ LIMIT) × (items_size (items_of l.left) ≤ items_size (items_of l.all)) × (min (l.count + items_size (items_of l.left)) LIMIT ≡ min (l.n + items_size (items_of l.all)) LIMIT)

abbrev pub decreases-count_items-loop-left : goal.decreases-count_items-loop-left
decreases-count_items-loop-left l = length l.left

abbrev pub decreases-count_properties : goal.decreases-count_properties
decreases-count_properties l = properties_size (properties_of l.all.now)

abbrev pub invariant-count_properties-loop-left : goal.invariant-count_properties-loop-left
invariant-count_properties-loop-left l = (l.count ≤ LIMIT) × (properties_size (properties_of l.left) ≤ properties_size (properties_of l.all)) × (min (l.count + properties_size (properties_of l.left)) LIMIT ≡ min (l.n + properties_size (properties_of l.all)) LIMIT)

abbrev pub decreases-count_properties-loop-left : goal.decreases-count_properties-loop-left
decreases-count_properties-loop-left l = length l.left

abbrev pub decreases-count_suffixes : goal.decreases-count_suffixes
decreases-count_suffixes l = suffixes_size (suffixes_of l.all.now)

abbrev pub invariant-count_suffixes-loop-left : goal.invariant-count_suffixes-loop-left
invariant-count_suffixes-loop-left l = (l.count ≤ LIMIT) × (suffixes_size (suffixes_of l.left) ≤ suffixes_size (suffixes_of l.all)) × (min (l.count + suffixes_size (suffixes_of l.left)) LIMIT ≡ min (l.n + suffixes_size (suffixes_of l.all)) LIMIT)

abbrev pub decreases-count_suffixes-loop-left : goal.decreases-count_suffixes-loop-left
decreases-count_suffixes-loop-left l = length l.left

abbrev pub decreases-count_operands : goal.decreases-count_operands
decreases-count_operands l = operands_size (operands_of l.all.now)

abbrev pub invariant-count_operands-loop-left : goal.invariant-count_operands-loop-left
invariant-count_operands-loop-left l = (l.count ≤ LIMIT) × (operands_size (operands_of l.left) ≤ operands_size (operands_of l.all)) × (min (l.count + operands_size (operands_of l.left)) LIMIT ≡ min (l.n + operands_size (operands_of l.all)) LIMIT)

abbrev pub decreases-count_operands-loop-left : goal.decreases-count_operands-loop-left
decreases-count_operands-loop-left l = length l.left

abbrev pub decreases-count_statements : goal.decreases-count_statements
decreases-count_statements l = statements_size (statements_of l.all.now)

abbrev pub invariant-count_statements-loop-left : goal.invariant-count_statements-loop-left
invariant-count_statements-loop-left l = (l.count ≤ LIMIT) × (statements_size (statements_of l.left) ≤ statements_size (statements_of l.all)) × (min (l.count + statements_size (statements_of l.left)) LIMIT ≡ min (l.n + statements_size (statements_of l.all)) LIMIT)

abbrev pub decreases-count_statements-loop-left : goal.decreases-count_statements-loop-left
decreases-count_statements-loop-left l = length l.left

abbrev pub decreases-count_declared : goal.decreases-count_declared
decreases-count_declared l = declarations_size (declarations_of l.all.now)

abbrev pub invariant-count_declared-loop-left : goal.invariant-count_declared-loop-left
invariant-count_declared-loop-left l = (l.count ≤ LIMIT) × (declarations_size (declarations_of l.left) ≤ declarations_size (declarations_of l.all)) × (min (l.count + declarations_size (declarations_of l.left)) LIMIT ≡ min (l.n + declarations_size (declarations_of l.all)) LIMIT)

abbrev pub decreases-count_declared-loop-left : goal.decreases-count_declared-loop-left
decreases-count_declared-loop-left l = length l.left

abbrev pub decreases-count_branches : goal.decreases-count_branches
decreases-count_branches l = branches_size (branches_of l.all.now)

abbrev pub invariant-count_branches-loop-left : goal.invariant-count_branches-loop-left
invariant-count_branches-loop-left l = (l.count ≤ LIMIT) × (branches_size (branches_of l.left) ≤ branches_size (branches_of l.all)) × (min (l.count + branches_size (branches_of l.left)) LIMIT ≡ min (l.n + branches_size (branches_of l.all)) LIMIT)

abbrev pub decreases-count_branches-loop-left : goal.decreases-count_branches-loop-left
decreases-count_branches-loop-left l = length l.left

abbrev pub decreases-count_clauses : goal.decreases-count_clauses
decreases-count_clauses l = clauses_size (clauses_of l.all.now)

abbrev pub invariant-count_clauses-loop-left : goal.invariant-count_clauses-loop-left
invariant-count_clauses-loop-left l = (l.count ≤ LIMIT) × (clauses_size (clauses_of l.left) ≤ clauses_size (clauses_of l.all)) × (min (l.count + clauses_size (clauses_of l.left)) LIMIT ≡ min (l.n + clauses_size (clauses_of l.all)) LIMIT)

abbrev pub decreases-count_clauses-loop-left : goal.decreases-count_clauses-loop-left
decreases-count_clauses-loop-left l = length l.left
