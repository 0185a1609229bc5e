-- The measure of each call is the size of its tree, with room for the call between a node and its parts; a loop has
-- written what it passed.
use Rattle.std.proofs.Common.{◌≡◌, ◌+◌, ◌≤◌, ◌*◌, length}
use Rattle.js_tree.specs.Size.{expression_size, optional_expression_size, expressions_size, items_size, properties_size, suffix_size, suffixes_size, operands_size, function_size, statement_size, optional_statement_size, statements_size, declarations_size, branches_size, start_size, target_size, clauses_size, catch_size}
use Rattle.js_tree.specs.Tree.{optional_of, expressions_of, items_of, statements_of}
use Rattle.js_tree.specs.View.{properties_of, suffix_of, suffixes_of, operands_of, function_of, declarations_of, branches_of, clauses_of, optional_box, optional_statement, start_of, optional_start, target_of, optional_catch}
use Rattle.js_grammar.specs.Printing.{expressions_tokens, items_tokens, properties_tokens, suffixes_tokens, operands_tokens, statements_tokens, declarations_tokens, branches_tokens, clauses_tokens}
use Rattle.js_printer.specs.Written.{written}
use Rattle.js_printer.proofs.printer.Printer.+print.Given as goal

abbrev pub decreases-put_expression : goal.decreases-put_expression
decreases-put_expression l = 3 * expression_size l.e.now

abbrev pub decreases-put_boxed : goal.decreases-put_boxed
decreases-put_boxed l = 3 * optional_expression_size (optional_box l.o.now)

abbrev pub decreases-put_item : goal.decreases-put_item
decreases-put_item l = 3 * optional_expression_size (optional_of l.item.now)

abbrev pub decreases-put_suffix : goal.decreases-put_suffix
decreases-put_suffix l = 3 * suffix_size (suffix_of l.one.now.place l.one.now.node)

abbrev pub decreases-put_function : goal.decreases-put_function
decreases-put_function l = 3 * function_size (function_of l.f.now)

abbrev pub decreases-put_statement : goal.decreases-put_statement
decreases-put_statement l = 3 * statement_size l.s.now

abbrev pub decreases-put_otherwise : goal.decreases-put_otherwise
decreases-put_otherwise l = 3 * optional_statement_size (optional_statement l.o.now)

abbrev pub decreases-put_finally : goal.decreases-put_finally
decreases-put_finally l = 3 * optional_statement_size (optional_statement l.o.now)

abbrev pub decreases-put_first_value : goal.decreases-put_first_value
decreases-put_first_value l = 3 * optional_expression_size (optional_of l.o.now)

abbrev pub decreases-put_start : goal.decreases-put_start
decreases-put_start l = 3 * start_size (optional_start l.o.now) + 1

abbrev pub decreases-put_some_start : goal.decreases-put_some_start
decreases-put_some_start l = 3 * start_size (start_of l.start.now)

abbrev pub decreases-put_target : goal.decreases-put_target
decreases-put_target l = 3 * target_size (target_of l.target.now)

abbrev pub decreases-put_test : goal.decreases-put_test
decreases-put_test l = 3 * optional_expression_size (optional_of l.o.now)

abbrev pub decreases-put_catch : goal.decreases-put_catch
decreases-put_catch l = 3 * catch_size (optional_catch l.o.now)

abbrev pub decreases-put_expressions : goal.decreases-put_expressions
decreases-put_expressions l = 3 * expressions_size (expressions_of l.all.now)

abbrev pub invariant-put_expressions-loop-left : goal.invariant-put_expressions-loop-left
invariant-put_expressions-loop-left l = (expressions_size (expressions_of l.left) ≤ expressions_size (expressions_of l.all)) × (written l.self (expressions_tokens (expressions_of l.left)) ≡ written l.fn.self (expressions_tokens (expressions_of l.all)))

abbrev pub decreases-put_expressions-loop-left : goal.decreases-put_expressions-loop-left
decreases-put_expressions-loop-left l = length l.left

abbrev pub decreases-put_items : goal.decreases-put_items
decreases-put_items l = 3 * items_size (items_of l.all.now)

abbrev pub invariant-put_items-loop-left : goal.invariant-put_items-loop-left
invariant-put_items-loop-left l = (items_size (items_of l.left) ≤ items_size (items_of l.all)) × (written l.self (items_tokens (items_of l.left)) ≡ written l.fn.self (items_tokens (items_of l.all)))

abbrev pub decreases-put_items-loop-left : goal.decreases-put_items-loop-left
decreases-put_items-loop-left l = length l.left

abbrev pub decreases-put_properties : goal.decreases-put_properties
decreases-put_properties l = 3 * properties_size (properties_of l.all.now)

abbrev pub invariant-put_properties-loop-left : goal.invariant-put_properties-loop-left
invariant-put_properties-loop-left l = (properties_size (properties_of l.left) ≤ properties_size (properties_of l.all)) × (written l.self (properties_tokens (properties_of l.left)) ≡ written l.fn.self (properties_tokens (properties_of l.all)))

abbrev pub decreases-put_properties-loop-left : goal.decreases-put_properties-loop-left
decreases-put_properties-loop-left l = length l.left

abbrev pub decreases-put_suffixes : goal.decreases-put_suffixes
decreases-put_suffixes l = 3 * suffixes_size (suffixes_of l.all.now)

abbrev pub invariant-put_suffixes-loop-left : goal.invariant-put_suffixes-loop-left
invariant-put_suffixes-loop-left l = (suffixes_size (suffixes_of l.left) ≤ suffixes_size (suffixes_of l.all)) × (written l.self (suffixes_tokens (suffixes_of l.left)) ≡ written l.fn.self (suffixes_tokens (suffixes_of l.all)))

abbrev pub decreases-put_suffixes-loop-left : goal.decreases-put_suffixes-loop-left
decreases-put_suffixes-loop-left l = length l.left

abbrev pub decreases-put_operands : goal.decreases-put_operands
decreases-put_operands l = 3 * operands_size (operands_of l.all.now)

abbrev pub invariant-put_operands-loop-left : goal.invariant-put_operands-loop-left
invariant-put_operands-loop-left l = (operands_size (operands_of l.left) ≤ operands_size (operands_of l.all)) × (written l.self (operands_tokens (operands_of l.left)) ≡ written l.fn.self (operands_tokens (operands_of l.all)))

abbrev pub decreases-put_operands-loop-left : goal.decreases-put_operands-loop-left
decreases-put_operands-loop-left l = length l.left

abbrev pub decreases-put_statements : goal.decreases-put_statements
decreases-put_statements l = 3 * statements_size (statements_of l.all.now)

abbrev pub invariant-put_statements-loop-left : goal.invariant-put_statements-loop-left
invariant-put_statements-loop-left l = (statements_size (statements_of l.left) ≤ statements_size (statements_of l.all)) × (written l.self (statements_tokens (statements_of l.left)) ≡ written l.fn.self (statements_tokens (statements_of l.all)))

abbrev pub decreases-put_statements-loop-left : goal.decreases-put_statements-loop-left
decreases-put_statements-loop-left l = length l.left

abbrev pub decreases-put_declarations : goal.decreases-put_declarations
decreases-put_declarations l = 3 * declarations_size (declarations_of l.all.now)

abbrev pub invariant-put_declarations-loop-left : goal.invariant-put_declarations-loop-left
invariant-put_declarations-loop-left l = (declarations_size (declarations_of l.left) ≤ declarations_size (declarations_of l.all)) × (written l.self (declarations_tokens (declarations_of l.left)) ≡ written l.fn.self (declarations_tokens (declarations_of l.all)))

abbrev pub decreases-put_declarations-loop-left : goal.decreases-put_declarations-loop-left
decreases-put_declarations-loop-left l = length l.left

abbrev pub decreases-put_branches : goal.decreases-put_branches
decreases-put_branches l = 3 * branches_size (branches_of l.all.now)

abbrev pub invariant-put_branches-loop-left : goal.invariant-put_branches-loop-left
invariant-put_branches-loop-left l = (branches_size (branches_of l.left) ≤ branches_size (branches_of l.all)) × (written l.self (branches_tokens (branches_of l.left)) ≡ written l.fn.self (branches_tokens (branches_of l.all)))

abbrev pub decreases-put_branches-loop-left : goal.decreases-put_branches-loop-left
decreases-put_branches-loop-left l = length l.left

abbrev pub decreases-put_clauses : goal.decreases-put_clauses
decreases-put_clauses l = 3 * clauses_size (clauses_of l.all.now)

abbrev pub invariant-put_clauses-loop-left : goal.invariant-put_clauses-loop-left
invariant-put_clauses-loop-left l = (clauses_size (clauses_of l.left) ≤ clauses_size (clauses_of l.all)) × (written l.self (clauses_tokens (clauses_of l.left)) ≡ written l.fn.self (clauses_tokens (clauses_of l.all)))

abbrev pub decreases-put_clauses-loop-left : goal.decreases-put_clauses-loop-left
decreases-put_clauses-loop-left l = length l.left

abbrev pub decreases-put_array : goal.decreases-put_array
decreases-put_array l = 3 * items_size (items_of l.all.now) + 2

abbrev pub decreases-put_object : goal.decreases-put_object
decreases-put_object l = 3 * properties_size (properties_of l.all.now) + 2

abbrev pub decreases-put_function_expression : goal.decreases-put_function_expression
decreases-put_function_expression l = 3 * function_size (function_of l.f.now) + 2

abbrev pub decreases-put_suffixed : goal.decreases-put_suffixed
decreases-put_suffixed l = 3 * (expression_size l.first.now + suffixes_size (suffixes_of l.all.now)) + 2

abbrev pub decreases-put_new : goal.decreases-put_new
decreases-put_new l = 3 * (expression_size l.callee.now + expressions_size (expressions_of l.all.now)) + 2

abbrev pub decreases-put_update_expression : goal.decreases-put_update_expression
decreases-put_update_expression l = 3 * expression_size l.target.now + 2

abbrev pub decreases-put_unary_expression : goal.decreases-put_unary_expression
decreases-put_unary_expression l = 3 * expression_size l.operand.now + 2

abbrev pub decreases-put_chain : goal.decreases-put_chain
decreases-put_chain l = 3 * (expression_size l.first.now + operands_size (operands_of l.all.now)) + 2

abbrev pub decreases-put_conditional : goal.decreases-put_conditional
decreases-put_conditional l = 3 * (expression_size l.condition.now + expression_size l.a.now + expression_size l.b.now) + 2

abbrev pub decreases-put_assignment : goal.decreases-put_assignment
decreases-put_assignment l = 3 * (expression_size l.target.now + expression_size l.value.now) + 2

abbrev pub decreases-put_comma_expression : goal.decreases-put_comma_expression
decreases-put_comma_expression l = 3 * expressions_size (expressions_of l.all.now) + 2

abbrev pub decreases-put_block : goal.decreases-put_block
decreases-put_block l = 3 * statements_size (statements_of l.all.now) + 2

abbrev pub decreases-put_expression_statement : goal.decreases-put_expression_statement
decreases-put_expression_statement l = 3 * expression_size l.e.now + 2

abbrev pub decreases-put_var : goal.decreases-put_var
decreases-put_var l = 3 * declarations_size (declarations_of l.all.now) + 2

abbrev pub decreases-put_if : goal.decreases-put_if
decreases-put_if l = 3 * (branches_size (branches_of l.all.now) + optional_statement_size (optional_statement l.otherwise.now)) + 2

abbrev pub decreases-put_do_while : goal.decreases-put_do_while
decreases-put_do_while l = 3 * (statement_size l.body.now + expression_size l.condition.now) + 2

abbrev pub decreases-put_while : goal.decreases-put_while
decreases-put_while l = 3 * (expression_size l.condition.now + statement_size l.body.now) + 2

abbrev pub decreases-put_for : goal.decreases-put_for
decreases-put_for l = 3 * (start_size (optional_start l.start.now) + optional_expression_size (optional_box l.condition.now) + optional_expression_size (optional_box l.step.now) + statement_size l.body.now) + 2

abbrev pub decreases-put_for_in : goal.decreases-put_for_in
decreases-put_for_in l = 3 * (target_size (target_of l.target.now) + expression_size l.object.now + statement_size l.body.now) + 2

abbrev pub decreases-put_return : goal.decreases-put_return
decreases-put_return l = 3 * optional_expression_size (optional_box l.e.now) + 2

abbrev pub decreases-put_throw : goal.decreases-put_throw
decreases-put_throw l = 3 * expression_size l.e.now + 2

abbrev pub decreases-put_switch : goal.decreases-put_switch
decreases-put_switch l = 3 * (expression_size l.e.now + clauses_size (clauses_of l.all.now)) + 2

abbrev pub decreases-put_try : goal.decreases-put_try
decreases-put_try l = 3 * (statement_size l.block.now + catch_size (optional_catch l.catch.now) + optional_statement_size (optional_statement l.last.now)) + 2

abbrev pub decreases-put_function_declaration : goal.decreases-put_function_declaration
decreases-put_function_declaration l = 3 * function_size (function_of l.f.now) + 2
