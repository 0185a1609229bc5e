-- Worked examples of the natives of texts, numbers, objects and arrays.
use Rattle.std.specs.Prelude.{List, [], ◌∷◌, codes, refl}
use Rattle.js_evaluation.specs.declared.fault.FaultCode.TheVariants as code
use Rattle.js_evaluation.specs.Expressions.{expression_node}
use Rattle.js_evaluation.specs.Statements.{statement_node}
use Rattle.js_evaluation.specs.Entries.{call_node, construct_node, load_node}
use Rattle.js_evaluation.specs.Evaluation.{evaluation}
use Rattle.js_evaluation.specs.Examples.{AreRight, Row, row, at, doing, gives, fails}
use Rattle.std.specs.Fmt.{digits}
use Rattle.js_grammar.specs.Tokens.{piece_at, tokens_from}
use Rattle.js_grammar.specs.Literals.{text_from}
use Rattle.js_grammar.specs.Readers.{row_of, expect, name, any_word, semicolon, a_parameter, parameters}
use Rattle.js_grammar.specs.Expressions.{a_statement, a_part, expression, in_parentheses, an_argument, arguments, item_value, an_item, named_property, a_property, function_from, function_expression, new_arguments, new_expression, primary, a_suffix, suffixed, postfix, unary, an_operand, chain, level, conditional, assignment}
use Rattle.js_grammar.specs.Statements.{evaluated, block_from, block, first_value, a_declared, var_statement, one_branch, a_branch, otherwise, if_statement, do_statement, while_statement, optional_expression, for_from, for_in_from, for_var, for_value, for_statement, return_statement, throw_statement, clause_from, a_case, clauses, switch_statement, catch_part, finally_part, try_statement, function_statement, statement, deeper, script_within}
use Rattle.js_binding.specs.Numbered.{expression_numbered, optional_numbered, expressions_numbered, items_numbered, properties_numbered, suffix_numbered, suffixes_numbered, operands_numbered, function_numbered, statement_numbered, otherwise_numbered, statements_numbered, declarations_numbered, branches_numbered, start_numbered, target_numbered, clauses_numbered, handler_numbered}
use Rattle.run_trees.specs.WholeRun.{rest_of_run}
use Rattle.object_heap.specs.Fresh.{filled_objects, built_in_objects}
use Rattle.js_evaluation.specs.NativeTable.{natives, native_row, native_of}

-- ---- texts

abbrev texts : List Row
texts =
    -- a place, and the number of pieces
    row 1000 (doing (codes "return '' + 'abcb'.lastIndexOf('b') + 'a,b'.split(',').length;")) (gives (codes "32")) ∷
    -- a negative end counts from the end (15.5.4.13)
    row 1000 (doing (codes "return ' Ab '.trim().toLowerCase() + 'abcd'.slice(1, -1).toUpperCase();")) (gives (codes "abBC")) ∷
    -- and so does a negative start of `substr` (B.2.3); `substring` takes its ends in either order (15.5.4.15)
    row 1000 (doing (codes "return 'abc'.replace('b', '$&$&') + 'abcde'.substr(-2) + 'abc'.substring(2, 0);")) (gives (codes "abbcdeab")) ∷
    -- a unit is modulo 2^16 (9.7)
    row 1000 (doing (codes "return 'a'.concat('b', 1) + 'abc'.charAt(1) + String.fromCharCode(97, 65633);")) (gives (codes "ab1baa")) ∷
    -- there is no unit
    row 1000 (doing (codes "return 'abc'.charCodeAt(3);")) (fails code.NotANumber (at 1 57)) ∷
    []

pub texts-hold : AreRight texts
unfolding piece_at tokens_from text_from row_of expect name any_word semicolon a_parameter parameters a_statement a_part expression in_parentheses an_argument arguments item_value an_item named_property a_property function_from function_expression new_arguments new_expression primary a_suffix suffixed postfix unary an_operand chain level conditional assignment evaluated block_from block first_value a_declared var_statement one_branch a_branch otherwise if_statement do_statement while_statement optional_expression for_from for_in_from for_var for_value for_statement return_statement throw_statement clause_from a_case clauses switch_statement catch_part finally_part try_statement function_statement statement deeper script_within expression_numbered optional_numbered expressions_numbered items_numbered properties_numbered suffix_numbered suffixes_numbered operands_numbered function_numbered statement_numbered otherwise_numbered statements_numbered declarations_numbered branches_numbered start_numbered target_numbered clauses_numbered handler_numbered rest_of_run filled_objects built_in_objects expression_node statement_node call_node construct_node load_node evaluation digits natives native_row native_of
texts-hold = refl

-- ---- numbers

abbrev numbers : List Row
numbers =
    -- a numeral in front (15.1.2.2), and digits above 9 (15.7.4.2)
    row 1000 (doing (codes "return '' + (parseInt('12px') + Math.max(1, 3)) + (255).toString(16) + isNaN('x');")) (gives (codes "15fftrue")) ∷
    -- nothing is 0 (15.7.1.1)
    row 1000 (doing (codes "return '' + Number('7') + Number() + Math.abs(-2) + Math.min(3, '2');")) (gives (codes "7022")) ∷
    []

pub numbers-hold : AreRight numbers
unfolding piece_at tokens_from text_from row_of expect name any_word semicolon a_parameter parameters a_statement a_part expression in_parentheses an_argument arguments item_value an_item named_property a_property function_from function_expression new_arguments new_expression primary a_suffix suffixed postfix unary an_operand chain level conditional assignment evaluated block_from block first_value a_declared var_statement one_branch a_branch otherwise if_statement do_statement while_statement optional_expression for_from for_in_from for_var for_value for_statement return_statement throw_statement clause_from a_case clauses switch_statement catch_part finally_part try_statement function_statement statement deeper script_within expression_numbered optional_numbered expressions_numbered items_numbered properties_numbered suffix_numbered suffixes_numbered operands_numbered function_numbered statement_numbered otherwise_numbered statements_numbered declarations_numbered branches_numbered start_numbered target_numbered clauses_numbered handler_numbered rest_of_run filled_objects built_in_objects expression_node statement_node call_node construct_node load_node evaluation digits natives native_row native_of
numbers-hold = refl

-- ---- objects and arrays

abbrev objects_and_arrays : List Row
objects_and_arrays =
    -- an array as a text is joined by commas (15.4.4.2)
    row 1000 (doing (codes "return Object.keys({x: 1, y: 2}) + ({x: 1}).hasOwnProperty('x') + Array.isArray([]);")) (gives (codes "x,ytruetrue")) ∷
    -- null has no text (15.4.4.5)
    row 1000 (doing (codes "return [1, null, [2, 3]].join('-');")) (gives (codes "1--2,3")) ∷
    -- one number is a length (15.4.2.2)
    row 1000 (doing (codes "return '' + new Array(3).length + Array(1, 2) + new Object() + Boolean('') + String(5);")) (gives (codes "31,2[object Object]false5")) ∷
    []

pub objects_and_arrays-hold : AreRight objects_and_arrays
unfolding piece_at tokens_from text_from row_of expect name any_word semicolon a_parameter parameters a_statement a_part expression in_parentheses an_argument arguments item_value an_item named_property a_property function_from function_expression new_arguments new_expression primary a_suffix suffixed postfix unary an_operand chain level conditional assignment evaluated block_from block first_value a_declared var_statement one_branch a_branch otherwise if_statement do_statement while_statement optional_expression for_from for_in_from for_var for_value for_statement return_statement throw_statement clause_from a_case clauses switch_statement catch_part finally_part try_statement function_statement statement deeper script_within expression_numbered optional_numbered expressions_numbered items_numbered properties_numbered suffix_numbered suffixes_numbered operands_numbered function_numbered statement_numbered otherwise_numbered statements_numbered declarations_numbered branches_numbered start_numbered target_numbered clauses_numbered handler_numbered rest_of_run filled_objects built_in_objects expression_node statement_node call_node construct_node load_node evaluation digits natives native_row native_of
objects_and_arrays-hold = refl
