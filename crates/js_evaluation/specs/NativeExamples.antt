-- Worked examples of the natives of objects and errors, and of their table.
use Rattle.std.specs.Prelude.{◌≡◌, List, [], ◌∷◌, map, codes, refl}
use Rattle.js_evaluation.specs.declared.fault.FaultCode.TheVariants as code
use Rattle.js_evaluation.specs.Expressions.{expression_node}
use Rattle.js_evaluation.specs.Statements.{statement_node}
use Rattle.js_evaluation.specs.Entries.{call_node, construct_node, load_node}
use Rattle.js_evaluation.specs.Evaluation.{evaluation}
use Rattle.js_evaluation.specs.Examples.{AreRight, Row, row, at, doing, gives, fails, fails_with}
use Rattle.std.specs.Fmt.{digits}
use Rattle.js_grammar.specs.Tokens.{piece_at, tokens_from}
use Rattle.js_grammar.specs.Literals.{text_from}
use Rattle.js_grammar.specs.Readers.{row_of, expect, name, any_word, semicolon, a_parameter, parameters}
use Rattle.js_grammar.specs.Expressions.{a_statement, a_part, expression, in_parentheses, an_argument, arguments, item_value, an_item, named_property, a_property, function_from, function_expression, new_arguments, new_expression, primary, a_suffix, suffixed, postfix, unary, an_operand, chain, level, conditional, assignment}
use Rattle.js_grammar.specs.Statements.{evaluated, block_from, block, first_value, a_declared, var_statement, one_branch, a_branch, otherwise, if_statement, do_statement, while_statement, optional_expression, for_from, for_in_from, for_var, for_value, for_statement, return_statement, throw_statement, clause_from, a_case, clauses, switch_statement, catch_part, finally_part, try_statement, function_statement, statement, deeper, script_within}
use Rattle.js_binding.specs.Numbered.{expression_numbered, optional_numbered, expressions_numbered, items_numbered, properties_numbered, suffix_numbered, suffixes_numbered, operands_numbered, function_numbered, statement_numbered, otherwise_numbered, statements_numbered, declarations_numbered, branches_numbered, start_numbered, target_numbered, clauses_numbered, handler_numbered}
use Rattle.run_trees.specs.WholeRun.{rest_of_run}
use Rattle.object_heap.specs.Fresh.{filled_objects, built_in_objects}
use Rattle.js_evaluation.specs.NativeTable.{natives, native_row, native_of}

-- ---- objects

abbrev objects : List Row
objects =
    -- an object as a text costs the entries of two natives: nine units in all
    row 9 (doing (codes "return '' + {};")) (gives (codes "[object Object]")) ∷
    -- eight are one too few
    row 8 (doing (codes "return '' + {};")) (fails code.FuelSpent (at 1 44)) ∷
    -- a native may stand for the function of the script: four units in all
    row 4 (codes "var FindProxyForURL = toString;") (gives (codes "[object Object]")) ∷
    -- three are one too few
    row 3 (codes "var FindProxyForURL = toString;") (fails code.FuelSpent (at 0 0)) ∷
    -- a function has no text
    row 1000 (doing (codes "return '' + function () { };")) (fails_with code.Unsupported (at 1 44) (codes "Function.prototype.toString")) ∷
    -- `new` before a native that constructs nothing, which has no entry: eight units to there
    row 8 (doing (codes "new ({}).toString();")) (fails_with code.Unsupported (at 1 34) (codes "Object.prototype.toString")) ∷
    -- the class of an error and of a function
    row 1000 (doing (codes "var e = new Error(), o = {t: ({}).toString}; e.t = o.t; toString.t = o.t; return e.t() + toString.t();")) (gives (codes "[object Error][object Function]")) ∷
    -- that of a primitive value that is the receiver
    row 1000 (doing (codes "Error.prototype.t = ({}).toString; return new Error().t();")) (gives (codes "[object Error]")) ∷
    -- a native that is called as a name has the global object as its `this`
    row 1000 (doing (codes "return toString();")) (gives (codes "[object Object]")) ∷
    []

pub objects-hold : AreRight objects
unfolding piece_at tokens_from text_from row_of expect name any_word semicolon a_parameter parameters a_statement a_part expression in_parentheses an_argument arguments item_value an_item named_property a_property function_from function_expression new_arguments new_expression primary a_suffix suffixed postfix unary an_operand chain level conditional assignment evaluated block_from block first_value a_declared var_statement one_branch a_branch otherwise if_statement do_statement while_statement optional_expression for_from for_in_from for_var for_value for_statement return_statement throw_statement clause_from a_case clauses switch_statement catch_part finally_part try_statement function_statement statement deeper script_within expression_numbered optional_numbered expressions_numbered items_numbered properties_numbered suffix_numbered suffixes_numbered operands_numbered function_numbered statement_numbered otherwise_numbered statements_numbered declarations_numbered branches_numbered start_numbered target_numbered clauses_numbered handler_numbered rest_of_run filled_objects built_in_objects expression_node statement_node call_node construct_node load_node evaluation digits natives native_row native_of
objects-hold = refl

-- ---- errors

abbrev errors : List Row
errors =
    -- an error that nothing handles
    row 1000 (doing (codes "throw new Error('m');")) (fails_with code.Uncaught (at 1 34) (codes "Error: m")) ∷
    -- without `new` and without a message
    row 1000 (doing (codes "throw TypeError();")) (fails_with code.Uncaught (at 1 34) (codes "TypeError")) ∷
    -- an error as a text
    row 1000 (doing (codes "return '' + new RangeError('r');")) (gives (codes "RangeError: r")) ∷
    -- an empty name is left out, a missing one is `Error`, and so it is with the message
    row 1000 (doing (codes "var e = new TypeError('m'), s; e.name = ''; s = e + ' '; e.name = undefined; s += e + ' '; e.message = undefined; return s + e;")) (gives (codes "m Error: m Error")) ∷
    -- the method takes any object
    row 1000 (doing (codes "return (0, new Error().toString)();")) (gives (codes "Error")) ∷
    -- but no primitive value
    row 1000 (doing (codes "var o = 1; return new Error().toString(o) + null.x;")) (fails_with code.Uncaught (at 1 82) (codes "TypeError: not an object")) ∷
    -- the message is converted, and an undefined one is none
    row 1000 (doing (codes "return new Error({toString: function () { return 'm'; }}).message + new Error(undefined).message + new Error(null).message;")) (gives (codes "mnull")) ∷
    -- an error of a kind is an error
    row 1000 (doing (codes "return '' + (new TypeError() instanceof Error) + (new Error() instanceof TypeError);")) (gives (codes "truefalse")) ∷
    -- the prototype of a constructor can't be written or deleted
    row 1000 (doing (codes "var p = Error.prototype; Error.prototype = 1; return '' + (Error.prototype === p) + delete Error.prototype;")) (gives (codes "truefalse")) ∷
    -- an error of the engine is an instance of its constructor
    row 1000 (doing (codes "try { null.x; } catch (e) { return '' + (e instanceof TypeError) + (e instanceof RangeError); }")) (gives (codes "truefalse")) ∷
    []

pub errors-hold : AreRight errors
unfolding piece_at tokens_from text_from row_of expect name any_word semicolon a_parameter parameters a_statement a_part expression in_parentheses an_argument arguments item_value an_item named_property a_property function_from function_expression new_arguments new_expression primary a_suffix suffixed postfix unary an_operand chain level conditional assignment evaluated block_from block first_value a_declared var_statement one_branch a_branch otherwise if_statement do_statement while_statement optional_expression for_from for_in_from for_var for_value for_statement return_statement throw_statement clause_from a_case clauses switch_statement catch_part finally_part try_statement function_statement statement deeper script_within expression_numbered optional_numbered expressions_numbered items_numbered properties_numbered suffix_numbered suffixes_numbered operands_numbered function_numbered statement_numbered otherwise_numbered statements_numbered declarations_numbered branches_numbered start_numbered target_numbered clauses_numbered handler_numbered rest_of_run filled_objects built_in_objects expression_node statement_node call_node construct_node load_node evaluation digits natives native_row native_of
errors-hold = refl

-- ---- the cells of errors

abbrev cells_of_errors : List Row
cells_of_errors =
    -- an error without a message is one cell
    row 1000 (doing (codes "var i; new Error(undefined); for (i = 0; i < 19; i++) [].length = 100000; [].length = 99969; return 'x';")) (gives (codes "x")) ∷
    -- with one cell less it is full
    row 1000 (doing (codes "var i; new Error(undefined); for (i = 0; i < 19; i++) [].length = 100000; [].length = 99970; return 'x';")) (fails code.HeapFull (at 1 118)) ∷
    -- one with a message two
    row 1000 (doing (codes "var i; Error(1); for (i = 0; i < 19; i++) [].length = 100000; [].length = 99968; return 'x';")) (gives (codes "x")) ∷
    -- with one cell less it is full
    row 1000 (doing (codes "var i; Error(1); for (i = 0; i < 19; i++) [].length = 100000; [].length = 99969; return 'x';")) (fails code.HeapFull (at 1 106)) ∷
    []

pub cells_of_errors-hold : AreRight cells_of_errors
unfolding piece_at tokens_from text_from row_of expect name any_word semicolon a_parameter parameters a_statement a_part expression in_parentheses an_argument arguments item_value an_item named_property a_property function_from function_expression new_arguments new_expression primary a_suffix suffixed postfix unary an_operand chain level conditional assignment evaluated block_from block first_value a_declared var_statement one_branch a_branch otherwise if_statement do_statement while_statement optional_expression for_from for_in_from for_var for_value for_statement return_statement throw_statement clause_from a_case clauses switch_statement catch_part finally_part try_statement function_statement statement deeper script_within expression_numbered optional_numbered expressions_numbered items_numbered properties_numbered suffix_numbered suffixes_numbered operands_numbered function_numbered statement_numbered otherwise_numbered statements_numbered declarations_numbered branches_numbered start_numbered target_numbered clauses_numbered handler_numbered rest_of_run filled_objects built_in_objects expression_node statement_node call_node construct_node load_node evaluation digits natives native_row native_of
cells_of_errors-hold = refl

-- ---- depth of natives

abbrev depth_of_natives : List Row
depth_of_natives =
    -- the entry of a native is open while it calls the script: each entry of f is four parts deeper
    row 20000 (doing (codes "function f() { return Error({toString: f}); } f();")) (fails code.TooDeep (at 1 49)) ∷
    -- what a native calls has the place of the call: eleven units to there
    row 10 (doing (codes "Error({toString: function () { return 'm'; }});")) (fails code.FuelSpent (at 1 39)) ∷
    []

pub depth_of_natives-hold : AreRight depth_of_natives
unfolding piece_at tokens_from text_from row_of expect name any_word semicolon a_parameter parameters a_statement a_part expression in_parentheses an_argument arguments item_value an_item named_property a_property function_from function_expression new_arguments new_expression primary a_suffix suffixed postfix unary an_operand chain level conditional assignment evaluated block_from block first_value a_declared var_statement one_branch a_branch otherwise if_statement do_statement while_statement optional_expression for_from for_in_from for_var for_value for_statement return_statement throw_statement clause_from a_case clauses switch_statement catch_part finally_part try_statement function_statement statement deeper script_within expression_numbered optional_numbered expressions_numbered items_numbered properties_numbered suffix_numbered suffixes_numbered operands_numbered function_numbered statement_numbered otherwise_numbered statements_numbered declarations_numbered branches_numbered start_numbered target_numbered clauses_numbered handler_numbered rest_of_run filled_objects built_in_objects expression_node statement_node call_node construct_node load_node evaluation digits natives native_row native_of
depth_of_natives-hold = refl

-- ---- the texts of natives

abbrev texts_of_natives : List Row
texts_of_natives =
    -- Of 32 units that are left, the text of a native takes 15, and so does the sum with it; then two are left.
    row 2000 (doing (codes "var t = '0123456789abcdef', s = t, i; for (i = 0; i < 14; i++) s += s; for (i = 0; i < 62; i++) s + ''; '' + {}; 'a' + 'bc';")) (fails code.TextSpent (at 1 151)) ∷
    []

pub texts_of_natives-hold : AreRight texts_of_natives
unfolding piece_at tokens_from text_from row_of expect name any_word semicolon a_parameter parameters a_statement a_part expression in_parentheses an_argument arguments item_value an_item named_property a_property function_from function_expression new_arguments new_expression primary a_suffix suffixed postfix unary an_operand chain level conditional assignment evaluated block_from block first_value a_declared var_statement one_branch a_branch otherwise if_statement do_statement while_statement optional_expression for_from for_in_from for_var for_value for_statement return_statement throw_statement clause_from a_case clauses switch_statement catch_part finally_part try_statement function_statement statement deeper script_within expression_numbered optional_numbered expressions_numbered items_numbered properties_numbered suffix_numbered suffixes_numbered operands_numbered function_numbered statement_numbered otherwise_numbered statements_numbered declarations_numbered branches_numbered start_numbered target_numbered clauses_numbered handler_numbered rest_of_run filled_objects built_in_objects expression_node statement_node call_node construct_node load_node evaluation digits natives native_row native_of
texts_of_natives-hold = refl

-- ---- the table of natives

-- the row of each native is the one in the place of its number: none has two
pub rows_are_found : map (λ r. native_row r.native) natives ≡ natives
unfolding natives native_row
rows_are_found = refl
