-- Worked examples of what evaluation costs: fuel, depth and cells.
use Rattle.std.specs.Prelude.{List, [], ◌∷◌, codes, refl}
use Rattle.js_evaluation.specs.declared.fault.FaultCode.TheVariants as code
use Rattle.js_evaluation.specs.Expressions.{expression_node}
use Rattle.js_evaluation.specs.Statements.{statement_node}
use Rattle.js_evaluation.specs.Entries.{call_node, construct_node, load_node}
use Rattle.js_evaluation.specs.Evaluation.{evaluation}
use Rattle.js_evaluation.specs.Examples.{Row, row, AreRight, at, doing, gives, fails, fails_with}
use Rattle.std.specs.Fmt.{digits}
use Rattle.js_grammar.specs.Tokens.{piece_at, tokens_from}
use Rattle.js_grammar.specs.Literals.{text_from}
use Rattle.js_grammar.specs.Readers.{row_of, expect, name, any_word, semicolon, a_parameter, parameters}
use Rattle.js_grammar.specs.Expressions.{a_statement, a_part, expression, in_parentheses, an_argument, arguments, item_value, an_item, named_property, a_property, function_from, function_expression, new_arguments, new_expression, primary, a_suffix, suffixed, postfix, unary, an_operand, chain, level, conditional, assignment}
use Rattle.js_grammar.specs.Statements.{evaluated, block_from, block, first_value, a_declared, var_statement, one_branch, a_branch, otherwise, if_statement, do_statement, while_statement, optional_expression, for_from, for_in_from, for_var, for_value, for_statement, return_statement, throw_statement, clause_from, a_case, clauses, switch_statement, catch_part, finally_part, try_statement, function_statement, statement, deeper, script_within}
use Rattle.js_binding.specs.Numbered.{expression_numbered, optional_numbered, expressions_numbered, items_numbered, properties_numbered, suffix_numbered, suffixes_numbered, operands_numbered, function_numbered, statement_numbered, otherwise_numbered, statements_numbered, declarations_numbered, branches_numbered, start_numbered, target_numbered, clauses_numbered, handler_numbered}
use Rattle.run_trees.specs.WholeRun.{rest_of_run}
use Rattle.object_heap.specs.Fresh.{filled_objects, built_in_objects}
use Rattle.js_evaluation.specs.NativeTable.{natives, native_row, native_of}

-- ---- fuel

abbrev fuel_rows : List Row
fuel_rows =
    -- the suffix, its arguments, the entry, the statement and the name that it returns: thirteen units in all
    row 13 (doing (codes "function f(a, b) { return a; } return f('x', 'y');")) (gives (codes "x")) ∷
    -- the last unit is that of the name
    row 12 (doing (codes "function f(a, b) { return a; } return f('x', 'y');")) (fails code.FuelSpent (at 1 60)) ∷
    -- the entry has the place of the suffix, behind the arguments
    row 10 (doing (codes "function f(a, b) { return a; } return f('x', 'y');")) (fails code.FuelSpent (at 1 73)) ∷
    -- the suffix is charged before its arguments
    row 7 (doing (codes "function f(a, b) { return a; } return f('x', 'y');")) (fails code.FuelSpent (at 1 73)) ∷
    -- a target costs its nodes and suffixes, once: nineteen units in all
    row 19 (doing (codes "var o = {a: {}}; o.a['b'] = 'x'; return o.a.b;")) (gives (codes "x")) ∷
    -- the last of the nineteen is that of the last suffix
    row 18 (doing (codes "var o = {a: {}}; o.a['b'] = 'x'; return o.a.b;")) (fails code.FuelSpent (at 1 77)) ∷
    -- the last suffix of a target and its index are charged before the value
    row 13 (doing (codes "var o = {a: {}}; o.a['b'] = 'x'; return o.a.b;")) (fails code.FuelSpent (at 1 62)) ∷
    -- the last suffix of a target is charged
    row 11 (doing (codes "var o = {a: {}}; o.a['b'] = 'x'; return o.a.b;")) (fails code.FuelSpent (at 1 54)) ∷
    -- a target that is read before it is written costs no more: eleven units in all
    row 11 (doing (codes "var s = 'x'; s += 'y'; return s;")) (gives (codes "xy")) ∷
    -- ten are one too few
    row 10 (doing (codes "var s = 'x'; s += 'y'; return s;")) (fails code.FuelSpent (at 1 64)) ∷
    -- `++` costs itself and its target: twelve units in all
    row 12 (doing (codes "var i = 1; i++; return '' + i;")) (gives (codes "2")) ∷
    -- eleven are one too few
    row 11 (doing (codes "var i = 1; i++; return '' + i;")) (fails code.FuelSpent (at 1 62)) ∷
    -- `for`-`in` pays for all names at its start, also where it leaves in the first turn: twelve units in all
    row 12 (doing (codes "for (var k in {a: 1, b: 2}) break; return 'x';")) (gives (codes "x")) ∷
    -- eleven are one too few
    row 11 (doing (codes "for (var k in {a: 1, b: 2}) break; return 'x';")) (fails code.FuelSpent (at 1 76)) ∷
    -- the charge for a name has the place of `for`
    row 8 (doing (codes "for (var k in {a: 1, b: 2}) break; return 'x';")) (fails code.FuelSpent (at 1 34)) ∷
    -- a name that is skipped was paid for: eighteen units in all
    row 18 (doing (codes "var o = {a: 1, b: 2}; for (var k in o) delete o.b; return 'x';")) (gives (codes "x")) ∷
    -- seventeen are one too few
    row 17 (doing (codes "var o = {a: 1, b: 2}; for (var k in o) delete o.b; return 'x';")) (fails code.FuelSpent (at 1 92)) ∷
    -- the target of `for`-`in` is evaluated, and paid, in each turn: twenty-one units in all
    row 21 (doing (codes "var o = {}; for (o.x in 'ab'); return o.x;")) (gives (codes "1")) ∷
    -- twenty are one too few
    row 20 (doing (codes "var o = {}; for (o.x in 'ab'); return o.x;")) (fails code.FuelSpent (at 1 73)) ∷
    -- a conversion costs the entry of the method and its body: fifteen units in all
    row 15 (doing (codes "var o = {valueOf: function () { return 2; }}; return '' + (1 + o);")) (gives (codes "3")) ∷
    -- fourteen are one too few
    row 14 (doing (codes "var o = {valueOf: function () { return 2; }}; return '' + (1 + o);")) (fails code.FuelSpent (at 1 73)) ∷
    -- the entry of the method has the place of the operator
    row 12 (doing (codes "var o = {valueOf: function () { return 2; }}; return '' + (1 + o);")) (fails code.FuelSpent (at 1 95)) ∷
    -- `switch` costs the tests that are evaluated, and no clause: nine units in all
    row 9 (doing (codes "switch (2) { case 1: ; case 2: return 'b'; case 3: ; }")) (gives (codes "b")) ∷
    -- eight are one too few
    row 8 (doing (codes "switch (2) { case 1: ; case 2: return 'b'; case 3: ; }")) (fails code.FuelSpent (at 1 72)) ∷
    -- each block of `try` is a statement: eleven units in all
    row 11 (doing (codes "try { throw 1; } catch (e) { } finally { } return 'x';")) (gives (codes "x")) ∷
    -- ten are one too few
    row 10 (doing (codes "try { throw 1; } catch (e) { } finally { } return 'x';")) (fails code.FuelSpent (at 1 84)) ∷
    -- the block of a `catch` is charged in its place
    row 7 (doing (codes "try { throw 1; } catch (e) { } finally { } return 'x';")) (fails code.FuelSpent (at 1 61)) ∷
    -- the `var` of a `for` is a statement, and its other parts are their nodes alone: seventeen units in all
    row 17 (doing (codes "for (var i = 0; i < 1; i++) ; return 'x';")) (gives (codes "x")) ∷
    -- sixteen are one too few
    row 16 (doing (codes "for (var i = 0; i < 1; i++) ; return 'x';")) (fails code.FuelSpent (at 1 71)) ∷
    -- it is charged at `var`
    row 4 (doing (codes "for (var i = 0; i < 1; i++) ; return 'x';")) (fails code.FuelSpent (at 1 39)) ∷
    -- `new` costs itself, the function, the arguments and the entry: eleven units in all
    row 11 (doing (codes "function P(a) { } new P(1); return 'x';")) (gives (codes "x")) ∷
    -- ten are one too few
    row 10 (doing (codes "function P(a) { } new P(1); return 'x';")) (fails code.FuelSpent (at 1 69)) ∷
    -- the entry has the place of `new`
    row 8 (doing (codes "function P(a) { } new P(1); return 'x';")) (fails code.FuelSpent (at 1 52)) ∷
    -- what is no function has no entry: ten units to there
    row 10 (doing (codes "var x = 1; x(2);")) (fails_with code.Uncaught (at 1 46) (codes "TypeError: not a function")) ∷
    -- and so it is with what is no constructor: nine units to there
    row 9 (doing (codes "var o = {}; new o(1);")) (fails_with code.Uncaught (at 1 46) (codes "TypeError: not a constructor")) ∷
    -- the load, two statements and a text, the entry, a statement and a name: seven units
    row 7 (codes "var x = 'a'; function FindProxyForURL() { return x; }") (gives (codes "a")) ∷
    -- no unit is left for the load
    row 0 (codes "var x = 'a'; function FindProxyForURL() { return x; }") (fails code.FuelSpent (at 0 0)) ∷
    -- no unit is left for the entry
    row 4 (codes "var x = 'a'; function FindProxyForURL() { return x; }") (fails code.FuelSpent (at 0 0)) ∷
    []

pub fuel_rows-hold : AreRight fuel_rows
unfolding piece_at tokens_from text_from row_of expect name any_word semicolon a_parameter parameters a_statement a_part expression in_parentheses an_argument arguments item_value an_item named_property a_property function_from function_expression new_arguments new_expression primary a_suffix suffixed postfix unary an_operand chain level conditional assignment evaluated block_from block first_value a_declared var_statement one_branch a_branch otherwise if_statement do_statement while_statement optional_expression for_from for_in_from for_var for_value for_statement return_statement throw_statement clause_from a_case clauses switch_statement catch_part finally_part try_statement function_statement statement deeper script_within expression_numbered optional_numbered expressions_numbered items_numbered properties_numbered suffix_numbered suffixes_numbered operands_numbered function_numbered statement_numbered otherwise_numbered statements_numbered declarations_numbered branches_numbered start_numbered target_numbered clauses_numbered handler_numbered rest_of_run filled_objects built_in_objects expression_node statement_node call_node construct_node load_node evaluation digits natives native_row native_of
fuel_rows-hold = refl

-- ---- depth

abbrev depth_rows : List Row
depth_rows =
    -- Each entry of f is three parts deeper. The 2,001st open part is the call in the 666th entry of f.
    row 20000 (doing (codes "function f() { return (f)(); } f();")) (fails code.TooDeep (at 1 56)) ∷
    -- A target is closed before its value, so each entry of f is four parts deeper: the 2,001st is a statement.
    row 20000 (doing (codes "var o = {}; function f() { return o.x = (f)(); } f();")) (fails code.TooDeep (at 1 61)) ∷
    -- the unit of a part is taken before its depth is looked at: the last of 3,336 is that of the 2,001st part
    row 3336 (doing (codes "function f() { return (f)(); } f();")) (fails code.TooDeep (at 1 56)) ∷
    -- so with one less the fuel is spent
    row 3335 (doing (codes "function f() { return (f)(); } f();")) (fails code.FuelSpent (at 1 56)) ∷
    []

pub depth_rows-hold : AreRight depth_rows
unfolding piece_at tokens_from text_from row_of expect name any_word semicolon a_parameter parameters a_statement a_part expression in_parentheses an_argument arguments item_value an_item named_property a_property function_from function_expression new_arguments new_expression primary a_suffix suffixed postfix unary an_operand chain level conditional assignment evaluated block_from block first_value a_declared var_statement one_branch a_branch otherwise if_statement do_statement while_statement optional_expression for_from for_in_from for_var for_value for_statement return_statement throw_statement clause_from a_case clauses switch_statement catch_part finally_part try_statement function_statement statement deeper script_within expression_numbered optional_numbered expressions_numbered items_numbered properties_numbered suffix_numbered suffixes_numbered operands_numbered function_numbered statement_numbered otherwise_numbered statements_numbered declarations_numbered branches_numbered start_numbered target_numbered clauses_numbered handler_numbered rest_of_run filled_objects built_in_objects expression_node statement_node call_node construct_node load_node evaluation digits natives native_row native_of
depth_rows-hold = refl

-- ---- cells

abbrev cell_rows : List Row
cell_rows =
    -- Nineteen arrays of the greatest length, each 100,001 cells, and a last one fill the heap. Without more there are
    -- ten other cells: six for the function and its global property, four for the scope of the call and its three
    -- names. So the last array may have 99,970 steps.
    -- these ten
    row 1000 (doing (codes "var i; for (i = 0; i < 19; i++) [].length = 100000; [].length = 99970; return 'x';")) (gives (codes "x")) ∷
    -- with one cell less it is full
    row 1000 (doing (codes "var i; for (i = 0; i < 19; i++) [].length = 100000; [].length = 99971; return 'x';")) (fails code.HeapFull (at 1 96)) ∷
    -- a function expression with a name: a scope of one name, and five for the function
    row 1000 (doing (codes "var i; (function g() { }); for (i = 0; i < 19; i++) [].length = 100000; [].length = 99963; return 'x';")) (gives (codes "x")) ∷
    -- with one cell less it is full
    row 1000 (doing (codes "var i; (function g() { }); for (i = 0; i < 19; i++) [].length = 100000; [].length = 99964; return 'x';")) (fails code.HeapFull (at 1 116)) ∷
    -- a declared function has five and a name; its call a scope of three names, and the object of three arguments five
    row 1000 (doing (codes "var i; function f(a, b) { arguments; } f(1, 2, 3); for (i = 0; i < 19; i++) [].length = 100000; [].length = 99955; return 'x';")) (gives (codes "x")) ∷
    -- with one cell less it is full
    row 1000 (doing (codes "var i; function f(a, b) { arguments; } f(1, 2, 3); for (i = 0; i < 19; i++) [].length = 100000; [].length = 99956; return 'x';")) (fails code.HeapFull (at 1 140)) ∷
    -- an error of the engine has two, and so has the scope of a handler
    row 1000 (doing (codes "var i; try { null.x; } catch (e) { } for (i = 0; i < 19; i++) [].length = 100000; [].length = 99966; return 'x';")) (gives (codes "x")) ∷
    -- with one cell less it is full
    row 1000 (doing (codes "var i; try { null.x; } catch (e) { } for (i = 0; i < 19; i++) [].length = 100000; [].length = 99967; return 'x';")) (fails code.HeapFull (at 1 126)) ∷
    -- an array, two elements, three steps for them and one for the hole at the end
    row 1000 (doing (codes "var i; [1, , 2, ,]; for (i = 0; i < 19; i++) [].length = 100000; [].length = 99963; return 'x';")) (gives (codes "x")) ∷
    -- with one cell less it is full
    row 1000 (doing (codes "var i; [1, , 2, ,]; for (i = 0; i < 19; i++) [].length = 100000; [].length = 99964; return 'x';")) (fails code.HeapFull (at 1 109)) ∷
    -- an object and its two properties, of which one is written twice
    row 1000 (doing (codes "var i; ({a: 1, b: 2, c: 3, a: 4}); for (i = 0; i < 19; i++) [].length = 100000; [].length = 99966; return 'x';")) (gives (codes "x")) ∷
    -- with one cell less it is full
    row 1000 (doing (codes "var i; ({a: 1, b: 2, c: 3, a: 4}); for (i = 0; i < 19; i++) [].length = 100000; [].length = 99967; return 'x';")) (fails code.HeapFull (at 1 124)) ∷
    -- a declared function and its name; the object, the scope and the property
    row 1000 (doing (codes "var i; function P() { this.x = 1; } new P(); for (i = 0; i < 19; i++) [].length = 100000; [].length = 99961; return 'x';")) (gives (codes "x")) ∷
    -- with one cell less it is full
    row 1000 (doing (codes "var i; function P() { this.x = 1; } new P(); for (i = 0; i < 19; i++) [].length = 100000; [].length = 99962; return 'x';")) (fails code.HeapFull (at 1 134)) ∷
    -- of two functions of one name each is made
    row 1000 (doing (codes "var i; function f() { } function f() { } for (i = 0; i < 19; i++) [].length = 100000; [].length = 99959; return 'x';")) (gives (codes "x")) ∷
    -- with one cell less it is full
    row 1000 (doing (codes "var i; function f() { } function f() { } for (i = 0; i < 19; i++) [].length = 100000; [].length = 99960; return 'x';")) (fails code.HeapFull (at 1 130)) ∷
    -- a property that was deleted and comes again is added again
    row 1000 (doing (codes "var i; var o = {a: 1}; delete o.a; o.a = 1; for (i = 0; i < 19; i++) [].length = 100000; [].length = 99966; return 'x';")) (gives (codes "x")) ∷
    -- with one cell less it is full
    row 1000 (doing (codes "var i; var o = {a: 1}; delete o.a; o.a = 1; for (i = 0; i < 19; i++) [].length = 100000; [].length = 99967; return 'x';")) (fails code.HeapFull (at 1 133)) ∷
    -- a global variable is a property; a function in the place of a built-in adds none
    row 1000 (codes "var x; function isInNet() { } function FindProxyForURL(u, h) { var i; for (i = 0; i < 19; i++) [].length = 100000; [].length = 99964; return 'x'; }") (gives (codes "x")) ∷
    -- with one cell less it is full
    row 1000 (codes "var x; function isInNet() { } function FindProxyForURL(u, h) { var i; for (i = 0; i < 19; i++) [].length = 100000; [].length = 99965; return 'x'; }") (fails code.HeapFull (at 1 126)) ∷
    []

pub cell_rows-hold : AreRight cell_rows
unfolding piece_at tokens_from text_from row_of expect name any_word semicolon a_parameter parameters a_statement a_part expression in_parentheses an_argument arguments item_value an_item named_property a_property function_from function_expression new_arguments new_expression primary a_suffix suffixed postfix unary an_operand chain level conditional assignment evaluated block_from block first_value a_declared var_statement one_branch a_branch otherwise if_statement do_statement while_statement optional_expression for_from for_in_from for_var for_value for_statement return_statement throw_statement clause_from a_case clauses switch_statement catch_part finally_part try_statement function_statement statement deeper script_within expression_numbered optional_numbered expressions_numbered items_numbered properties_numbered suffix_numbered suffixes_numbered operands_numbered function_numbered statement_numbered otherwise_numbered statements_numbered declarations_numbered branches_numbered start_numbered target_numbered clauses_numbered handler_numbered rest_of_run filled_objects built_in_objects expression_node statement_node call_node construct_node load_node evaluation digits natives native_row native_of
cell_rows-hold = refl

-- ---- a full heap

abbrev full_rows : List Row
full_rows =
    -- Where the heap is full each of these is refused in its own place. Beside the arrays there are six cells for the
    -- function and its global property, five for the scope and its four names, and five for the function f.
    -- the scope of a call, at the suffix
    row 1000 (doing (codes "var i; function f() { } for (i = 0; i < 19; i++) [].length = 100000; [].length = 99964; f();")) (fails code.HeapFull (at 1 123)) ∷
    -- the object of `new`, at the word
    row 1000 (doing (codes "var i; function f() { } for (i = 0; i < 19; i++) [].length = 100000; [].length = 99964; new f();")) (fails code.HeapFull (at 1 122)) ∷
    -- a function, at its first word
    row 1000 (doing (codes "var i; function f() { } for (i = 0; i < 19; i++) [].length = 100000; [].length = 99964; i = function () { };")) (fails code.HeapFull (at 1 126)) ∷
    -- an array, at its bracket
    row 1000 (doing (codes "var i; function f() { } for (i = 0; i < 19; i++) [].length = 100000; [].length = 99964; i = [];")) (fails code.HeapFull (at 1 126)) ∷
    -- and an object at its own
    row 1000 (doing (codes "var i; function f() { } for (i = 0; i < 19; i++) [].length = 100000; [].length = 99964; i = {};")) (fails code.HeapFull (at 1 126)) ∷
    -- the scope of a handler, at `try`
    row 1000 (doing (codes "var i; function f() { } for (i = 0; i < 19; i++) [].length = 100000; [].length = 99964; try { throw 1; } catch (e) { }")) (fails code.HeapFull (at 1 122)) ∷
    -- an error of the engine, in the place of the throw
    row 1000 (doing (codes "var i; function f() { } for (i = 0; i < 19; i++) [].length = 100000; [].length = 99964; try { null.x; } catch (e) { }")) (fails code.HeapFull (at 1 132)) ∷
    -- a property that is written, at the operator
    row 1000 (doing (codes "var i; function f() { } for (i = 0; i < 19; i++) [].length = 100000; [].length = 99964; f.x = 1;")) (fails code.HeapFull (at 1 126)) ∷
    -- and a name that stands for nothing
    row 1000 (doing (codes "var i; function f() { } for (i = 0; i < 19; i++) [].length = 100000; [].length = 99964; x = 1;")) (fails code.HeapFull (at 1 124)) ∷
    -- what is there already is written without a cell
    row 1000 (doing (codes "var i; function f() { } for (i = 0; i < 19; i++) [].length = 100000; [].length = 99964; f.prototype = 1; i = 'x'; return i;")) (gives (codes "x")) ∷
    []

pub full_rows-hold : AreRight full_rows
unfolding piece_at tokens_from text_from row_of expect name any_word semicolon a_parameter parameters a_statement a_part expression in_parentheses an_argument arguments item_value an_item named_property a_property function_from function_expression new_arguments new_expression primary a_suffix suffixed postfix unary an_operand chain level conditional assignment evaluated block_from block first_value a_declared var_statement one_branch a_branch otherwise if_statement do_statement while_statement optional_expression for_from for_in_from for_var for_value for_statement return_statement throw_statement clause_from a_case clauses switch_statement catch_part finally_part try_statement function_statement statement deeper script_within expression_numbered optional_numbered expressions_numbered items_numbered properties_numbered suffix_numbered suffixes_numbered operands_numbered function_numbered statement_numbered otherwise_numbered statements_numbered declarations_numbered branches_numbered start_numbered target_numbered clauses_numbered handler_numbered rest_of_run filled_objects built_in_objects expression_node statement_node call_node construct_node load_node evaluation digits natives native_row native_of
full_rows-hold = refl

-- ---- texts that are made

abbrev text_rows : List Row
text_rows =
    -- A text of 16 units is doubled 14 times, which makes 524,256 units, and then joined with nothing 62 times: 32
    -- units are left of the 16,777,216.
    -- a sum spends 16 of them and a name that `for`-`in` lists the others; one more is too many
    row 2000 (doing (codes "var t = '0123456789abcdef', s = t, i; for (i = 0; i < 14; i++) s += s; for (i = 0; i < 62; i++) s + ''; t + ''; typeof t; t[0]; for (var k in {'0123456789abcdef': 1}); 'a' + '';")) (fails code.TextSpent (at 1 206)) ∷
    []

pub text_rows-hold : AreRight text_rows
unfolding piece_at tokens_from text_from row_of expect name any_word semicolon a_parameter parameters a_statement a_part expression in_parentheses an_argument arguments item_value an_item named_property a_property function_from function_expression new_arguments new_expression primary a_suffix suffixed postfix unary an_operand chain level conditional assignment evaluated block_from block first_value a_declared var_statement one_branch a_branch otherwise if_statement do_statement while_statement optional_expression for_from for_in_from for_var for_value for_statement return_statement throw_statement clause_from a_case clauses switch_statement catch_part finally_part try_statement function_statement statement deeper script_within expression_numbered optional_numbered expressions_numbered items_numbered properties_numbered suffix_numbered suffixes_numbered operands_numbered function_numbered statement_numbered otherwise_numbered statements_numbered declarations_numbered branches_numbered start_numbered target_numbered clauses_numbered handler_numbered rest_of_run filled_objects built_in_objects expression_node statement_node call_node construct_node load_node evaluation digits natives native_row native_of
text_rows-hold = refl
