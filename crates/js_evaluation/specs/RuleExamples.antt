-- Worked examples of the rules of evaluation: order, places, names and ends.
use Rattle.std.specs.Prelude.{ℕ, zero, suc, List, [], ◌∷◌, ◌++◌, codes, refl}
use Rattle.js_evaluation.specs.declared.fault.FaultCode.TheVariants as code
use Rattle.js_evaluation.specs.Expressions.{expression_node}
use Rattle.js_evaluation.specs.Statements.{statement_node}
use Rattle.js_evaluation.specs.Entries.{call_node, construct_node, load_node}
use Rattle.js_evaluation.specs.Evaluation.{evaluation}
use Rattle.js_evaluation.specs.Examples.{Row, row, AreRight, at, doing, gives, fails, fails_with}
use Rattle.std.specs.Fmt.{digits}
use Rattle.js_grammar.specs.Tokens.{piece_at, tokens_from}
use Rattle.js_grammar.specs.Literals.{text_from}
use Rattle.js_grammar.specs.Readers.{row_of, expect, name, any_word, semicolon, a_parameter, parameters}
use Rattle.js_grammar.specs.Expressions.{a_statement, a_part, expression, in_parentheses, an_argument, arguments, item_value, an_item, named_property, a_property, function_from, function_expression, new_arguments, new_expression, primary, a_suffix, suffixed, postfix, unary, an_operand, chain, level, conditional, assignment}
use Rattle.js_grammar.specs.Statements.{evaluated, block_from, block, first_value, a_declared, var_statement, one_branch, a_branch, otherwise, if_statement, do_statement, while_statement, optional_expression, for_from, for_in_from, for_var, for_value, for_statement, return_statement, throw_statement, clause_from, a_case, clauses, switch_statement, catch_part, finally_part, try_statement, function_statement, statement, deeper, script_within}
use Rattle.js_binding.specs.Numbered.{expression_numbered, optional_numbered, expressions_numbered, items_numbered, properties_numbered, suffix_numbered, suffixes_numbered, operands_numbered, function_numbered, statement_numbered, otherwise_numbered, statements_numbered, declarations_numbered, branches_numbered, start_numbered, target_numbered, clauses_numbered, handler_numbered}
use Rattle.run_trees.specs.WholeRun.{rest_of_run}
use Rattle.object_heap.specs.Fresh.{filled_objects, built_in_objects}
use Rattle.js_evaluation.specs.NativeTable.{natives, native_row, native_of}

-- so many copies of a text
abbrev repeated : ℕ → List ℕ → List ℕ
repeated zero t = []
repeated (suc n) t = t ++ repeated n t

-- ---- throws of the engine, and their places

abbrev throws_and_places : List Row
throws_and_places =
    -- what is called is no function: the place is that of the call (11.2.3)
    row 1000 (doing (codes "var x = 1; x(2);")) (fails_with code.Uncaught (at 1 46) (codes "TypeError: not a function")) ∷
    -- the arguments are evaluated before that is tested
    row 1000 (doing (codes "var s = 'a'; try { undefined(s = 'b'); } catch (e) { return s + e.message; }")) (gives (codes "bnot a function")) ∷
    -- what stands behind `new` constructs nothing (11.2.2)
    row 1000 (doing (codes "var o = {}; new o(1);")) (fails_with code.Uncaught (at 1 46) (codes "TypeError: not a constructor")) ∷
    -- the arguments are evaluated before that is tested
    row 1000 (doing (codes "var s = 'a', o = {}; try { new o(s = 'b'); } catch (e) { return s; }")) (gives (codes "b")) ∷
    -- `in` asks an object (11.8.7)
    row 1000 (doing (codes "return 'a' in 'b';")) (fails_with code.Uncaught (at 1 45) (codes "TypeError: not an object")) ∷
    -- the right side of `in` is tested before the left one is converted
    row 1000 (doing (codes "var s = 'a'; try { ({toString: function () { s = 'b'; return 'c'; }}) in 1; } catch (e) { return s; }")) (gives (codes "a")) ∷
    -- the right side of `instanceof` is a function (11.8.6)
    row 1000 (doing (codes "return 1 instanceof {};")) (fails_with code.Uncaught (at 1 43) (codes "TypeError: not a function")) ∷
    -- its prototype is an object (15.3.5.3)
    row 1000 (doing (codes "function F() { } F.prototype = 1; return ({}) instanceof F;")) (fails_with code.Uncaught (at 1 80) (codes "TypeError: not an object")) ∷
    -- a primitive value is no instance, whatever the prototype is
    row 1000 (doing (codes "function F() { } F.prototype = 1; return '' + (1 instanceof F);")) (gives (codes "false")) ∷
    -- an object whose methods give no primitive value (8.12.8)
    row 1000 (doing (codes "var o = {valueOf: 1, toString: function () { return o; }}; 1 + o;")) (fails_with code.Uncaught (at 1 95) (codes "TypeError: not an object")) ∷
    -- a length that is no number from 0, at the assignment (15.4.5.1)
    row 1000 (doing (codes "var a = []; a.length = '1';")) (fails_with code.Uncaught (at 1 55) (codes "RangeError: invalid array length")) ∷
    -- a number below 0 is none, and the place is that of the operator
    row 1000 (doing (codes "var a = []; a.length--;")) (fails_with code.Uncaught (at 1 54) (codes "RangeError: invalid array length")) ∷
    -- a length past 100,000
    row 1000 (doing (codes "var a = []; a.length = 100001;")) (fails code.ArrayTooLong (at 1 55)) ∷
    -- an index that would raise it past that
    row 1000 (doing (codes "var a = []; a[100000] = 1;")) (fails code.ArrayTooLong (at 1 56)) ∷
    -- a target is read at its name
    row 1000 (doing (codes "x += 1;")) (fails_with code.Uncaught (at 1 34) (codes "ReferenceError: x is not defined")) ∷
    -- so it is by `++`
    row 1000 (doing (codes "x++;")) (fails_with code.Uncaught (at 1 34) (codes "ReferenceError: x is not defined")) ∷
    -- the conversion of the old value has the place of the operator
    row 1000 (doing (codes "var x = 'a'; x++;")) (fails code.NotANumber (at 1 48)) ∷
    -- and so has the sum
    row 1000 (doing (codes "var x = 9007199254740991; ++x;")) (fails code.NumberRange (at 1 60)) ∷
    -- the operator of an assignment has its place
    row 1000 (doing (codes "var x = 1; x /= 0;")) (fails code.DivisionByZero (at 1 47)) ∷
    -- an operator before its operand has its own place
    row 1000 (doing (codes "return '' + -'1.5';")) (fails code.Fraction (at 1 46)) ∷
    -- in a chain the place is that of the operator
    row 1000 (doing (codes "return '' + 4 / 2 / 3;")) (fails code.Fraction (at 1 52)) ∷
    -- a property of undefined by its index has the place of the bracket
    row 1000 (doing (codes "var o = {}; o.a['b'];")) (fails_with code.Uncaught (at 1 49) (codes "TypeError: not an object")) ∷
    -- and so has one that is left out
    row 1000 (doing (codes "Math['sqrt'];")) (fails_with code.Unsupported (at 1 38) (codes "Math.sqrt")) ∷
    -- a write by `for`-`in` has the place of the statement
    row 1000 (doing (codes "var a = []; for (a.length in {x: 1});")) (fails_with code.Uncaught (at 1 46) (codes "RangeError: invalid array length")) ∷
    -- its target is evaluated in its own places
    row 1000 (doing (codes "for (x[0] in {a: 1});")) (fails_with code.Uncaught (at 1 39) (codes "ReferenceError: x is not defined")) ∷
    []

pub throws_and_places-hold : AreRight throws_and_places
unfolding piece_at tokens_from text_from row_of expect name any_word semicolon a_parameter parameters a_statement a_part expression in_parentheses an_argument arguments item_value an_item named_property a_property function_from function_expression new_arguments new_expression primary a_suffix suffixed postfix unary an_operand chain level conditional assignment evaluated block_from block first_value a_declared var_statement one_branch a_branch otherwise if_statement do_statement while_statement optional_expression for_from for_in_from for_var for_value for_statement return_statement throw_statement clause_from a_case clauses switch_statement catch_part finally_part try_statement function_statement statement deeper script_within expression_numbered optional_numbered expressions_numbered items_numbered properties_numbered suffix_numbered suffixes_numbered operands_numbered function_numbered statement_numbered otherwise_numbered statements_numbered declarations_numbered branches_numbered start_numbered target_numbered clauses_numbered handler_numbered rest_of_run filled_objects built_in_objects expression_node statement_node call_node construct_node load_node evaluation digits natives native_row native_of
throws_and_places-hold = refl

-- ---- the order of one step

abbrev orders : List Row
orders =
    -- the index is evaluated before the base is tested (11.2.1)
    row 1000 (doing (codes "var s = 'a'; try { null[s = 'b']; } catch (e) { return s; }")) (gives (codes "b")) ∷
    -- the base is tested before the index becomes a name
    row 1000 (doing (codes "var s = 'a'; try { null[{toString: function () { s = 'b'; return 'c'; }}]; } catch (e) { return s; }")) (gives (codes "a")) ∷
    -- the base of a target is tested before the value is evaluated
    row 1000 (doing (codes "var s = 'a'; try { null.x = s = 'b'; } catch (e) { return s; }")) (gives (codes "a")) ∷
    -- the name of a target is made before the value, and once
    row 1000 (doing (codes "var s = '', o = {}; o[{toString: function () { s += 'k'; return 'x'; }}] = (s += 'v'); return s + o.x;")) (gives (codes "kvkv")) ∷
    -- it is made once where the target is read too
    row 1000 (doing (codes "var s = '', o = {x: 1}; o[{toString: function () { s += 'k'; return 'x'; }}] += 1; return s + o.x;")) (gives (codes "k2")) ∷
    -- both operands become primitive values, the left one first
    row 1000 (doing (codes "var s = ''; function v(x) { return {valueOf: function () { s += x; return 1; }}; } v('a') > v('b'); return s;")) (gives (codes "ab")) ∷
    -- `valueOf` is asked before `toString`, and an object that it gives is passed over
    row 1000 (doing (codes "var o = {valueOf: function () { return {}; }, toString: function () { return 's'; }}; return '' + o;")) (gives (codes "s")) ∷
    -- for a name `toString` is asked first
    row 1000 (doing (codes "var o = {valueOf: function () { return 'v'; }, toString: function () { return 's'; }}; return {v: 'v', s: 's'}[o];")) (gives (codes "s")) ∷
    -- an object that the function returns stands for the one that was made, a primitive value doesn't
    row 1000 (doing (codes "function P() { this.x = 'a'; return 1; } function Q() { return {x: 'b'}; } return new P().x + new Q().x;")) (gives (codes "ab")) ∷
    -- a function whose prototype is no object constructs an object like any other (13.2.2)
    row 1000 (doing (codes "function P() { } P.prototype = 1; P.q = 1; return '' + ('q' in new P());")) (gives (codes "false")) ∷
    -- `this` is the base of a reference, through brackets too; a value has none (11.2.3)
    row 1000 (doing (codes "t = 'g'; var o = {t: 'o', f: function () { return this.t; }}; return (0, o.f)() + (o.f)() + o['f']();")) (gives (codes "goo")) ∷
    -- what a call gives has no base
    row 1000 (doing (codes "t = 'g'; var o = {t: 'o', f: function () { return function () { return this.t; }; }}; return o.f()() + (o.f())();")) (gives (codes "gg")) ∷
    -- there is one zero
    row 1000 (doing (codes "var a = [1]; a.length = -0; return '' + -0 + 0 * -1 + -4 % 2 + a.length;")) (gives (codes "0000")) ∷
    []

pub orders-hold : AreRight orders
unfolding piece_at tokens_from text_from row_of expect name any_word semicolon a_parameter parameters a_statement a_part expression in_parentheses an_argument arguments item_value an_item named_property a_property function_from function_expression new_arguments new_expression primary a_suffix suffixed postfix unary an_operand chain level conditional assignment evaluated block_from block first_value a_declared var_statement one_branch a_branch otherwise if_statement do_statement while_statement optional_expression for_from for_in_from for_var for_value for_statement return_statement throw_statement clause_from a_case clauses switch_statement catch_part finally_part try_statement function_statement statement deeper script_within expression_numbered optional_numbered expressions_numbered items_numbered properties_numbered suffix_numbered suffixes_numbered operands_numbered function_numbered statement_numbered otherwise_numbered statements_numbered declarations_numbered branches_numbered start_numbered target_numbered clauses_numbered handler_numbered rest_of_run filled_objects built_in_objects expression_node statement_node call_node construct_node load_node evaluation digits natives native_row native_of
orders-hold = refl

-- ---- what is left out

abbrev left_out_names : List Row
left_out_names =
    -- `typeof` of a left-out name reads it
    row 1000 (doing (codes "return typeof NaN;")) (fails_with code.Unsupported (at 1 48) (codes "NaN")) ∷
    -- and so does that of a property
    row 1000 (doing (codes "return typeof Math.sqrt;")) (fails_with code.Unsupported (at 1 52) (codes "Math.sqrt")) ∷
    -- `delete` has the place of the operator
    row 1000 (doing (codes "delete NaN;")) (fails_with code.Unsupported (at 1 34) (codes "NaN")) ∷
    -- so it has for a property
    row 1000 (doing (codes "delete Math.sqrt;")) (fails_with code.Unsupported (at 1 34) (codes "Math.sqrt")) ∷
    -- one of a prototype is not looked at
    row 1000 (doing (codes "return '' + delete ({}).toString;")) (gives (codes "true")) ∷
    -- `in` has its own place
    row 1000 (doing (codes "return 'NaN' in this;")) (fails_with code.Unsupported (at 1 47) (codes "NaN")) ∷
    -- a target that is read is read in its place
    row 1000 (doing (codes "Math.sqrt += 1;")) (fails_with code.Unsupported (at 1 38) (codes "Math.sqrt")) ∷
    -- a write takes the place of the mark
    row 1000 (doing (codes "Math.sqrt = 's'; NaN = 'n'; return Math.sqrt + NaN;")) (gives (codes "sn")) ∷
    -- a function that is left out is so before its arguments are evaluated
    row 1000 (doing (codes "Math.sqrt(x);")) (fails_with code.Unsupported (at 1 38) (codes "Math.sqrt")) ∷
    -- a variable of that name leaves the mark, and reads nothing
    row 1000 (codes "var NaN; function FindProxyForURL() { return NaN; }") (fails_with code.Unsupported (at 1 46) (codes "NaN")) ∷
    -- a function of that name stands in its place
    row 1000 (codes "function NaN() { return 'n'; } function FindProxyForURL() { return NaN(); }") (gives (codes "n")) ∷
    -- and in that of any other built-in
    row 1000 (codes "function isInNet() { return 'mine'; } function FindProxyForURL() { return isInNet(); }") (gives (codes "mine")) ∷
    []

pub left_out_names-hold : AreRight left_out_names
unfolding piece_at tokens_from text_from row_of expect name any_word semicolon a_parameter parameters a_statement a_part expression in_parentheses an_argument arguments item_value an_item named_property a_property function_from function_expression new_arguments new_expression primary a_suffix suffixed postfix unary an_operand chain level conditional assignment evaluated block_from block first_value a_declared var_statement one_branch a_branch otherwise if_statement do_statement while_statement optional_expression for_from for_in_from for_var for_value for_statement return_statement throw_statement clause_from a_case clauses switch_statement catch_part finally_part try_statement function_statement statement deeper script_within expression_numbered optional_numbered expressions_numbered items_numbered properties_numbered suffix_numbered suffixes_numbered operands_numbered function_numbered statement_numbered otherwise_numbered statements_numbered declarations_numbered branches_numbered start_numbered target_numbered clauses_numbered handler_numbered rest_of_run filled_objects built_in_objects expression_node statement_node call_node construct_node load_node evaluation digits natives native_row native_of
left_out_names-hold = refl

-- ---- the load (10.5)

abbrev loads : List Row
loads =
    -- no function can take the place of undefined
    row 1000 (codes "function undefined() { }") (fails_with code.Uncaught (at 0 0) (codes "TypeError: not an object")) ∷
    -- writes to undefined are ignored, and it is not deleted
    row 1000 (doing (codes "undefined = 1; this.undefined = 2; return '' + undefined + delete undefined;")) (gives (codes "undefinedfalse")) ∷
    -- a function is there before the variables and the first statement
    row 1000 (codes "var t = typeof f; var f = 1; function f() { } function FindProxyForURL() { return t + typeof f; }") (gives (codes "functionnumber")) ∷
    -- of two functions of one name the later one counts
    row 1000 (codes "function f() { return 'a'; } function f() { return 'b'; } function FindProxyForURL() { return f(); }") (gives (codes "b")) ∷
    -- global names are listed, functions first; those that are built in aren't
    row 1000 (codes "var x; function g() { } y = 1; function FindProxyForURL() { var s = ''; for (var k in this) s += k + ' '; return s; }") (gives (codes "g FindProxyForURL x y ")) ∷
    -- a variable and a function can't be deleted, a name that was only written can
    row 1000 (codes "var x; function g() { } y = 1; function FindProxyForURL() { return '' + delete x + delete g + delete y; }") (gives (codes "falsefalsetrue")) ∷
    -- a variable that the global object inherits adds nothing
    row 1000 (codes "var toString; function FindProxyForURL() { var s = ''; for (var k in this) s += k + ' '; return s; }") (gives (codes "FindProxyForURL ")) ∷
    -- what the global name stands for is no function
    row 1000 (codes "var FindProxyForURL = 1;") (fails code.NoEntry (at 0 0)) ∷
    -- `this` of the load, and of the function of the script, is the global object
    row 1000 (codes "var x = 'a', t = this; function FindProxyForURL() { return t.x + this.x + (t === this); }") (gives (codes "aatrue")) ∷
    -- the function of the script has the URL and the host
    row 1000 (codes "function FindProxyForURL() { return arguments[0] + arguments[1] + arguments.length; }") (gives (codes "http://a/a2")) ∷
    []

pub loads-hold : AreRight loads
unfolding piece_at tokens_from text_from row_of expect name any_word semicolon a_parameter parameters a_statement a_part expression in_parentheses an_argument arguments item_value an_item named_property a_property function_from function_expression new_arguments new_expression primary a_suffix suffixed postfix unary an_operand chain level conditional assignment evaluated block_from block first_value a_declared var_statement one_branch a_branch otherwise if_statement do_statement while_statement optional_expression for_from for_in_from for_var for_value for_statement return_statement throw_statement clause_from a_case clauses switch_statement catch_part finally_part try_statement function_statement statement deeper script_within expression_numbered optional_numbered expressions_numbered items_numbered properties_numbered suffix_numbered suffixes_numbered operands_numbered function_numbered statement_numbered otherwise_numbered statements_numbered declarations_numbered branches_numbered start_numbered target_numbered clauses_numbered handler_numbered rest_of_run filled_objects built_in_objects expression_node statement_node call_node construct_node load_node evaluation digits natives native_row native_of
loads-hold = refl

-- ---- functions (10.5, 10.6, 13)

abbrev functions : List Row
functions =
    -- of two parameters of one name the later one counts, also where it has no argument
    row 1000 (doing (codes "function f(a, a) { return typeof a; } return f('1');")) (gives (codes "undefined")) ∷
    -- a function takes the place of a parameter
    row 1000 (doing (codes "function f(a) { return typeof a; function a() { } } return f(1);")) (gives (codes "function")) ∷
    -- a variable doesn't
    row 1000 (doing (codes "function f(a) { var a; return a; } return f('p');")) (gives (codes "p")) ∷
    -- a variable of that name keeps the object of the arguments
    row 1000 (doing (codes "function f() { var arguments; return '' + arguments.length; } return f(1, 2);")) (gives (codes "2")) ∷
    -- a parameter of that name has its argument
    row 1000 (doing (codes "function f(arguments) { return arguments; } return f('p');")) (gives (codes "p")) ∷
    -- and a function of that name is itself
    row 1000 (doing (codes "function f() { function arguments() { } return typeof arguments; } return f(1);")) (gives (codes "function")) ∷
    -- the indexes of the arguments are listed, and the length isn't
    row 1000 (doing (codes "function f() { var s = ''; for (var k in arguments) s += k; return s; } return f(1, 2);")) (gives (codes "01")) ∷
    -- the length of a function can't be written, and it and the prototype can't be deleted
    row 1000 (doing (codes "function f(a, b) { } f.length = 5; return '' + f.length + delete f.length + delete f.prototype;")) (gives (codes "2falsefalse")) ∷
    -- the constructor of a prototype isn't listed, and can be deleted
    row 1000 (doing (codes "function f() { } var s = ''; for (var k in f.prototype) s += k; return s + (f.prototype.constructor === f) + delete f.prototype.constructor;")) (gives (codes "truetrue")) ∷
    -- the message of an error isn't listed, and can be deleted
    row 1000 (doing (codes "var s = ''; try { null.x; } catch (e) { for (var k in e) s += k; return s + delete e.message + e.message; }")) (gives (codes "true")) ∷
    -- a parameter or a variable hides the own name of a function expression
    row 1000 (doing (codes "var f = function g(g) { return g; }; return f('p');")) (gives (codes "p")) ∷
    row 1000 (doing (codes "return (function g() { var g = 'v'; return g; })();")) (gives (codes "v")) ∷
    -- functions that are made in a loop share the variable around them
    row 1000 (doing (codes "var a = [], i; for (i = 0; i < 2; i++) a[i] = function () { return i; }; return '' + a[0]() + a[1]();")) (gives (codes "22")) ∷
    -- each time a handler is run it has a scope of its own
    row 1000 (doing (codes "var a = [], i; for (i = 0; i < 2; i++) try { throw i; } catch (e) { a[i] = function () { return e; }; } return '' + a[0]() + a[1]();")) (gives (codes "01")) ∷
    -- a global name that is deleted before it is written is made anew
    row 1000 (doing (codes "x = 1; x = (delete x, 2); return '' + x;")) (gives (codes "2")) ∷
    []

pub functions-hold : AreRight functions
unfolding piece_at tokens_from text_from row_of expect name any_word semicolon a_parameter parameters a_statement a_part expression in_parentheses an_argument arguments item_value an_item named_property a_property function_from function_expression new_arguments new_expression primary a_suffix suffixed postfix unary an_operand chain level conditional assignment evaluated block_from block first_value a_declared var_statement one_branch a_branch otherwise if_statement do_statement while_statement optional_expression for_from for_in_from for_var for_value for_statement return_statement throw_statement clause_from a_case clauses switch_statement catch_part finally_part try_statement function_statement statement deeper script_within expression_numbered optional_numbered expressions_numbered items_numbered properties_numbered suffix_numbered suffixes_numbered operands_numbered function_numbered statement_numbered otherwise_numbered statements_numbered declarations_numbered branches_numbered start_numbered target_numbered clauses_numbered handler_numbered rest_of_run filled_objects built_in_objects expression_node statement_node call_node construct_node load_node evaluation digits natives native_row native_of
functions-hold = refl

-- ---- statements (12)

abbrev ends_of_statements : List Row
ends_of_statements =
    -- a variable of the handler's name writes that of the handler
    row 1000 (doing (codes "var r = 'a'; try { throw 1; } catch (e) { var e = 'b'; r = e; } return r + typeof e;")) (gives (codes "bundefined")) ∷
    -- a function that is made in a handler keeps its name
    row 1000 (doing (codes "var f; try { throw 'c'; } catch (e) { f = function () { return e; }; } return f();")) (gives (codes "c")) ∷
    -- the names of a prototype come behind, each once
    row 1000 (doing (codes "function P() { this.b = 1; this.a = 1; } P.prototype = {c: 1, a: 2}; var s = ''; for (var k in new P()) s += k; return s;")) (gives (codes "bac")) ∷
    -- a name that is added meanwhile isn't listed; one that came again is
    row 1000 (doing (codes "var o = {a: 1, b: 1}, s = ''; for (var k in o) { delete o.b; o.b = 2; o.c = 3; s += k; } return s;")) (gives (codes "ab")) ∷
    -- the first value of a declared name is evaluated before the object
    row 1000 (doing (codes "var s = ''; for (var k = (s += 'a') in (s += 'b', {})); return s + k;")) (gives (codes "aba")) ∷
    -- undefined, null and a number have no names
    row 1000 (doing (codes "for (var k in undefined) return 'a'; for (k in null) return 'b'; for (k in 12) return 'c'; return 'd';")) (gives (codes "d")) ∷
    -- the target of `for`-`in` is evaluated in its turn
    row 1000 (doing (codes "for (null.x in {a: 1});")) (fails_with code.Uncaught (at 1 43) (codes "TypeError: not an object")) ∷
    -- `continue` leaves a `switch` and goes on with the loop
    row 1000 (doing (codes "var s = ''; for (var i = 0; i < 3; i++) { switch (i) { case 1: continue; } s += i; } return s;")) (gives (codes "02")) ∷
    -- the tests behind the default come before it
    row 1000 (doing (codes "var s = ''; switch (1) { case (s += 'a', 0): default: s += 'd'; break; case (s += 'b', 2): } return s;")) (gives (codes "abd")) ∷
    -- a `break` in `finally` wins over a `return`
    row 1000 (doing (codes "for (;;) { try { return 'a'; } finally { break; } } return 'b';")) (gives (codes "b")) ∷
    -- a `continue` goes through `finally`
    row 1000 (doing (codes "var s = ''; for (var i = 0; i < 2; i++) { try { continue; } finally { s += i; } } return s;")) (gives (codes "01")) ∷
    -- what a handler throws goes through `finally`, and the handler isn't asked again
    row 1000 (doing (codes "var s = ''; try { try { throw 'a'; } catch (e) { s += e; throw 'b'; } finally { s += 'f'; } } catch (e) { s += e; } return s;")) (gives (codes "afb")) ∷
    -- a fault in `finally` ends the run
    row 1000 (doing (codes "try { throw 'a'; } finally { 1 % 0; }")) (fails code.DivisionByZero (at 1 65)) ∷
    -- no `finally` comes behind a fault in a handler
    row 1000 (doing (codes "try { throw 1; } catch (e) { return 1 / 0; } finally { return 'f'; }")) (fails code.DivisionByZero (at 1 72)) ∷
    -- `continue` in a `do` loop goes on with its condition
    row 1000 (doing (codes "var n = 0; do { n++; continue; } while (n < 3); return '' + n;")) (gives (codes "3")) ∷
    -- the indexes of a prototype come behind the names of the object
    row 1000 (doing (codes "function P() { this.b = 1; this[2] = 1; this[10] = 1; } P.prototype = {c: 1, 1: 1}; var s = ''; for (var k in new P()) s += k + ' '; return s;")) (gives (codes "2 10 b 1 c ")) ∷
    -- a name that was deleted is there while a prototype has it
    row 1000 (doing (codes "function P() { this.a = 1; this.b = 1; } P.prototype = {b: 1}; var o = new P(), s = ''; for (var k in o) { delete o.b; s += k; } return s;")) (gives (codes "ab")) ∷
    -- without a clause that fits nothing is done
    row 1000 (doing (codes "switch (1) { case '1': return 'a'; case 2: return 'b'; } return 'c';")) (gives (codes "c")) ∷
    -- `else if` and `else`
    row 1000 (doing (codes "var s = ''; for (var i = 0; i < 3; i++) { if (i == 0) s += 'a'; else if (i == 1) s += 'b'; else s += 'c'; } return s;")) (gives (codes "abc")) ∷
    -- an empty statement and `debugger` do nothing
    row 1000 (doing (codes "; debugger; { } if (0) ; return 'a';")) (gives (codes "a")) ∷
    -- `continue` and `break` in a `while` loop
    row 1000 (doing (codes "var n = 0, s = ''; while (true) { if (++n > 4) break; if (n % 2) continue; s += n; } return s;")) (gives (codes "24")) ∷
    -- `continue` and `break` in a `for`-`in` loop
    row 1000 (doing (codes "var s = ''; for (var k in {a: 1, b: 1, c: 1, d: 1}) { if (k == 'b') continue; if (k == 'd') break; s += k; } return s;")) (gives (codes "ac")) ∷
    -- a `break` leaves the innermost loop alone
    row 1000 (doing (codes "var s = ''; for (var i = 0; i < 2; i++) { for (;;) { s += i; break; } s += 'o'; } return s;")) (gives (codes "0o1o")) ∷
    -- a `finally` comes behind a block that ends
    row 1000 (doing (codes "var s = ''; try { s += 'a'; } catch (e) { s += 'c'; } finally { s += 'f'; } return s;")) (gives (codes "af")) ∷
    -- a throw goes on behind a `finally`
    row 1000 (doing (codes "var s = ''; try { try { throw 'a'; } finally { s += 'f'; } } catch (e) { s += e; } return s;")) (gives (codes "fa")) ∷
    -- a throw in `finally` takes the place of another
    row 1000 (doing (codes "try { try { throw 'a'; } finally { throw 'b'; } } catch (e) { return e; }")) (gives (codes "b")) ∷
    -- `this` is the same in a handler
    row 1000 (doing (codes "var o = {n: 'o', f: function () { try { throw 1; } catch (e) { return this.n; } }}; return o.f();")) (gives (codes "o")) ∷
    []

pub ends_of_statements-hold : AreRight ends_of_statements
unfolding piece_at tokens_from text_from row_of expect name any_word semicolon a_parameter parameters a_statement a_part expression in_parentheses an_argument arguments item_value an_item named_property a_property function_from function_expression new_arguments new_expression primary a_suffix suffixed postfix unary an_operand chain level conditional assignment evaluated block_from block first_value a_declared var_statement one_branch a_branch otherwise if_statement do_statement while_statement optional_expression for_from for_in_from for_var for_value for_statement return_statement throw_statement clause_from a_case clauses switch_statement catch_part finally_part try_statement function_statement statement deeper script_within expression_numbered optional_numbered expressions_numbered items_numbered properties_numbered suffix_numbered suffixes_numbered operands_numbered function_numbered statement_numbered otherwise_numbered statements_numbered declarations_numbered branches_numbered start_numbered target_numbered clauses_numbered handler_numbered rest_of_run filled_objects built_in_objects expression_node statement_node call_node construct_node load_node evaluation digits natives native_row native_of
ends_of_statements-hold = refl

-- ---- operators (11)

abbrev operators : List Row
operators =
    -- the range is looked at first, on any side
    row 1000 (doing (codes "return '' + ('1.5' - 'Infinity');")) (fails code.NumberRange (at 1 53)) ∷
    -- and not-a-number before the divisor
    row 1000 (doing (codes "return '' + ('x' / 0);")) (fails code.NotANumber (at 1 51)) ∷
    -- a fraction is looked at before not-a-number
    row 1000 (doing (codes "return '' + ('x' * '1e3');")) (fails code.Fraction (at 1 51)) ∷
    -- so it is where two values are compared
    row 1000 (doing (codes "return '' + ('1.5' < 2);")) (fails code.Fraction (at 1 53)) ∷
    -- and where they are tested for being equal
    row 1000 (doing (codes "return '' + ('Infinity' == 1);")) (fails code.NumberRange (at 1 58)) ∷
    -- a fraction has no bits
    row 1000 (doing (codes "return '' + ('1.5' | 0);")) (fails code.Fraction (at 1 53)) ∷
    -- what is equal
    row 1000 (doing (codes "return '' + (null == undefined) + (null == 0) + ('1' == 1) + (true == '1') + ('' == 0) + (undefined == false);")) (gives (codes "truefalsetruetruetruefalse")) ∷
    -- an object equals itself, and a primitive value that it becomes
    row 1000 (doing (codes "var o = {valueOf: function () { return 1; }}, p = {valueOf: o.valueOf}; return '' + (o == o) + (o == p) + (o == '1') + (true != o) + (o == null) + (o === 1);")) (gives (codes "truefalsetruefalsefalsefalse")) ∷
    -- two texts by their units, else numbers; not-a-number is in no order
    row 1000 (doing (codes "return '' + ('10' < '9') + ('10' < 9) + (undefined < 1) + (undefined >= 1) + (null >= 0) + ('b' > 'a');")) (gives (codes "truefalsefalsefalsetruetrue")) ∷
    -- a text beside any other value
    row 1000 (doing (codes "return '' + (1 + '2') + (null + 1) + (true + true) + ('a' + null) + (undefined + 'b');")) (gives (codes "1212anullundefinedb")) ∷
    -- each operator of an assignment
    row 1000 (doing (codes "var x = 7, s = ''; s += (x -= 2) + ' ' + (x *= 6) + ' ' + (x /= 3) + ' ' + (x %= 4) + ' ' + (x <<= 5) + ' ' + (x >>= 2) + ' ' + (x >>>= 1) + ' ' + (x |= 5) + ' ' + (x &= 6) + ' ' + (x ^= 7); return s;")) (gives (codes "5 30 10 2 64 16 8 13 4 3")) ∷
    -- the operators before one operand
    row 1000 (doing (codes "var i = 5; return '' + +true + -'3' + ~undefined + ~'7' + !'' + !{} + i-- + --i + -null;")) (gives (codes "1-3-1-8truefalse530")) ∷
    -- `~` of a fraction has its place
    row 1000 (doing (codes "return '' + ~'1.5';")) (fails code.Fraction (at 1 46)) ∷
    -- the types of values
    row 1000 (doing (codes "return typeof null + typeof [] + typeof typeof 1 + typeof 1 + typeof true + typeof void 0 + typeof function () { };")) (gives (codes "objectobjectstringnumberbooleanundefinedfunction")) ∷
    -- `&&` and `||` give an operand, and the first that decides
    row 1000 (doing (codes "return (0 || 'a') + ('' && x) + (1 && 'b') + ('c' || x) + (0 || '' || 'd') + (1 && 2 && 'e');")) (gives (codes "abcde")) ∷
    -- the prototype of a function is no instance of it
    row 1000 (doing (codes "function P() { } function Q() { } Q.prototype = new P(); return '' + (P.prototype instanceof P) + (new Q() instanceof P) + (new P() instanceof Q);")) (gives (codes "falsetruefalse")) ∷
    []

pub operators-hold : AreRight operators
unfolding piece_at tokens_from text_from row_of expect name any_word semicolon a_parameter parameters a_statement a_part expression in_parentheses an_argument arguments item_value an_item named_property a_property function_from function_expression new_arguments new_expression primary a_suffix suffixed postfix unary an_operand chain level conditional assignment evaluated block_from block first_value a_declared var_statement one_branch a_branch otherwise if_statement do_statement while_statement optional_expression for_from for_in_from for_var for_value for_statement return_statement throw_statement clause_from a_case clauses switch_statement catch_part finally_part try_statement function_statement statement deeper script_within expression_numbered optional_numbered expressions_numbered items_numbered properties_numbered suffix_numbered suffixes_numbered operands_numbered function_numbered statement_numbered otherwise_numbered statements_numbered declarations_numbered branches_numbered start_numbered target_numbered clauses_numbered handler_numbered rest_of_run filled_objects built_in_objects expression_node statement_node call_node construct_node load_node evaluation digits natives native_row native_of
operators-hold = refl

-- ---- the text of an uncaught throw

abbrev uncaught_texts : List Row
uncaught_texts =
    -- a primitive value as a text
    row 1000 (doing (codes "throw undefined;")) (fails_with code.Uncaught (at 1 34) (codes "undefined")) ∷
    -- an object by its class, and not by its methods
    row 1000 (doing (codes "throw {toString: function () { return 's'; }};")) (fails_with code.Uncaught (at 1 34) (codes "[object Object]")) ∷
    -- an array
    row 1000 (doing (codes "throw [1];")) (fails_with code.Uncaught (at 1 34) (codes "[object Array]")) ∷
    -- a function
    row 1000 (doing (codes "throw function () { };")) (fails_with code.Uncaught (at 1 34) (codes "[object Function]")) ∷
    -- an error has the place of the statement that threw it last; a message that is no text is empty
    row 1000 (doing (codes "try { null.x; } catch (e) { e.message = 1; throw e; }")) (fails_with code.Uncaught (at 1 77) (codes "TypeError")) ∷
    -- a name that is empty is left out
    row 1000 (doing (codes "try { null.x; } catch (e) { e.name = ''; throw e; }")) (fails_with code.Uncaught (at 1 75) (codes "not an object")) ∷
    -- a name of the prototype counts
    row 1000 (doing (codes "try { null.x; } catch (e) { delete e.message; throw e; }")) (fails_with code.Uncaught (at 1 80) (codes "TypeError")) ∷
    -- a throw of the load has its place too
    row 1000 (codes "throw 'l';") (fails_with code.Uncaught (at 1 1) (codes "l")) ∷
    -- a property of undefined by its index has the place of the bracket
    row 1000 (doing (codes "var o = {}; o.a['b'];")) (fails_with code.Uncaught (at 1 49) (codes "TypeError: not an object")) ∷
    -- and so has one that is left out
    row 1000 (doing (codes "Math['sqrt'];")) (fails_with code.Unsupported (at 1 38) (codes "Math.sqrt")) ∷
    -- a write by `for`-`in` has the place of the statement
    row 1000 (doing (codes "var a = []; for (a.length in {x: 1});")) (fails_with code.Uncaught (at 1 46) (codes "RangeError: invalid array length")) ∷
    -- its target is evaluated in its own places
    row 1000 (doing (codes "for (x[0] in {a: 1});")) (fails_with code.Uncaught (at 1 39) (codes "ReferenceError: x is not defined")) ∷
    []

pub uncaught_texts-hold : AreRight uncaught_texts
unfolding piece_at tokens_from text_from row_of expect name any_word semicolon a_parameter parameters a_statement a_part expression in_parentheses an_argument arguments item_value an_item named_property a_property function_from function_expression new_arguments new_expression primary a_suffix suffixed postfix unary an_operand chain level conditional assignment evaluated block_from block first_value a_declared var_statement one_branch a_branch otherwise if_statement do_statement while_statement optional_expression for_from for_in_from for_var for_value for_statement return_statement throw_statement clause_from a_case clauses switch_statement catch_part finally_part try_statement function_statement statement deeper script_within expression_numbered optional_numbered expressions_numbered items_numbered properties_numbered suffix_numbered suffixes_numbered operands_numbered function_numbered statement_numbered otherwise_numbered statements_numbered declarations_numbered branches_numbered start_numbered target_numbered clauses_numbered handler_numbered rest_of_run filled_objects built_in_objects expression_node statement_node call_node construct_node load_node evaluation digits natives native_row native_of
uncaught_texts-hold = refl

-- ---- scopes

abbrev scopes : List Row
scopes =
    -- a handler within a function expression with a name, and a function in it: each scope is found outward
    row 1000 (doing (codes "var f = function g(n) { try { throw n; } catch (e) { return (function () { return typeof g + e + n; })(); } }; return f('x');")) (gives (codes "functionxx")) ∷
    -- the own name keeps its value as a target of `for`-`in`
    row 1000 (doing (codes "var f = function g() { for (g in {a: 1}); return typeof g; }; return f();")) (gives (codes "function")) ∷
    -- no name of a scope can be deleted
    row 1000 (doing (codes "var f = function g(p) { var v; try { throw 1; } catch (e) { return '' + delete g + delete p + delete v + delete e + delete arguments + delete nothing; } }; return f();")) (gives (codes "falsefalsefalsefalsefalsetrue")) ∷
    -- each call has a scope of its own
    row 1000 (doing (codes "function f(n) { return n == 0 ? '' : f(n - 1) + n; } return f(3);")) (gives (codes "123")) ∷
    -- what is no reference has nothing to delete, and is evaluated (11.4.1)
    row 1000 (doing (codes "var s = 'a'; return '' + delete (s += 'b') + delete 1 + delete this + s;")) (gives (codes "truetruetrueab")) ∷
    []

pub scopes-hold : AreRight scopes
unfolding piece_at tokens_from text_from row_of expect name any_word semicolon a_parameter parameters a_statement a_part expression in_parentheses an_argument arguments item_value an_item named_property a_property function_from function_expression new_arguments new_expression primary a_suffix suffixed postfix unary an_operand chain level conditional assignment evaluated block_from block first_value a_declared var_statement one_branch a_branch otherwise if_statement do_statement while_statement optional_expression for_from for_in_from for_var for_value for_statement return_statement throw_statement clause_from a_case clauses switch_statement catch_part finally_part try_statement function_statement statement deeper script_within expression_numbered optional_numbered expressions_numbered items_numbered properties_numbered suffix_numbered suffixes_numbered operands_numbered function_numbered statement_numbered otherwise_numbered statements_numbered declarations_numbered branches_numbered start_numbered target_numbered clauses_numbered handler_numbered rest_of_run filled_objects built_in_objects expression_node statement_node call_node construct_node load_node evaluation digits natives native_row native_of
scopes-hold = refl

-- ---- primitive values as objects

abbrev primitive_values : List Row
primitive_values =
    -- a write to a property of a primitive value is ignored, and gives the value
    row 1000 (doing (codes "var s = 'abc'; return '' + (s.length = 5) + s.length + (s[0] = 'x') + s + (1).x + (true.x = 2);")) (gives (codes "53xabcundefined2")) ∷
    -- the length and the units of a text can't be deleted
    row 1000 (doing (codes "var s = 'ab'; return '' + delete s.length + delete s[1] + delete s[2] + delete s.x + delete (1).x;")) (gives (codes "falsefalsetruetruetrue")) ∷
    -- past the end of a text there is nothing
    row 1000 (doing (codes "return '' + 'ab'[2] + 'ab'['01'] + 'ab'[-1];")) (gives (codes "undefinedundefinedundefined")) ∷
    []

pub primitive_values-hold : AreRight primitive_values
unfolding piece_at tokens_from text_from row_of expect name any_word semicolon a_parameter parameters a_statement a_part expression in_parentheses an_argument arguments item_value an_item named_property a_property function_from function_expression new_arguments new_expression primary a_suffix suffixed postfix unary an_operand chain level conditional assignment evaluated block_from block first_value a_declared var_statement one_branch a_branch otherwise if_statement do_statement while_statement optional_expression for_from for_in_from for_var for_value for_statement return_statement throw_statement clause_from a_case clauses switch_statement catch_part finally_part try_statement function_statement statement deeper script_within expression_numbered optional_numbered expressions_numbered items_numbered properties_numbered suffix_numbered suffixes_numbered operands_numbered function_numbered statement_numbered otherwise_numbered statements_numbered declarations_numbered branches_numbered start_numbered target_numbered clauses_numbered handler_numbered rest_of_run filled_objects built_in_objects expression_node statement_node call_node construct_node load_node evaluation digits natives native_row native_of
primitive_values-hold = refl

-- ---- arrays (15.4.5)

abbrev arrays : List Row
arrays =
    -- a shorter length takes the elements behind it away
    row 1000 (doing (codes "var a = [1, 2, 3]; a.length = 1; a.length = 3; return '' + a[0] + a[1] + a.length + (2 in a);")) (gives (codes "1undefined3false")) ∷
    -- the length of an array isn't listed and can't be deleted, an element can
    row 1000 (doing (codes "var a = [1, 2], s = ''; s += delete a.length; s += delete a[1]; for (var k in a) s += k; return s + a.length;")) (gives (codes "falsetrue02")) ∷
    -- a name that is no index leaves the length
    row 1000 (doing (codes "var a = [1]; a['01'] = 2; a.x = 3; var s = ''; for (var k in a) s += k + ' '; return s + a.length;")) (gives (codes "0 01 x 1")) ∷
    -- an object with an array as its prototype has a length of its own once it is written
    row 1000 (doing (codes "function P() { } P.prototype = [1, 2]; var p = new P(), s = '' + p.length; p.length = 'x'; return s + p.length + P.prototype.length;")) (gives (codes "2x2")) ∷
    -- 2^32 - 1 is no index
    row 1000 (doing (codes "var a = []; a[4294967295] = 'x'; return a[4294967295] + a.length;")) (gives (codes "x0")) ∷
    -- 2^32 - 2 is one, and too large
    row 1000 (doing (codes "var a = []; a[4294967294] = 'x';")) (fails code.ArrayTooLong (at 1 60)) ∷
    []

pub arrays-hold : AreRight arrays
unfolding piece_at tokens_from text_from row_of expect name any_word semicolon a_parameter parameters a_statement a_part expression in_parentheses an_argument arguments item_value an_item named_property a_property function_from function_expression new_arguments new_expression primary a_suffix suffixed postfix unary an_operand chain level conditional assignment evaluated block_from block first_value a_declared var_statement one_branch a_branch otherwise if_statement do_statement while_statement optional_expression for_from for_in_from for_var for_value for_statement return_statement throw_statement clause_from a_case clauses switch_statement catch_part finally_part try_statement function_statement statement deeper script_within expression_numbered optional_numbered expressions_numbered items_numbered properties_numbered suffix_numbered suffixes_numbered operands_numbered function_numbered statement_numbered otherwise_numbered statements_numbered declarations_numbered branches_numbered start_numbered target_numbered clauses_numbered handler_numbered rest_of_run filled_objects built_in_objects expression_node statement_node call_node construct_node load_node evaluation digits natives native_row native_of
arrays-hold = refl

-- ---- texts

abbrev long_texts : List Row
long_texts =
    -- a sum of more than 262,144 units, at the operator
    row 1000 (doing (codes "var s = '0123456789abcdef'; for (;;) s += s;")) (fails code.StringTooLong (at 1 73)) ∷
    -- of the text of a throw the first 1,024 units are kept
    row 1000 (doing (codes "var s = '01234567'; for (var i = 0; i < 8; i++) s += s; throw s;")) (fails_with code.Uncaught (at 1 90) (repeated 128 (codes "01234567"))) ∷
    []

pub long_texts-hold : AreRight long_texts
unfolding piece_at tokens_from text_from row_of expect name any_word semicolon a_parameter parameters a_statement a_part expression in_parentheses an_argument arguments item_value an_item named_property a_property function_from function_expression new_arguments new_expression primary a_suffix suffixed postfix unary an_operand chain level conditional assignment evaluated block_from block first_value a_declared var_statement one_branch a_branch otherwise if_statement do_statement while_statement optional_expression for_from for_in_from for_var for_value for_statement return_statement throw_statement clause_from a_case clauses switch_statement catch_part finally_part try_statement function_statement statement deeper script_within expression_numbered optional_numbered expressions_numbered items_numbered properties_numbered suffix_numbered suffixes_numbered operands_numbered function_numbered statement_numbered otherwise_numbered statements_numbered declarations_numbered branches_numbered start_numbered target_numbered clauses_numbered handler_numbered rest_of_run filled_objects built_in_objects expression_node statement_node call_node construct_node load_node evaluation digits natives native_row native_of
long_texts-hold = refl
