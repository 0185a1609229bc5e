-- Worked examples of patterns: their objects, their methods, and those of texts that take one.
use Rattle.std.specs.Prelude.{List, [], ◌∷◌, codes, refl}
use Rattle.js_evaluation.specs.declared.fault.FaultCode.TheVariants as code
use Rattle.js_evaluation.specs.Expressions.{expression_node}
use Rattle.js_evaluation.specs.Statements.{statement_node}
use Rattle.js_evaluation.specs.Entries.{call_node, construct_node, load_node}
use Rattle.js_evaluation.specs.Evaluation.{evaluation}
use Rattle.js_evaluation.specs.Examples.{AreRight, Row, row, at, doing, gives, fails, fails_with}
use Rattle.std.specs.Fmt.{digits}
use Rattle.js_pattern_reader.specs.Reading.{inside_of}
use Rattle.js_grammar.specs.Tokens.{piece_at, tokens_from}
use Rattle.js_grammar.specs.Literals.{text_from}
use Rattle.js_grammar.specs.Patterns.{literal_of, pattern_at}
use Rattle.js_grammar.specs.Readers.{row_of, expect, name, any_word, semicolon, a_parameter, parameters}
use Rattle.js_grammar.specs.Expressions.{a_statement, a_part, expression, in_parentheses, an_argument, arguments, item_value, an_item, named_property, a_property, function_from, function_expression, new_arguments, new_expression, primary, a_suffix, suffixed, postfix, unary, an_operand, chain, level, conditional, assignment}
use Rattle.js_grammar.specs.Statements.{evaluated, block_from, block, first_value, a_declared, var_statement, one_branch, a_branch, otherwise, if_statement, do_statement, while_statement, optional_expression, for_from, for_in_from, for_var, for_value, for_statement, return_statement, throw_statement, clause_from, a_case, clauses, switch_statement, catch_part, finally_part, try_statement, function_statement, statement, deeper, script_within}
use Rattle.js_binding.specs.Numbered.{expression_numbered, optional_numbered, expressions_numbered, items_numbered, properties_numbered, suffix_numbered, suffixes_numbered, operands_numbered, function_numbered, statement_numbered, otherwise_numbered, statements_numbered, declarations_numbered, branches_numbered, start_numbered, target_numbered, clauses_numbered, handler_numbered}
use Rattle.run_trees.specs.WholeRun.{rest_of_run}
use Rattle.object_heap.specs.Fresh.{filled_objects, built_in_objects}
use Rattle.js_evaluation.specs.NativeTable.{natives, native_row, native_of}

-- ---- the objects of patterns (7.8.5, 15.10.7)

abbrev pattern_objects : List Row
pattern_objects =
    -- what a pattern says of its literal can't be written
    row 1000 (doing (codes "var p = /a\\/b/gi; p.source = 'c'; p.global = false; p.ignoreCase = 1; p.multiline = 1; return p.source + p.global + p.ignoreCase + p.multiline;")) (gives (codes "a\\/btruetruefalse")) ∷
    -- `lastIndex` is 0 at first, and can be written
    row 1000 (doing (codes "var p = /a/, s = '' + p.lastIndex; p.lastIndex = 'b'; return s + p.lastIndex;")) (gives (codes "0b")) ∷
    -- none of them is listed or deleted
    row 1000 (doing (codes "var p = /a/, s = ''; for (var k in p) s += k; return s + delete p.source + delete p.global + delete p.lastIndex;")) (gives (codes "falsefalsefalse")) ∷
    -- a property that is added is like any other
    row 1000 (doing (codes "var p = /a/, s = ''; p.x = 'b'; for (var k in p) s += k; return s + p.x + delete p.x;")) (gives (codes "xbtrue")) ∷
    -- each evaluation of a literal makes an object
    row 1000 (doing (codes "function f() { return /a/; } return '' + (f() === f());")) (gives (codes "false")) ∷
    -- its type and its class (11.4.3, 15.2.4.2)
    row 1000 (doing (codes "var p = /a/; p.t = ({}).toString; return typeof p + p.t();")) (gives (codes "object[object RegExp]")) ∷
    -- as a text it is a literal, and its flags stand in one order (15.10.6.4)
    row 1000 (doing (codes "return '' + /a\\/b/mig;")) (gives (codes "/a\\/b/gim")) ∷
    -- thrown and not caught it is told by its class
    row 1000 (doing (codes "throw /a/;")) (fails_with code.Uncaught (at 1 34) (codes "[object RegExp]")) ∷
    -- the constructor is left out
    row 1000 (doing (codes "/a/.constructor;")) (fails_with code.Unsupported (at 1 37) (codes "RegExp")) ∷
    []

pub pattern_objects-hold : AreRight pattern_objects
unfolding piece_at tokens_from text_from row_of expect name any_word semicolon a_parameter parameters a_statement a_part expression in_parentheses an_argument arguments item_value an_item named_property a_property function_from function_expression new_arguments new_expression primary a_suffix suffixed postfix unary an_operand chain level conditional assignment evaluated block_from block first_value a_declared var_statement one_branch a_branch otherwise if_statement do_statement while_statement optional_expression for_from for_in_from for_var for_value for_statement return_statement throw_statement clause_from a_case clauses switch_statement catch_part finally_part try_statement function_statement statement deeper script_within expression_numbered optional_numbered expressions_numbered items_numbered properties_numbered suffix_numbered suffixes_numbered operands_numbered function_numbered statement_numbered otherwise_numbered statements_numbered declarations_numbered branches_numbered start_numbered target_numbered clauses_numbered handler_numbered rest_of_run filled_objects built_in_objects expression_node statement_node call_node construct_node load_node evaluation digits natives native_row native_of pattern_at literal_of inside_of
pattern_objects-hold = refl

-- ---- `exec` and `test` (15.10.6.2, 15.10.6.3)

abbrev pattern_executions : List Row
pattern_executions =
    -- the match and its groups, with its place and the text
    row 1000 (doing (codes "var m = /b(c)(d)?/.exec('abc'); return m.join('|') + m.index + m.input + m.length;")) (gives (codes "bc|c|1abc3")) ∷
    -- a group that is unset is undefined
    row 1000 (doing (codes "return typeof /b(c)?/.exec('b')[1];")) (gives (codes "undefined")) ∷
    -- the standard's example of groups that are unset again (15.10.2.5)
    row 1000 (doing (codes "return /(z)((a+)?(b+)?(c))*/.exec('zaacbbbcac').join('-');")) (gives (codes "zaacbbbcac-z-ac-a--c")) ∷
    -- the elements of a match, its place and the text are listed
    row 1000 (doing (codes "var s = '', m = /a(b)/.exec('ab'); for (var k in m) s += k; return s;")) (gives (codes "01indexinput")) ∷
    -- null where there is no match
    row 1000 (doing (codes "return '' + /a/.exec('b');")) (gives (codes "null")) ∷
    -- `test` gives whether there is one
    row 1000 (doing (codes "return '' + /a/.test('ba') + /a/.test('b') + /A/i.test('ba');")) (gives (codes "truefalsetrue")) ∷
    -- what is searched becomes a text, undefined too
    row 1000 (doing (codes "return '' + /^undefined$/.test() + /^1$/.test(1);")) (gives (codes "truetrue")) ∷
    -- the receiver has to be a pattern
    row 1000 (doing (codes "var o = {t: /a/.test}; o.t('a');")) (fails_with code.Uncaught (at 1 60) (codes "TypeError: not an object")) ∷
    -- so it has for the text of a pattern
    row 1000 (doing (codes "var o = {t: /a/.toString}; o.t();")) (fails_with code.Uncaught (at 1 64) (codes "TypeError: not an object")) ∷
    []

pub pattern_executions-hold : AreRight pattern_executions
unfolding piece_at tokens_from text_from row_of expect name any_word semicolon a_parameter parameters a_statement a_part expression in_parentheses an_argument arguments item_value an_item named_property a_property function_from function_expression new_arguments new_expression primary a_suffix suffixed postfix unary an_operand chain level conditional assignment evaluated block_from block first_value a_declared var_statement one_branch a_branch otherwise if_statement do_statement while_statement optional_expression for_from for_in_from for_var for_value for_statement return_statement throw_statement clause_from a_case clauses switch_statement catch_part finally_part try_statement function_statement statement deeper script_within expression_numbered optional_numbered expressions_numbered items_numbered properties_numbered suffix_numbered suffixes_numbered operands_numbered function_numbered statement_numbered otherwise_numbered statements_numbered declarations_numbered branches_numbered start_numbered target_numbered clauses_numbered handler_numbered rest_of_run filled_objects built_in_objects expression_node statement_node call_node construct_node load_node evaluation digits natives native_row native_of pattern_at literal_of inside_of
pattern_executions-hold = refl

-- ---- `lastIndex` (15.10.6.2, steps 4 to 11)

abbrev last_indexes : List Row
last_indexes =
    -- the search of a global pattern begins there, and sets it behind the match, or to 0 where it finds nothing
    row 1000 (doing (codes "var p = /a/g, s = ''; p.test('aa'); s += p.lastIndex; p.test('aa'); s += p.lastIndex; p.test('aa'); return s + p.lastIndex;")) (gives (codes "120")) ∷
    -- that of another one begins at 0, and changes it only where it finds nothing
    row 1000 (doing (codes "var p = /a/, s = ''; p.lastIndex = 5; s += p.test('a'); s += p.lastIndex; p.test('b'); return s + p.lastIndex;")) (gives (codes "true50")) ∷
    -- outside of the text nothing is found
    row 1000 (doing (codes "var p = /a/g, s = ''; p.lastIndex = -1; s += p.test('a'); s += p.lastIndex; p.lastIndex = 2; return s + p.test('a') + p.lastIndex;")) (gives (codes "false0false0")) ∷
    -- at the end of the text an empty match is found
    row 1000 (doing (codes "var p = /b*/g; p.lastIndex = 1; return p.exec('a').index + '' + p.lastIndex;")) (gives (codes "11")) ∷
    -- it becomes a number
    row 1000 (doing (codes "var p = /a/g, s = ''; p.lastIndex = '1'; p.test('aa'); s += p.lastIndex; p.lastIndex = undefined; p.test('aa'); return s + p.lastIndex;")) (gives (codes "21")) ∷
    -- one that isn't whole is a fault
    row 1000 (doing (codes "var p = /a/g; p.lastIndex = '0.5'; p.test('a');")) (fails code.Fraction (at 1 75)) ∷
    -- it is read behind the text, also where it doesn't count
    row 1000 (doing (codes "var s = '', p = /a/; p.lastIndex = {valueOf: function () { s += 'v'; return 0; }}; p.test({toString: function () { s += 't'; return 'a'; }}); return s;")) (gives (codes "tv")) ∷
    []

pub last_indexes-hold : AreRight last_indexes
unfolding piece_at tokens_from text_from row_of expect name any_word semicolon a_parameter parameters a_statement a_part expression in_parentheses an_argument arguments item_value an_item named_property a_property function_from function_expression new_arguments new_expression primary a_suffix suffixed postfix unary an_operand chain level conditional assignment evaluated block_from block first_value a_declared var_statement one_branch a_branch otherwise if_statement do_statement while_statement optional_expression for_from for_in_from for_var for_value for_statement return_statement throw_statement clause_from a_case clauses switch_statement catch_part finally_part try_statement function_statement statement deeper script_within expression_numbered optional_numbered expressions_numbered items_numbered properties_numbered suffix_numbered suffixes_numbered operands_numbered function_numbered statement_numbered otherwise_numbered statements_numbered declarations_numbered branches_numbered start_numbered target_numbered clauses_numbered handler_numbered rest_of_run filled_objects built_in_objects expression_node statement_node call_node construct_node load_node evaluation digits natives native_row native_of pattern_at literal_of inside_of
last_indexes-hold = refl

-- ---- the methods of texts (15.5.4.10 to 15.5.4.14)

abbrev methods_of_texts : List Row
methods_of_texts =
    -- `match` with a pattern that isn't global is `exec`
    row 1000 (doing (codes "var m = 'abc'.match(/b(c)/); return m.join() + m.index;")) (gives (codes "bc,c1")) ∷
    -- with a global one it gives each match
    row 1000 (doing (codes "return 'a1b22'.match(/\\d+/g).join();")) (gives (codes "1,22")) ∷
    -- null where there is none
    row 1000 (doing (codes "return '' + 'a'.match(/b/) + 'a'.match(/b/g);")) (gives (codes "nullnull")) ∷
    -- it begins at the front, whatever `lastIndex` is, and sets that to 0
    row 1000 (doing (codes "var p = /a/g; p.lastIndex = 1; return 'ab'.match(p).length + '' + p.lastIndex;")) (gives (codes "10")) ∷
    -- `search` gives the place of the first match, or -1
    row 1000 (doing (codes "return 'abc'.search(/c/) + '' + 'abc'.search(/d/);")) (gives (codes "2-1")) ∷
    -- it leaves `lastIndex` alone
    row 1000 (doing (codes "var p = /a/g; p.lastIndex = 3; return 'ba'.search(p) + '' + p.lastIndex;")) (gives (codes "13")) ∷
    -- `replace` puts groups in
    row 1000 (doing (codes "return 'abc'.replace(/(a)(b)/, '$2$1');")) (gives (codes "bac")) ∷
    -- with a global pattern it replaces each match, and sets `lastIndex` to 0
    row 1000 (doing (codes "var p = /-/g; p.lastIndex = 3; return 'a-b-c'.replace(p, '+') + 'a-b'.replace(/-/, 1) + p.lastIndex;")) (gives (codes "a+b+ca1b0")) ∷
    -- a text is looked for as it stands
    row 1000 (doing (codes "return 'aa.'.replace('.', 'b') + 'a.b'.split('.').join();")) (gives (codes "aaba,b")) ∷
    -- `split` gives the groups between the pieces, also unset ones
    row 1000 (doing (codes "var a = 'a1b'.split(/(1)(2)?/); return a.join() + a.length + typeof a[2];")) (gives (codes "a,1,,b4undefined")) ∷
    -- and so many of them at the most
    row 1000 (doing (codes "return 'a,b,c'.split(/,/, 2).join('|');")) (gives (codes "a|b")) ∷
    -- `match` and `replace` read `lastIndex` where the pattern isn't global, `search` and `split` don't
    row 1000 (doing (codes "var s = '', p = /a/; p.lastIndex = {valueOf: function () { s += 'v'; return 0; }}; 'a'.match(p); 'a'.replace(p, 'b'); 'a'.search(p); 'a'.split(p); return s;")) (gives (codes "vv")) ∷
    -- `match` with anything else is left out
    row 1000 (doing (codes "'a'.match('a');")) (fails_with code.Unsupported (at 1 43) (codes "String.prototype.match")) ∷
    -- so is `search`
    row 1000 (doing (codes "'a'.search({});")) (fails_with code.Unsupported (at 1 44) (codes "String.prototype.search")) ∷
    -- and so is a function as replacement
    row 1000 (doing (codes "'a'.replace(/a/, function () { });")) (fails_with code.Unsupported (at 1 45) (codes "String.prototype.replace")) ∷
    []

pub methods_of_texts-hold : AreRight methods_of_texts
unfolding piece_at tokens_from text_from row_of expect name any_word semicolon a_parameter parameters a_statement a_part expression in_parentheses an_argument arguments item_value an_item named_property a_property function_from function_expression new_arguments new_expression primary a_suffix suffixed postfix unary an_operand chain level conditional assignment evaluated block_from block first_value a_declared var_statement one_branch a_branch otherwise if_statement do_statement while_statement optional_expression for_from for_in_from for_var for_value for_statement return_statement throw_statement clause_from a_case clauses switch_statement catch_part finally_part try_statement function_statement statement deeper script_within expression_numbered optional_numbered expressions_numbered items_numbered properties_numbered suffix_numbered suffixes_numbered operands_numbered function_numbered statement_numbered otherwise_numbered statements_numbered declarations_numbered branches_numbered start_numbered target_numbered clauses_numbered handler_numbered rest_of_run filled_objects built_in_objects expression_node statement_node call_node construct_node load_node evaluation digits natives native_row native_of pattern_at literal_of inside_of
methods_of_texts-hold = refl

-- ---- what searches and patterns cost

abbrev costs_of_patterns : List Row
costs_of_patterns =
    -- twelve units to the entry of `test`, and a search of two: fourteen in all
    row 14 (doing (codes "return '' + /a/.test('a');")) (gives (codes "true")) ∷
    -- thirteen are one too few
    row 13 (doing (codes "return '' + /a/.test('a');")) (fails code.FuelSpent (at 1 54)) ∷
    -- a place where no match begins costs too: two units more
    row 16 (doing (codes "return '' + /a/.test('ba');")) (gives (codes "true")) ∷
    -- fifteen are one too few
    row 15 (doing (codes "return '' + /a/.test('ba');")) (fails code.FuelSpent (at 1 54)) ∷
    -- ten units to the entry of `match`, two for the text, a search of four and two more: eighteen in all
    row 18 (doing (codes "'ab'.match(/b/); return 'x';")) (gives (codes "x")) ∷
    -- seventeen are one too few
    row 17 (doing (codes "'ab'.match(/b/); return 'x';")) (fails code.FuelSpent (at 1 58)) ∷
    -- so many are those of `split`
    row 18 (doing (codes "'ab'.split(/b/); return 'x';")) (gives (codes "x")) ∷
    -- the search has the place of the call
    row 15 (doing (codes "'ab'.split(/b/); return 'x';")) (fails code.FuelSpent (at 1 44)) ∷
    -- a pattern is two cells
    row 1000 (doing (codes "var i; /a/; for (i = 0; i < 19; i++) [].length = 100000; [].length = 99968; return 'x';")) (gives (codes "x")) ∷
    -- with one cell less it is full
    row 1000 (doing (codes "var i; /a/; for (i = 0; i < 19; i++) [].length = 100000; [].length = 99969; return 'x';")) (fails code.HeapFull (at 1 101)) ∷
    []

pub costs_of_patterns-hold : AreRight costs_of_patterns
unfolding piece_at tokens_from text_from row_of expect name any_word semicolon a_parameter parameters a_statement a_part expression in_parentheses an_argument arguments item_value an_item named_property a_property function_from function_expression new_arguments new_expression primary a_suffix suffixed postfix unary an_operand chain level conditional assignment evaluated block_from block first_value a_declared var_statement one_branch a_branch otherwise if_statement do_statement while_statement optional_expression for_from for_in_from for_var for_value for_statement return_statement throw_statement clause_from a_case clauses switch_statement catch_part finally_part try_statement function_statement statement deeper script_within expression_numbered optional_numbered expressions_numbered items_numbered properties_numbered suffix_numbered suffixes_numbered operands_numbered function_numbered statement_numbered otherwise_numbered statements_numbered declarations_numbered branches_numbered start_numbered target_numbered clauses_numbered handler_numbered rest_of_run filled_objects built_in_objects expression_node statement_node call_node construct_node load_node evaluation digits natives native_row native_of pattern_at literal_of inside_of
costs_of_patterns-hold = refl
