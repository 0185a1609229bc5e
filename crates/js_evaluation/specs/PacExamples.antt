-- Worked examples of the functions of the proxy format as natives, none of which asks the host a name.
use Rattle.std.specs.Prelude.{◌≡◌, List, [], ◌∷◌, codes, Ok, refl}
use Rattle.js_evaluation.specs.declared.fault.FaultCode.TheVariants as code
use Rattle.js_evaluation.specs.Expressions.{expression_node}
use Rattle.js_evaluation.specs.Statements.{statement_node}
use Rattle.js_evaluation.specs.Entries.{call_node, construct_node, load_node}
use Rattle.js_evaluation.specs.Evaluation.{evaluation}
use Rattle.js_evaluation.specs.PacNatives.{followed_by}
use Rattle.js_evaluation.specs.Examples.{Row, row, AreRight, outcome_with, at, doing, gives, fails, fails_with}
use Rattle.std.specs.Fmt.{digits}
use Rattle.js_grammar.specs.Tokens.{piece_at, tokens_from}
use Rattle.js_grammar.specs.Literals.{text_from}
use Rattle.js_grammar.specs.Readers.{row_of, expect, name, any_word, semicolon, a_parameter, parameters}
use Rattle.js_grammar.specs.Expressions.{a_statement, a_part, expression, in_parentheses, an_argument, arguments, item_value, an_item, named_property, a_property, function_from, function_expression, new_arguments, new_expression, primary, a_suffix, suffixed, postfix, unary, an_operand, chain, level, conditional, assignment}
use Rattle.js_grammar.specs.Statements.{evaluated, block_from, block, first_value, a_declared, var_statement, one_branch, a_branch, otherwise, if_statement, do_statement, while_statement, optional_expression, for_from, for_in_from, for_var, for_value, for_statement, return_statement, throw_statement, clause_from, a_case, clauses, switch_statement, catch_part, finally_part, try_statement, function_statement, statement, deeper, script_within}
use Rattle.js_binding.specs.Numbered.{expression_numbered, optional_numbered, expressions_numbered, items_numbered, properties_numbered, suffix_numbered, suffixes_numbered, operands_numbered, function_numbered, statement_numbered, otherwise_numbered, statements_numbered, declarations_numbered, branches_numbered, start_numbered, target_numbered, clauses_numbered, handler_numbered}
use Rattle.run_trees.specs.WholeRun.{rest_of_run}
use Rattle.object_heap.specs.Fresh.{filled_objects, built_in_objects}
use Rattle.js_evaluation.specs.NativeTable.{natives, native_row, native_of}
use Rattle.js_grammar.specs.Reading.{◌>>=◌}

-- ---- answers

abbrev answers : List Row
answers =
    row 1000 (doing (codes "return '' + isPlainHostName(h) + isPlainHostName('a.b');")) (gives (codes "truefalse")) ∷
    row 1000 (doing (codes "return '' + dnsDomainIs('www.a.example', '.example') + dnsDomainLevels('a.b.c');")) (gives (codes "true2")) ∷
    -- nobody is asked for a quad
    row 1000 (doing (codes "return dnsResolve('010.1.2.3') + isInNet('10.1.2.3', '10.0.0.0', '255.0.0.0');")) (gives (codes "10.1.2.3true")) ∷
    row 1000 (doing (codes "return myIpAddress();")) (gives (codes "127.0.0.1")) ∷
    row 1000 (doing (codes "return '' + shExpMatch('a.example', '*.example') + shExpMatch('ab', '?');")) (gives (codes "truefalse")) ∷
    -- a missing argument is undefined, and undefined has no address
    row 1000 (doing (codes "return '' + dnsResolve() + isPlainHostName();")) (gives (codes "nulltrue")) ∷
    row 1000 (doing (codes "return '' + alert('x');")) (gives (codes "undefined")) ∷
    -- what writes an address of either family is it, in its plain spelling; and so is a net's
    row 1000 (doing (codes "return dnsResolveEx('2001:DB8:0::1') + ' ' + dnsResolveEx('010.1.2.3') + isResolvableEx('a b');")) (gives (codes "2001:db8::1 10.1.2.3false")) ∷
    row 1000 (doing (codes "return '' + isInNetEx('2001:db8::5', '2001:db8::/32') + isInNetEx('10.1.2.3', '2001:db8::/32');")) (gives (codes "truefalse")) ∷
    -- it is Saturday, 28 November 2026, at noon
    row 1000 (doing (codes "return '' + weekdayRange('SAT') + dateRange(28, 'NOV') + timeRange(13);")) (gives (codes "truetruefalse")) ∷
    -- the ranges count each argument, and take it as it is
    row 1000 (doing (codes "return '' + weekdayRange('SAT', 'SUN', 'SUN') + weekdayRange({toString: function () { throw 'no'; }});")) (gives (codes "falsefalse")) ∷
    []

pub answers-hold : AreRight answers
unfolding piece_at tokens_from text_from row_of expect name any_word semicolon a_parameter parameters a_statement a_part expression in_parentheses an_argument arguments item_value an_item named_property a_property function_from function_expression new_arguments new_expression primary a_suffix suffixed postfix unary an_operand chain level conditional assignment evaluated block_from block first_value a_declared var_statement one_branch a_branch otherwise if_statement do_statement while_statement optional_expression for_from for_in_from for_var for_value for_statement return_statement throw_statement clause_from a_case clauses switch_statement catch_part finally_part try_statement function_statement statement deeper script_within expression_numbered optional_numbered expressions_numbered items_numbered properties_numbered suffix_numbered suffixes_numbered operands_numbered function_numbered statement_numbered otherwise_numbered statements_numbered declarations_numbered branches_numbered start_numbered target_numbered clauses_numbered handler_numbered rest_of_run filled_objects built_in_objects expression_node statement_node call_node construct_node load_node evaluation digits followed_by natives native_row native_of
answers-hold = refl

-- ---- natives

abbrev as_natives : List Row
as_natives =
    -- arguments become texts from left to right; a surplus one doesn't
    row 1000 (doing (codes "var s = ''; function t(x) { return {toString: function () { s += x; return x; }}; } dnsDomainIs(t('a'), t('b'), t('c')); return s;")) (gives (codes "ab")) ∷
    -- an argument without a primitive value
    row 1000 (doing (codes "try { alert({toString: 1, valueOf: 1}); } catch (e) { return e.message; }")) (gives (codes "not an object")) ∷
    -- a function of the script stands in the place of one, and so may any value
    row 1000 (codes "function isPlainHostName() { return 'mine'; } function FindProxyForURL() { return isPlainHostName(); }") (gives (codes "mine")) ∷
    -- one may be the function of the script
    row 1000 (codes "var FindProxyForURL = myIpAddress;") (gives (codes "127.0.0.1")) ∷
    -- the function of the longer name is called where there is one
    row 1000 (codes "function FindProxyForURL() { return 'a'; } function FindProxyForURLEx() { return 'b'; }") (gives (codes "b")) ∷
    row 1000 (codes "function FindProxyForURL() { return 'a'; } var FindProxyForURLEx = 1;") (gives (codes "a")) ∷
    -- none constructs
    row 1000 (doing (codes "new dnsResolve(h);")) (fails_with code.Unsupported (at 1 34) (codes "dnsResolve")) ∷
    row 1000 (doing (codes "return typeof alert;")) (gives (codes "function")) ∷
    []

pub as_natives-hold : AreRight as_natives
unfolding piece_at tokens_from text_from row_of expect name any_word semicolon a_parameter parameters a_statement a_part expression in_parentheses an_argument arguments item_value an_item named_property a_property function_from function_expression new_arguments new_expression primary a_suffix suffixed postfix unary an_operand chain level conditional assignment evaluated block_from block first_value a_declared var_statement one_branch a_branch otherwise if_statement do_statement while_statement optional_expression for_from for_in_from for_var for_value for_statement return_statement throw_statement clause_from a_case clauses switch_statement catch_part finally_part try_statement function_statement statement deeper script_within expression_numbered optional_numbered expressions_numbered items_numbered properties_numbered suffix_numbered suffixes_numbered operands_numbered function_numbered statement_numbered otherwise_numbered statements_numbered declarations_numbered branches_numbered start_numbered target_numbered clauses_numbered handler_numbered rest_of_run filled_objects built_in_objects expression_node statement_node call_node construct_node load_node evaluation digits followed_by natives native_row native_of
as_natives-hold = refl

-- ---- what they cost

abbrev costs : List Row
costs =
    -- the walk is the units of both texts: seventeen units in all
    row 17 (doing (codes "return dnsDomainIs('abc', 'bc') ? 'y' : 'n';")) (gives (codes "y")) ∷
    -- the last of them is that of the text that is returned
    row 16 (doing (codes "return dnsDomainIs('abc', 'bc') ? 'y' : 'n';")) (fails code.FuelSpent (at 1 68)) ∷
    -- a walk that costs more than is left has the place of the call
    row 15 (doing (codes "return dnsDomainIs('abc', 'bc') ? 'y' : 'n';")) (fails code.FuelSpent (at 1 52)) ∷
    -- a walk of three places beside two: eighteen units in all
    row 18 (doing (codes "return shExpMatch('ab', '*') ? 'y' : 'n';")) (gives (codes "y")) ∷
    row 16 (doing (codes "return shExpMatch('ab', '*') ? 'y' : 'n';")) (fails code.FuelSpent (at 1 51)) ∷
    -- the walk comes behind the conversions: a method of the second argument throws before it
    row 1000 (doing (codes "try { dnsDomainIs('abc', {toString: function () { throw 'no'; }}); } catch (e) { return e; }")) (gives (codes "no")) ∷
    -- a range costs its entry alone: eleven units in all
    row 11 (doing (codes "return weekdayRange('SAT') ? 'y' : 'n';")) (gives (codes "y")) ∷
    row 10 (doing (codes "return weekdayRange('SAT') ? 'y' : 'n';")) (fails code.FuelSpent (at 1 63)) ∷
    []

pub costs-hold : AreRight costs
unfolding piece_at tokens_from text_from row_of expect name any_word semicolon a_parameter parameters a_statement a_part expression in_parentheses an_argument arguments item_value an_item named_property a_property function_from function_expression new_arguments new_expression primary a_suffix suffixed postfix unary an_operand chain level conditional assignment evaluated block_from block first_value a_declared var_statement one_branch a_branch otherwise if_statement do_statement while_statement optional_expression for_from for_in_from for_var for_value for_statement return_statement throw_statement clause_from a_case clauses switch_statement catch_part finally_part try_statement function_statement statement deeper script_within expression_numbered optional_numbered expressions_numbered items_numbered properties_numbered suffix_numbered suffixes_numbered operands_numbered function_numbered statement_numbered otherwise_numbered statements_numbered declarations_numbered branches_numbered start_numbered target_numbered clauses_numbered handler_numbered rest_of_run filled_objects built_in_objects expression_node statement_node call_node construct_node load_node evaluation digits followed_by natives native_row native_of
costs-hold = refl

-- ---- alerts

-- those of a run are kept, in their order, each as a text, also where it fails behind them
pub alerts_are_kept :
    (outcome_with 1000 (doing (codes "alert('a'); alert(5); alert(); alert.x.y;")) >>= (λ outcome. Ok outcome.alerts))
    ≡ Ok (codes "a" ∷ codes "5" ∷ codes "undefined" ∷ [])
unfolding piece_at tokens_from text_from row_of expect name any_word semicolon a_parameter parameters a_statement a_part expression in_parentheses an_argument arguments item_value an_item named_property a_property function_from function_expression new_arguments new_expression primary a_suffix suffixed postfix unary an_operand chain level conditional assignment evaluated block_from block first_value a_declared var_statement one_branch a_branch otherwise if_statement do_statement while_statement optional_expression for_from for_in_from for_var for_value for_statement return_statement throw_statement clause_from a_case clauses switch_statement catch_part finally_part try_statement function_statement statement deeper script_within expression_numbered optional_numbered expressions_numbered items_numbered properties_numbered suffix_numbered suffixes_numbered operands_numbered function_numbered statement_numbered otherwise_numbered statements_numbered declarations_numbered branches_numbered start_numbered target_numbered clauses_numbered handler_numbered rest_of_run filled_objects built_in_objects expression_node statement_node call_node construct_node load_node evaluation digits followed_by natives native_row native_of
alerts_are_kept = refl
