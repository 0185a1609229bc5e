-- Worked examples of evaluation, from the text of a script to how its run ends, each by computation alone.
use Rattle.std.specs.Prelude.{◌≡◌, ℕ, pos, List, [], ◌∷◌, ◌++◌, map, codes, Result, Ok, refl}
use Rattle.std.specs.FinMap as finite
use Rattle.std.specs.Fmt.{digits}
use Rattle.js_tree.specs.declared.place.Place.{Place}
use Rattle.js_grammar.specs.Reading.{Refusal, ◌>>=◌}
use Rattle.js_grammar.specs.Statements.{script_of_text}
use Rattle.js_host.specs.Answers.{AnswerMap}
use Rattle.js_evaluation.specs.declared.fault.FaultCode.{FaultCode}
use Rattle.js_evaluation.specs.declared.fault.FaultCode.TheVariants as code
use Rattle.js_evaluation.specs.Expressions.{expression_node}
use Rattle.js_evaluation.specs.Statements.{statement_node}
use Rattle.js_evaluation.specs.Entries.{call_node, construct_node, load_node}
use Rattle.js_evaluation.specs.Evaluation.{Outcome, Entry, Ending, Gives, Fails, outcome_of, run_by_names, evaluation}
use Rattle.js_grammar.specs.Tokens.{piece_at, tokens_from}
use Rattle.js_grammar.specs.Literals.{text_from}
use Rattle.js_grammar.specs.Readers.{row_of, expect, name, any_word, semicolon, a_parameter, parameters}
use Rattle.js_grammar.specs.Expressions.{a_statement, a_part, expression, in_parentheses, an_argument, arguments, item_value, an_item, named_property, a_property, function_from, function_expression, new_arguments, new_expression, primary, a_suffix, suffixed, postfix, unary, an_operand, chain, level, conditional, assignment}
use Rattle.js_grammar.specs.Statements.{evaluated, block_from, block, first_value, a_declared, var_statement, one_branch, a_branch, otherwise, if_statement, do_statement, while_statement, optional_expression, for_from, for_in_from, for_var, for_value, for_statement, return_statement, throw_statement, clause_from, a_case, clauses, switch_statement, catch_part, finally_part, try_statement, function_statement, statement, deeper, script_within}
use Rattle.js_binding.specs.Numbered.{expression_numbered, optional_numbered, expressions_numbered, items_numbered, properties_numbered, suffix_numbered, suffixes_numbered, operands_numbered, function_numbered, statement_numbered, otherwise_numbered, statements_numbered, declarations_numbered, branches_numbered, start_numbered, target_numbered, clauses_numbered, handler_numbered}
use Rattle.pac_calendar.specs.declared.moment.Civil.{Civil}
use Rattle.run_trees.specs.WholeRun.{rest_of_run}
use Rattle.object_heap.specs.Fresh.{filled_objects, built_in_objects}
use Rattle.js_evaluation.specs.NativeTable.{natives, native_row, native_of}

abbrev nothing : AnswerMap
nothing = finite.empty

-- Saturday, 28 November 2026, at noon
abbrev noon : Civil
noon = record { year = pos 2026; month = 11; day = 28; weekday = 6; hour = 12; minute = 0; second = 0 }

-- the outcome of the run of a script with so much fuel, for the URL http://a/ and its host, at noon in GMT and in the
-- zone, on the machine with the address 127.0.0.1, where no name has an address
abbrev pub outcome_with : ℕ → List ℕ → Result Outcome Refusal
outcome_with fuel us = script_of_text us >>= λ script.
    let entry : Entry = record {
      url = codes "http://a/";
      host = codes "a";
      now = record { gmt = noon; local = noon };
      settings = record { my_ip = 2130706433 };
      fuel = fuel;
    } in
    Ok (outcome_of (run_by_names script entry) nothing)

-- how that run ends
abbrev pub run_of : ℕ → List ℕ → Result Ending Refusal
run_of fuel us = outcome_with fuel us >>= λ outcome. Ok outcome.ending

abbrev pub at : ℕ → ℕ → Place
at line column = record { line = line; column = column }

-- a script whose function does this
abbrev pub doing : List ℕ → List ℕ
doing body = codes "function FindProxyForURL(u, h) { " ++ (body ++ codes " }")

abbrev pub gives : List ℕ → Result Ending Refusal
gives t = Ok (Gives t)

abbrev pub fails : FaultCode → Place → Result Ending Refusal
fails c place = Ok (Fails (record { code = c; place = place; detail = [] }))

-- with a detail
abbrev pub fails_with : FaultCode → Place → List ℕ → Result Ending Refusal
fails_with c place detail = Ok (Fails (record { code = c; place = place; detail = detail }))

-- how the run of a script ends with so much fuel
pub record Row : Type 0 where
  pub fuel : ℕ
  pub script : List ℕ
  pub ends : Result Ending Refusal

abbrev pub row : ℕ → List ℕ → Result Ending Refusal → Row
row fuel script ends = record { fuel = fuel; script = script; ends = ends }

abbrev pub AreRight : List Row → Type 0
AreRight rows = map (λ r. run_of r.fuel r.script) rows ≡ map (λ r. r.ends) rows

-- ---- the ends of a run

abbrev ends_of_runs : List Row
ends_of_runs =
    -- no function (14)
    row 100 [] (fails code.NoEntry (at 0 0)) ∷
    -- the host comes back
    row 1000 (doing (codes "return h;")) (gives (codes "a")) ∷
    -- a semicolon stands behind `return` at a line's end, so nothing is returned (7.9)
    row 1000 (doing (codes "return;")) (fails code.NotAString (at 0 0)) ∷
    -- a throw that nothing handles, with its place and text (12.13)
    row 1000 (doing (codes "throw " ++ 34 ∷ [] ++ codes "no" ++ 34 ∷ [] ++ codes ";")) (fails_with code.Uncaught (at 1 34) (codes "no")) ∷
    -- an error of the engine has its name and message (15.11)
    row 1000 (doing (codes "null.x;")) (fails_with code.Uncaught (at 1 38) (codes "TypeError: not an object")) ∷
    -- a name that stands for nothing (10.2.1.2)
    row 1000 (doing (codes "x;")) (fails_with code.Uncaught (at 1 34) (codes "ReferenceError: x is not defined")) ∷
    -- a property that is left out
    row 1000 (doing (codes "return Math.sqrt(4);")) (fails_with code.Unsupported (at 1 45) (codes "Math.sqrt")) ∷
    []

pub ends_of_runs-hold : AreRight ends_of_runs
unfolding piece_at tokens_from text_from row_of expect name any_word semicolon a_parameter parameters a_statement a_part expression in_parentheses an_argument arguments item_value an_item named_property a_property function_from function_expression new_arguments new_expression primary a_suffix suffixed postfix unary an_operand chain level conditional assignment evaluated block_from block first_value a_declared var_statement one_branch a_branch otherwise if_statement do_statement while_statement optional_expression for_from for_in_from for_var for_value for_statement return_statement throw_statement clause_from a_case clauses switch_statement catch_part finally_part try_statement function_statement statement deeper script_within expression_numbered optional_numbered expressions_numbered items_numbered properties_numbered suffix_numbered suffixes_numbered operands_numbered function_numbered statement_numbered otherwise_numbered statements_numbered declarations_numbered branches_numbered start_numbered target_numbered clauses_numbered handler_numbered rest_of_run filled_objects built_in_objects expression_node statement_node call_node construct_node load_node evaluation digits natives native_row native_of
ends_of_runs-hold = refl

-- ---- what it costs

abbrev first_costs : List Row
first_costs =
    -- the load, the declaration, the entry, the statement and the text: five units
    -- five units are enough
    row 5 (doing (codes "return " ++ 34 ∷ [] ++ codes "x" ++ 34 ∷ [] ++ codes ";")) (gives (codes "x")) ∷
    -- with four the text is not reached
    row 4 (doing (codes "return " ++ 34 ∷ [] ++ codes "x" ++ 34 ∷ [] ++ codes ";")) (fails code.FuelSpent (at 1 41)) ∷
    -- a loop without an end spends the fuel
    row 20 (doing (codes "while (true);")) (fails code.FuelSpent (at 1 41)) ∷
    []

pub first_costs-hold : AreRight first_costs
unfolding piece_at tokens_from text_from row_of expect name any_word semicolon a_parameter parameters a_statement a_part expression in_parentheses an_argument arguments item_value an_item named_property a_property function_from function_expression new_arguments new_expression primary a_suffix suffixed postfix unary an_operand chain level conditional assignment evaluated block_from block first_value a_declared var_statement one_branch a_branch otherwise if_statement do_statement while_statement optional_expression for_from for_in_from for_var for_value for_statement return_statement throw_statement clause_from a_case clauses switch_statement catch_part finally_part try_statement function_statement statement deeper script_within expression_numbered optional_numbered expressions_numbered items_numbered properties_numbered suffix_numbered suffixes_numbered operands_numbered function_numbered statement_numbered otherwise_numbered statements_numbered declarations_numbered branches_numbered start_numbered target_numbered clauses_numbered handler_numbered rest_of_run filled_objects built_in_objects expression_node statement_node call_node construct_node load_node evaluation digits natives native_row native_of
first_costs-hold = refl

-- ---- operators (11)

abbrev operators : List Row
operators =
    -- a quotient that isn't whole
    row 1000 (doing (codes "return " ++ 34 ∷ [] ++ 34 ∷ [] ++ codes " + (7 / 2);")) (fails code.Fraction (at 1 49)) ∷
    -- a word is no number
    row 1000 (doing (codes "return " ++ 34 ∷ [] ++ 34 ∷ [] ++ codes " + (" ++ 34 ∷ [] ++ codes "a" ++ 34 ∷ [] ++ codes " * 1);")) (fails code.NotANumber (at 1 51)) ∷
    -- past the largest number
    row 1000 (doing (codes "return " ++ 34 ∷ [] ++ 34 ∷ [] ++ codes " + (9007199254740991 + 1);")) (fails code.NumberRange (at 1 64)) ∷
    -- a remainder by 0
    row 1000 (doing (codes "return " ++ 34 ∷ [] ++ 34 ∷ [] ++ codes " + (1 % 0);")) (fails code.DivisionByZero (at 1 49)) ∷
    -- a word equals no number
    row 1000 (doing (codes "return " ++ 34 ∷ [] ++ 34 ∷ [] ++ codes " + (" ++ 34 ∷ [] ++ codes "a" ++ 34 ∷ [] ++ codes " == 1);")) (gives (codes "false")) ∷
    -- undefined has no bits
    row 1000 (doing (codes "return " ++ 34 ∷ [] ++ 34 ∷ [] ++ codes " + (undefined & 255);")) (gives (codes "0")) ∷
    -- a remainder has the dividend's sign
    row 1000 (doing (codes "return " ++ 34 ∷ [] ++ 34 ∷ [] ++ codes " + (-7 % 3);")) (gives (codes "-1")) ∷
    -- a shift count is modulo 32
    row 1000 (doing (codes "return " ++ 34 ∷ [] ++ 34 ∷ [] ++ codes " + (1 << 33);")) (gives (codes "2")) ∷
    -- a shift without a sign
    row 1000 (doing (codes "return " ++ 34 ∷ [] ++ 34 ∷ [] ++ codes " + (-1 >>> 0);")) (gives (codes "4294967295")) ∷
    -- `~` on 32 bits
    row 1000 (doing (codes "return " ++ 34 ∷ [] ++ 34 ∷ [] ++ codes " + (~5);")) (gives (codes "-6")) ∷
    -- an operand that `||` skips is not evaluated
    row 1000 (doing (codes "return " ++ 34 ∷ [] ++ 34 ∷ [] ++ codes " + (1 || x);")) (gives (codes "1")) ∷
    -- `typeof` of a name that stands for nothing
    row 1000 (doing (codes "return " ++ 34 ∷ [] ++ 34 ∷ [] ++ codes " + (typeof nothing);")) (gives (codes "undefined")) ∷
    -- `void` gives undefined
    row 1000 (doing (codes "return " ++ 34 ∷ [] ++ 34 ∷ [] ++ codes " + (void 1);")) (gives (codes "undefined")) ∷
    -- the branch that `?:` picks
    row 1000 (doing (codes "return " ++ 34 ∷ [] ++ 34 ∷ [] ++ codes " + (0 ? x : 2);")) (gives (codes "2")) ∷
    -- the last of commas
    row 1000 (doing (codes "return " ++ 34 ∷ [] ++ 34 ∷ [] ++ codes " + ((1, 2));")) (gives (codes "2")) ∷
    -- `in` an object
    row 1000 (doing (codes "return " ++ 34 ∷ [] ++ 34 ∷ [] ++ codes " + ('b' in {a: 1, b: 2});")) (gives (codes "true")) ∷
    -- a unit and the length of a text
    row 1000 (doing (codes "return " ++ 34 ∷ [] ++ 34 ∷ [] ++ codes " + ('abc'[1] + 'abc'.length);")) (gives (codes "b3")) ∷
    []

pub operators-hold : AreRight operators
unfolding piece_at tokens_from text_from row_of expect name any_word semicolon a_parameter parameters a_statement a_part expression in_parentheses an_argument arguments item_value an_item named_property a_property function_from function_expression new_arguments new_expression primary a_suffix suffixed postfix unary an_operand chain level conditional assignment evaluated block_from block first_value a_declared var_statement one_branch a_branch otherwise if_statement do_statement while_statement optional_expression for_from for_in_from for_var for_value for_statement return_statement throw_statement clause_from a_case clauses switch_statement catch_part finally_part try_statement function_statement statement deeper script_within expression_numbered optional_numbered expressions_numbered items_numbered properties_numbered suffix_numbered suffixes_numbered operands_numbered function_numbered statement_numbered otherwise_numbered statements_numbered declarations_numbered branches_numbered start_numbered target_numbered clauses_numbered handler_numbered rest_of_run filled_objects built_in_objects expression_node statement_node call_node construct_node load_node evaluation digits natives native_row native_of
operators-hold = refl

-- ---- names, assignments and calls (10, 11.2, 11.13, 13)

abbrev names_and_calls : List Row
names_and_calls =
    -- the target is evaluated before the value
    row 1000 (doing (codes "var s = ''; function f(x) { s += x; return {}; } f('a')[0] = f('b'); return s;")) (gives (codes "ab")) ∷
    -- `+=` reads its target first
    row 1000 (doing (codes "var i = 1; i += i++ + i; return '' + i;")) (gives (codes "4")) ∷
    -- `++` before and behind
    row 1000 (doing (codes "var i = 1; return " ++ 34 ∷ [] ++ 34 ∷ [] ++ codes " + i++ + ++i;")) (gives (codes "13")) ∷
    -- a function is there before its declaration
    row 1000 (doing (codes "return f(); function f() { return " ++ 34 ∷ [] ++ codes "f" ++ 34 ∷ [] ++ codes "; }")) (gives (codes "f")) ∷
    -- a closure keeps its scope
    row 1000 (doing (codes "function c() { var n = 0; return function () { return ++n; }; } var f = c(); f(); return " ++ 34 ∷ [] ++ 34 ∷ [] ++ codes " + f();")) (gives (codes "2")) ∷
    -- the own name of a function expression is its own scope
    row 1000 (doing (codes "var f = function g() { g = 1; return typeof g; }; return f();")) (gives (codes "function")) ∷
    -- the object of the arguments
    row 1000 (doing (codes "function f(a) { a = 2; return " ++ 34 ∷ [] ++ 34 ∷ [] ++ codes " + arguments[0] + arguments.length; } return f(1);")) (gives (codes "11")) ∷
    -- a method has its object as `this`
    row 1000 (doing (codes "var o = {n: " ++ 34 ∷ [] ++ codes "o" ++ 34 ∷ [] ++ codes ", f: function () { return this.n; }}; return (o.f)();")) (gives (codes "o")) ∷
    -- a plain call has the global object as `this`
    row 1000 (doing (codes "function f() { return this.t; } t = " ++ 34 ∷ [] ++ codes "g" ++ 34 ∷ [] ++ codes "; return f();")) (gives (codes "g")) ∷
    -- an object that is constructed has its function's prototype
    row 1000 (doing (codes "function P() { this.x = 1; } P.prototype.y = 2; var p = new P(); return " ++ 34 ∷ [] ++ 34 ∷ [] ++ codes " + p.x + p.y + (p instanceof P);")) (gives (codes "12true")) ∷
    -- of two parameters of one name the later one counts
    row 1000 (doing (codes "function f(a, a) { return a; } return f(" ++ 34 ∷ [] ++ codes "1" ++ 34 ∷ [] ++ codes ", " ++ 34 ∷ [] ++ codes "2" ++ 34 ∷ [] ++ codes ");")) (gives (codes "2")) ∷
    -- a property is deleted, a variable isn't
    row 1000 (doing (codes "var o = {a: 1}; return " ++ 34 ∷ [] ++ 34 ∷ [] ++ codes " + delete o.a + delete o + typeof o.a;")) (gives (codes "truefalseundefined")) ∷
    -- holes count in the length
    row 1000 (doing (codes "var a = [, 1, ,]; a[4] = 0; return " ++ 34 ∷ [] ++ 34 ∷ [] ++ codes " + a.length;")) (gives (codes "5")) ∷
    []

pub names_and_calls-hold : AreRight names_and_calls
unfolding piece_at tokens_from text_from row_of expect name any_word semicolon a_parameter parameters a_statement a_part expression in_parentheses an_argument arguments item_value an_item named_property a_property function_from function_expression new_arguments new_expression primary a_suffix suffixed postfix unary an_operand chain level conditional assignment evaluated block_from block first_value a_declared var_statement one_branch a_branch otherwise if_statement do_statement while_statement optional_expression for_from for_in_from for_var for_value for_statement return_statement throw_statement clause_from a_case clauses switch_statement catch_part finally_part try_statement function_statement statement deeper script_within expression_numbered optional_numbered expressions_numbered items_numbered properties_numbered suffix_numbered suffixes_numbered operands_numbered function_numbered statement_numbered otherwise_numbered statements_numbered declarations_numbered branches_numbered start_numbered target_numbered clauses_numbered handler_numbered rest_of_run filled_objects built_in_objects expression_node statement_node call_node construct_node load_node evaluation digits natives native_row native_of
names_and_calls-hold = refl

-- ---- statements (12)

abbrev statements : List Row
statements =
    -- `continue` and `break`
    row 1000 (doing (codes "var s = " ++ 34 ∷ [] ++ 34 ∷ [] ++ codes "; for (var i = 0; i < 5; i++) { if (i == 1) continue; if (i == 3) break; s += i; } return s;")) (gives (codes "02")) ∷
    -- a `do` loop does its body first
    row 1000 (doing (codes "var n = 0; do n++; while (false); return " ++ 34 ∷ [] ++ 34 ∷ [] ++ codes " + n;")) (gives (codes "1")) ∷
    -- `for`-`in` in the order of creation, indexes first
    row 1000 (doing (codes "var s = ''; for (var k in {b: 1, 2: 1, a: 2, 1: 1}) s += k; return s;")) (gives (codes "12ba")) ∷
    -- a name that was deleted is skipped
    row 1000 (doing (codes "var o = {a: 1, b: 2}, s = ''; for (var k in o) { delete o.b; s += k; } return s;")) (gives (codes "a")) ∷
    -- the indexes of a text
    row 1000 (doing (codes "var s = ''; for (var k in 'xy') s += k; return s;")) (gives (codes "01")) ∷
    -- a `switch` goes on to the next clause
    row 1000 (doing (codes "var s = ''; switch (2) { case 1: s += 1; default: s += 'd'; case 2: s += 2; case 3: s += 3; break; case 4: s += 4; } return s;")) (gives (codes "23")) ∷
    -- the default goes on too
    row 1000 (doing (codes "var s = ''; switch (9) { case 1: s += 1; default: s += 'd'; case 2: s += 2; } return s;")) (gives (codes "d2")) ∷
    -- what the engine throws can be caught
    row 1000 (doing (codes "try { null.x; } catch (e) { return e.name; }")) (gives (codes "TypeError")) ∷
    -- a `return` in `finally` wins
    row 1000 (doing (codes "try { return " ++ 34 ∷ [] ++ codes "a" ++ 34 ∷ [] ++ codes "; } finally { return " ++ 34 ∷ [] ++ codes "b" ++ 34 ∷ [] ++ codes "; }")) (gives (codes "b")) ∷
    -- a `finally` that ends leaves the end as it was
    row 1000 (doing (codes "var o = {x: " ++ 34 ∷ [] ++ codes "a" ++ 34 ∷ [] ++ codes "}; try { return o.x; } finally { o.x = " ++ 34 ∷ [] ++ codes "b" ++ 34 ∷ [] ++ codes "; }")) (gives (codes "a")) ∷
    -- no handler sees a fault
    row 1000 (doing (codes "try { return 1 / 0; } catch (e) { return " ++ 34 ∷ [] ++ codes "c" ++ 34 ∷ [] ++ codes "; } finally { return " ++ 34 ∷ [] ++ codes "f" ++ 34 ∷ [] ++ codes "; }")) (fails code.DivisionByZero (at 1 49)) ∷
    -- the name of a handler is its own
    row 1000 (doing (codes "var e = " ++ 34 ∷ [] ++ codes "v" ++ 34 ∷ [] ++ codes "; try { throw " ++ 34 ∷ [] ++ codes "t" ++ 34 ∷ [] ++ codes "; } catch (e) { e = " ++ 34 ∷ [] ++ codes "c" ++ 34 ∷ [] ++ codes "; } return e;")) (gives (codes "v")) ∷
    []

pub statements-hold : AreRight statements
unfolding piece_at tokens_from text_from row_of expect name any_word semicolon a_parameter parameters a_statement a_part expression in_parentheses an_argument arguments item_value an_item named_property a_property function_from function_expression new_arguments new_expression primary a_suffix suffixed postfix unary an_operand chain level conditional assignment evaluated block_from block first_value a_declared var_statement one_branch a_branch otherwise if_statement do_statement while_statement optional_expression for_from for_in_from for_var for_value for_statement return_statement throw_statement clause_from a_case clauses switch_statement catch_part finally_part try_statement function_statement statement deeper script_within expression_numbered optional_numbered expressions_numbered items_numbered properties_numbered suffix_numbered suffixes_numbered operands_numbered function_numbered statement_numbered otherwise_numbered statements_numbered declarations_numbered branches_numbered start_numbered target_numbered clauses_numbered handler_numbered rest_of_run filled_objects built_in_objects expression_node statement_node call_node construct_node load_node evaluation digits natives native_row native_of
statements-hold = refl
