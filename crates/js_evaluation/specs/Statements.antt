-- What statements do (ECMA-262 5.1, section 12). Each rule is what comes behind the charge for its node. A statement
-- has no value that a script can see, so each ends with undefined.
use Rattle.std.specs.Prelude.{ℕ, zero, suc, List, [], ◌∷◌, length, map, Bool, true, false, if◌then◌else◌}
use Rattle.std.specs.Fmt.{decimal}
use Rattle.std.specs.List.{range_with_len}
use Rattle.js_tree.specs.declared.place.Place.{Place}
use Rattle.js_tree.specs.declared.bound.BoundName.{BoundName}
use Rattle.js_binding.specs.Scopes.{named}
use Rattle.js_tree.specs.Tree.{ExpressionTree, OptionalExpression, absent, present, StatementTree, Block, Empty, Evaluate, Debugger, Var, If, DoWhile, While, For, ForIn, Continue, Break, Return, Throw, Switch, Try, Declare, DeclareNumbered, OptionalStatement, omitted, given, Statements, no_statement, a_statement, Declarations, no_declared, a_declared, Branches, no_branch, a_branch, StartTree, no_start, start_var, start_value, TargetTree, target_value, target_declared, Clauses, no_clause, a_clause, CatchTree, no_catch, a_catch, FunctionTree}
use Rattle.heap_values.specs.declared.found.Found.{Found}
use Rattle.heap_values.specs.declared.found.Found.TheVariants as found
use Rattle.heap_values.specs.declared.value.Value.{Value}
use Rattle.heap_values.specs.declared.value.Value.TheVariants as value
use Rattle.object_heap.specs.Heap.{found_of, keys_of}
use Rattle.js_convert.specs.Numeric.{truth_of}
use Rattle.js_convert.specs.Operators.{strictly_equal}
use Rattle.run_trees.specs.declared.abrupt.Abrupt.TheVariants as ending
use Rattle.run_trees.specs.Runs.{After, pure, abrupt, reading, ◌>>=◌, ◌>>◌, caught, last_then, turning, breaking}
use Rattle.js_evaluation.specs.declared.fault.FaultCode.TheVariants as code
use Rattle.js_evaluation.specs.declared.thrown.Thrown.{Thrown}
use Rattle.js_evaluation.specs.State.{RunState, RunEnd, Stop, Does, fault, charge, write_slot, spend, throw}
use Rattle.js_evaluation.specs.Objects.{Context}
use Rattle.js_evaluation.specs.Scoping.{Scoping}
use Rattle.js_evaluation.specs.Parts.{Within, visit, refer, execute}
use Rattle.js_evaluation.specs.Expressions.{write}

abbrev pub nothing : Does Value
nothing = pure value.Undefined

-- without labels a break is to the innermost loop or switch, and a continue to the innermost loop
abbrev pub is_here : Unit {0} → Bool
is_here target = true

-- ---- what visits no part

-- Each turn costs a unit at least, so a loop has no more turns than there is fuel, and one more in which it runs out:
-- the turn behind that is never begun.
abbrev pub as_fuel_allows : (ℕ → Does Value) → Does Value
as_fuel_allows turns = reading (λ s. turns (suc s.fuel))

-- whether a name is still there; the indexes of a text are
abbrev pub is_found : Found → Bool
is_found found.Absent = false
is_found f = true

abbrev pub is_listed : Value → List ℕ → Does Bool
is_listed (value.Object id) name = reading (λ s. pure (is_found (found_of s.heap id name)))
is_listed v name = pure true

-- the names that are listed: an object's, and the indexes of a text
abbrev pub listed_names : Value → Does (List (List ℕ))
listed_names (value.Object id) = reading (λ s. pure (keys_of s.heap id))
listed_names (value.Text t) = pure (map decimal (range_with_len 0 (length t)))
listed_names v = pure []

-- each name of the list costs a unit, and is a text that is made
abbrev pub charged_names : Place → List (List ℕ) → Does (Unit {0})
charged_names p [] = pure tt
charged_names p (name ∷ names) = charge p >> spend name p >> charged_names p names

-- scoping: how the run has its scopes; functions: those of the script; go: what evaluation makes of the parts within
module _ (scoping : Scoping) (functions : List FunctionTree) (go : Within) where
  -- ---- blocks and variables (12.1, 12.2)

  abbrev pub statements_from : Context → Statements → Does Value
  statements_from cx no_statement = nothing
  statements_from cx (a_statement s ss) = execute go cx s >> statements_from cx ss

  -- a variable with its first value; without one nothing is done
  abbrev pub declared : Context → Place → BoundName → OptionalExpression → Does (Unit {0})
  declared cx p x absent = pure tt
  declared cx p x (present e) = visit go cx e >>= (λ v. scoping.write_name cx x v p)

  abbrev pub variables_from : Context → Place → Declarations → Does Value
  variables_from cx p no_declared = nothing
  variables_from cx p (a_declared x o ds) = declared cx p x o >> variables_from cx p ds

  -- ---- `if` (12.5)

  abbrev pub otherwise : Context → OptionalStatement → Does Value
  otherwise cx omitted = nothing
  otherwise cx (given s) = execute go cx s

  abbrev pub branches_from : Context → Branches → OptionalStatement → Does Value
  branches_from cx no_branch last = otherwise cx last
  branches_from cx (a_branch c s bs) last = visit go cx c >>= (λ v. if truth_of v then execute go cx s else branches_from cx bs last)

  -- ---- loops (12.6)

  abbrev pub while_turns : Context → ℕ → Place → ExpressionTree → StatementTree → Does Value
  while_turns cx zero p c body = fault code.FuelSpent p
  while_turns cx (suc n) p c body =
      visit go cx c >>= (λ v. if truth_of v then turning value.Undefined is_here (execute go cx body) (while_turns cx n p c body) else nothing)

  abbrev pub do_turns : Context → ℕ → Place → StatementTree → ExpressionTree → Does Value
  do_turns cx zero p body c = fault code.FuelSpent p
  do_turns cx (suc n) p body c =
      turning value.Undefined is_here (execute go cx body) (visit go cx c >>= (λ v. if truth_of v then do_turns cx n p body c else nothing))

  abbrev pub started : Context → StartTree → Does Value
  started cx no_start = nothing
  started cx (start_var p ds) = execute go cx (Var p ds)
  started cx (start_value e) = visit go cx e

  -- a condition that is left out holds
  abbrev pub holds : Context → OptionalExpression → Does Value
  holds cx absent = pure (value.Bool true)
  holds cx (present e) = visit go cx e

  abbrev pub evaluated_if : Context → OptionalExpression → Does Value
  evaluated_if cx absent = nothing
  evaluated_if cx (present e) = visit go cx e

  abbrev pub for_turns : Context → ℕ → Place → OptionalExpression → OptionalExpression → StatementTree → Does Value
  for_turns cx zero p c step body = fault code.FuelSpent p
  for_turns cx (suc n) p c step body =
      holds cx c >>= (λ v. if truth_of v then turning value.Undefined is_here (execute go cx body) (evaluated_if cx step >> for_turns cx n p c step body) else nothing)

  abbrev pub for_loop : Context → Place → StartTree → OptionalExpression → OptionalExpression → StatementTree → Does Value
  for_loop cx p start c step body = started cx start >> as_fuel_allows (λ n. for_turns cx n p c step body)

  -- ---- `for`-`in` (12.6.4)

  -- writes a name of the list to the target
  abbrev pub named_by : Context → Place → TargetTree → List ℕ → Does (Unit {0})
  named_by cx p (target_value e) name = refer go cx e >>= (λ r. write scoping cx r (value.Text name) p)
  named_by cx p (target_declared x o) name = scoping.write_name cx x (value.Text name) p

  abbrev pub names_from : Context → Place → TargetTree → StatementTree → Value → List (List ℕ) → Does Value
  names_from cx p target body object [] = nothing
  names_from cx p target body object (name ∷ names) = is_listed object name >>= (λ there.
      if there then named_by cx p target name >> turning value.Undefined is_here (execute go cx body) (names_from cx p target body object names)
      else names_from cx p target body object names)

  -- the first value of a declared name
  abbrev pub first_of : Context → Place → TargetTree → Does (Unit {0})
  first_of cx p (target_value e) = pure tt
  first_of cx p (target_declared x o) = declared cx p x o

  abbrev pub for_in_loop : Context → Place → TargetTree → ExpressionTree → StatementTree → Does Value
  for_in_loop cx p target e body = first_of cx p target >> visit go cx e >>= (λ object. listed_names object >>= (λ names.
      charged_names p names >> names_from cx p target body object names))

  -- ---- `return` and `throw` (12.9, 12.13)

  abbrev pub returned : Context → OptionalExpression → Does Value
  returned cx absent = abrupt (ending.Returned value.Undefined)
  returned cx (present e) = visit go cx e >>= (λ v. abrupt (ending.Returned v))

  -- ---- `switch` (12.11)

  -- the statements of these clauses, one clause after the other
  abbrev pub clauses_from : Context → Clauses → Does Value
  clauses_from cx no_clause = nothing
  clauses_from cx (a_clause test ss rest) = statements_from cx ss >> clauses_from cx rest

  -- from the clause without a test on, where there is one
  abbrev pub from_default : Context → Clauses → Does Value
  from_default cx no_clause = nothing
  from_default cx (a_clause absent ss rest) = clauses_from cx (a_clause absent ss rest)
  from_default cx (a_clause (present e) ss rest) = from_default cx rest

  -- from the first clause on whose test is the value; all: where there is none, the clauses from the default on
  abbrev pub from_match : Context → Value → Clauses → Clauses → Does Value
  from_match cx v all no_clause = from_default cx all
  from_match cx v all (a_clause absent ss rest) = from_match cx v all rest
  from_match cx v all (a_clause (present e) ss rest) =
      visit go cx e >>= (λ w. if strictly_equal v w then statements_from cx ss >> clauses_from cx rest else from_match cx v all rest)

  abbrev pub switched : Context → ExpressionTree → Clauses → Does Value
  switched cx e cs = visit go cx e >>= (λ v. breaking value.Undefined is_here (from_match cx v cs cs))

  -- ---- `try` (12.14)

  -- a handler has a scope of one name, in which what was thrown stands first
  abbrev pub handled : Context → Place → BoundName → StatementTree → Thrown → Does Value
  handled cx p x block thrown = do
    scope ← scoping.make_scope (named (x.name ∷ [])) cx.scope p
    _named ← write_slot scope 0 thrown.value
    execute go (record { scope = scope; this = cx.this }) block

  -- what comes after a block that has a handler, and after both where there is a last block
  abbrev pub after_block : Context → Place → CatchTree → After RunState Stop RunEnd Value → After RunState Stop RunEnd Value
  after_block cx p no_catch after = after
  after_block cx p (a_catch x block) after = caught (handled cx p x block) after

  abbrev pub after_last : Context → OptionalStatement → After RunState Stop RunEnd Value → After RunState Stop RunEnd Value
  after_last cx omitted after = after
  after_last cx (given last) after = last_then (execute go cx last) after

  abbrev pub tried : Context → Place → StatementTree → CatchTree → OptionalStatement → Does Value
  tried cx p block handler last = λ after. execute go cx block (after_block cx p handler (after_last cx last after))

  -- ---- all of them

  unfoldable pub statement_node : Context → StatementTree → Does Value
  statement_node cx (Block p ss) = statements_from cx ss
  statement_node cx (Empty p) = nothing
  statement_node cx (Evaluate p e) = visit go cx e >> nothing
  statement_node cx (Debugger p) = nothing
  statement_node cx (Var p ds) = variables_from cx p ds
  statement_node cx (If p bs last) = branches_from cx bs last
  statement_node cx (DoWhile p s c) = as_fuel_allows (λ n. do_turns cx n p s c)
  statement_node cx (While p c s) = as_fuel_allows (λ n. while_turns cx n p c s)
  statement_node cx (For p start c step s) = for_loop cx p start c step s
  statement_node cx (ForIn p target e s) = for_in_loop cx p target e s
  statement_node cx (Continue p) = abrupt (ending.Continued tt)
  statement_node cx (Break p) = abrupt (ending.Broken tt)
  statement_node cx (Return p o) = returned cx o
  statement_node cx (Throw p e) = visit go cx e >>= (λ v. throw v p)
  statement_node cx (Switch p e cs) = switched cx e cs
  statement_node cx (Try p block handler last) = tried cx p block handler last
  statement_node cx (Declare p x f) = nothing
  statement_node cx (DeclareNumbered p x n) = nothing
