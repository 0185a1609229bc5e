-- Names one by one: parameters, functions that are declared, and places of names.
use Rattle.std.proofs.Common.{◌≡◌, ℕ, suc, ◌+◌, List, [], ◌∷◌, drop, length, map, Bool, true, false, Option, None, Some, Result, Ok, Err, refl, ap, sym, subst, ◌∙◌, arith}
use Rattle.std.specs.Prelude.{if◌then◌else◌, codes, option_map, pos, slice_get}
use Rattle.std.specs.Borrow.{Bor}
use Rattle.std.specs.Slice.{IsItemAt}
use Rattle.std.proofs.lemmas.Option.{slice_get-map, slice_get_past, slice_get_read}
use Rattle.js_tree.specs.declared.expression.Function.{Function}
use Rattle.js_tree.specs.View.{function_of}
use Rattle.std.specs.Result.{IsErrAnd}
use Rattle.std.specs.Str.{bytes_eq}
use Rattle.js_tree.specs.declared.place.Place.{Place}
use Rattle.js_tree.specs.declared.bound.BoundName.{BoundName}
use Rattle.js_tree.specs.Tree.{FunctionTree, StatementTree, DeclareNumbered, Statements, a_statement, statements_of}
use Rattle.heap_values.specs.declared.ids.ObjectId.{ObjectId}
use Rattle.heap_values.specs.declared.ids.ScopeId.{ScopeId}
use Rattle.heap_values.specs.declared.built_in.BuiltIn.TheVariants as built_in
use Rattle.heap_values.specs.declared.ids.Kind.TheVariants as kind
use Rattle.heap_values.specs.declared.value.Value.{Value}
use Rattle.heap_values.specs.declared.value.Value.TheVariants as value
use Rattle.run_trees.specs.Runs.{pure, ◌>>◌}
use Rattle.heap_values.specs.Views.{HeapView}
use Rattle.heap_steps.specs.declared.halt.Halt.{Halt}
use Rattle.heap_steps.specs.Works.{Works}
use Rattle.heap_steps.proofs.Chains.{chained, stops}
use Rattle.js_evaluation.specs.Scoping.{by_slots}
use Rattle.js_evaluation.specs.BySlots.{write_name}
use Rattle.js_evaluation.specs.State.{Does, built_in_object, define, make}
use Rattle.js_evaluation.specs.Objects.{Context, elements_from}
use Rattle.js_binding.specs.Names.{arguments_name}
use Rattle.js_binding.specs.Scopes.{place_of}
use Rattle.js_evaluation.specs.Entries.{arguments_at, arguments_if, arguments_object, has_own_arguments, parameters_from, functions_from}
use Rattle.js_evaluation.specs.Handed.{argument}
use Rattle.js_entries.specs.Names.{arguments_in, bound, declared_in, function_bound, function_in, place_from}
use Rattle.js_entries.specs.Globals.{declare_variable, function_declared, functions_declared, variables_declared}

-- ---- a part that is two, one after the other

module _ (part first rest : Does (Unit {0})) (same : part ≡ (first >> rest)) (h h' : HeapView) where
  pub first_then : (r : Result (Unit {0}) Halt) (h'' : HeapView) → Works first h (Ok tt) h' → Works rest h' r h'' → Works part h r h''
  first_then r h'' one two = subst (λ (p : Does (Unit {0})). Works p h r h'') (sym same) (chained first (λ _. rest) h h' tt r h'' one two)

  pub first_stops : (r : Result (Unit {0}) Halt) (e : Halt) → IsErrAnd r (λ x. x ≡ e) → Works first h (Err e) h' → Works part h r h'
  first_stops r e i one = subst (λ (p : Does (Unit {0})). Works p h r h') (sym same) (stops first (λ _. rest) h h' r e i one)

-- ---- names

-- a parameter has the first of the arguments that are left
pub parameters_step : (cx : Context) (p : Place) (x : BoundName) (xs : List BoundName) (vs : List Value)
    → parameters_from by_slots cx p (x ∷ xs) vs ≡ (write_name cx x (argument 0 vs) p >> parameters_from by_slots cx p xs (drop 1 vs))
parameters_step cx p x xs [] = refl
parameters_step cx p x xs (v ∷ vs) = refl

module _ (cx : Context) (p : Place) (x : BoundName) (xs : List BoundName) (vs : List Value) (h h' : HeapView) (r : Result (Unit {0}) Halt) where
  pub parameter_then : (h'' : HeapView) → Works (write_name cx x (argument 0 vs) p) h (Ok tt) h' → Works (parameters_from by_slots cx p xs (drop 1 vs)) h' r h''
      → Works (parameters_from by_slots cx p (x ∷ xs) vs) h r h''
  parameter_then h'' one two = first_then _ _ _ (parameters_step cx p x xs vs) h h' r h'' one two

  pub parameter_stops : (e : Halt) → IsErrAnd r (λ y. y ≡ e) → Works (write_name cx x (argument 0 vs) p) h (Err e) h' → Works (parameters_from by_slots cx p (x ∷ xs) vs) h r h'
  parameter_stops e i one = first_stops _ _ _ (parameters_step cx p x xs vs) h h' r e i one

-- a statement that declares a function, and what declares none
pub functions_step : (functions : List FunctionTree) (cx : Context) (p : Place) (s : StatementTree) (ss : Statements)
    → functions_from by_slots functions cx p (a_statement s ss) ≡ (function_bound functions cx p (declared_in s) >> functions_from by_slots functions cx p ss)
functions_step functions cx p (DeclareNumbered q x n) ss = refl
functions_step functions cx p s ss = refl

pub globals_step : (functions : List FunctionTree) (s : StatementTree) (ss : Statements)
    → functions_declared functions (a_statement s ss) ≡ (function_declared functions (declared_in s) >> functions_declared functions ss)
globals_step functions (DeclareNumbered q x n) ss = refl
globals_step functions s ss = refl

module _ (functions : List FunctionTree) (cx : Context) (p : Place) (s : StatementTree) (ss : Statements) (h h' : HeapView) (r : Result (Unit {0}) Halt) where
  pub function_then : (h'' : HeapView) → Works (function_bound functions cx p (declared_in s)) h (Ok tt) h' → Works (functions_from by_slots functions cx p ss) h' r h''
      → Works (functions_from by_slots functions cx p (a_statement s ss)) h r h''
  function_then h'' one two = first_then _ _ _ (functions_step functions cx p s ss) h h' r h'' one two

  pub function_stops : (e : Halt) → IsErrAnd r (λ y. y ≡ e) → Works (function_bound functions cx p (declared_in s)) h (Err e) h'
      → Works (functions_from by_slots functions cx p (a_statement s ss)) h r h'
  function_stops e i one = first_stops _ _ _ (functions_step functions cx p s ss) h h' r e i one

module _ (functions : List FunctionTree) (s : StatementTree) (ss : Statements) (h h' : HeapView) (r : Result (Unit {0}) Halt) where
  pub global_then : (h'' : HeapView) → Works (function_declared functions (declared_in s)) h (Ok tt) h' → Works (functions_declared functions ss) h' r h''
      → Works (functions_declared functions (a_statement s ss)) h r h''
  global_then h'' one two = first_then _ _ _ (globals_step functions s ss) h h' r h'' one two

  pub global_stops : (e : Halt) → IsErrAnd r (λ y. y ≡ e) → Works (function_declared functions (declared_in s)) h (Err e) h'
      → Works (functions_declared functions (a_statement s ss)) h r h'
  global_stops e i one = first_stops _ _ _ (globals_step functions s ss) h h' r e i one

-- a variable of a script
pub variables_step : (name : List ℕ) (names : List (List ℕ))
    → variables_declared (name ∷ names) ≡ (declare_variable name >> variables_declared names)
variables_step name names = refl

module _ (name : List ℕ) (names : List (List ℕ)) (h h' : HeapView) (r : Result (Unit {0}) Halt) where
  pub variable_then : (h'' : HeapView) → Works (declare_variable name) h (Ok tt) h' → Works (variables_declared names) h' r h''
      → Works (variables_declared (name ∷ names)) h r h''
  variable_then h'' one two = first_then _ _ _ (variables_step name names) h h' r h'' one two

  pub variable_stops : (e : Halt) → IsErrAnd r (λ y. y ≡ e) → Works (declare_variable name) h (Err e) h'
      → Works (variables_declared (name ∷ names)) h r h'
  variable_stops e i one = first_stops _ _ _ (variables_step name names) h h' r e i one

-- ---- functions by their numbers

pub function_found : (xs : List Function) (n : ℕ) (r : Option (Bor Function)) → IsItemAt xs n r → function_in r ≡ slice_get (map function_of xs) n
function_found xs n None h = sym (slice_get-map function_of xs n ∙ ap (option_map function_of) (slice_get_past xs n h.3))
function_found xs n (Some f) h = sym (slice_get-map function_of xs n ∙ ap (option_map function_of) (slice_get_read xs (length xs) n f.now refl h.3.0 h.1))

-- ---- the place of a name among others

pub place_whole : (o : Option ℕ) → place_from 0 o ≡ o
place_whole None = refl
place_whole (Some k) = let e : 0 + k ≡ k = omega arith in ap Some e

further : (n : ℕ) (o : Option ℕ) → place_from n (option_map suc o) ≡ place_from (n + 1) o
further n None = refl
further n (Some k) = let e : n + suc k ≡ n + 1 + k = omega arith in ap Some e

pub place_here : (x y : List ℕ) (ys : List (List ℕ)) (n : ℕ) → bytes_eq x y ≡ true → place_from n (place_of x (y ∷ ys)) ≡ Some n
place_here x y ys n e = let same : n + 0 ≡ n = omega arith in
    ap (λ (b : Bool). place_from n (if b then Some 0 else option_map suc (place_of x ys))) e ∙ ap Some same

pub place_further : (x y : List ℕ) (ys : List (List ℕ)) (n : ℕ) → bytes_eq x y ≡ false → place_from n (place_of x (y ∷ ys)) ≡ place_from (n + 1) (place_of x ys)
place_further x y ys n e = ap (λ (b : Bool). place_from n (if b then Some 0 else option_map suc (place_of x ys))) e ∙ further n (place_of x ys)

-- ---- the names of a function

module _ (functions : List FunctionTree) (f : Function) (scope : ScopeId) (this : Value) (vs : List Value) (p : Place) where
  abbrev cx : Context
  cx = record { scope = scope; this = this }

  abbrev parameters_part : Does (Unit {0})
  parameters_part = parameters_from by_slots cx p f.parameters vs

  abbrev functions_part : Does (Unit {0})
  functions_part = functions_from by_slots functions cx p (statements_of f.body)

  abbrev arguments_part : Does (Unit {0})
  arguments_part = arguments_if (has_own_arguments f.parameters (statements_of f.body)) scope p f.names vs

  pub bound_then : (h h' h'' k : HeapView) (r : Result (Unit {0}) Halt)
      → Works (parameters_from by_slots (record { scope = scope; this = this }) p f.parameters vs) h (Ok tt) h'
      → Works (functions_from by_slots functions (record { scope = scope; this = this }) p (statements_of f.body)) h' (Ok tt) h''
      → Works (arguments_if (has_own_arguments f.parameters (statements_of f.body)) scope p f.names vs) h'' r k
      → Works (bound functions f scope this vs p) h r k
  bound_then h h' h'' k r one two three =
      chained (parameters_part >> functions_part) (λ _. arguments_part) h h'' tt r k (chained parameters_part (λ _. functions_part) h h' tt (Ok tt) h'' one two) three

  pub functions_stop : (h h' h'' : HeapView) (r : Result (Unit {0}) Halt) (e : Halt) → IsErrAnd r (λ x. x ≡ e)
      → Works (parameters_from by_slots (record { scope = scope; this = this }) p f.parameters vs) h (Ok tt) h'
      → Works (functions_from by_slots functions (record { scope = scope; this = this }) p (statements_of f.body)) h' (Err e) h''
      → Works (bound functions f scope this vs p) h r h''
  functions_stop h h' h'' r e i one two =
      stops (parameters_part >> functions_part) (λ _. arguments_part) h h'' r e i (chained parameters_part (λ _. functions_part) h h' tt (Err e) h'' one two)

  pub parameters_stop : (h h' : HeapView) (r : Result (Unit {0}) Halt) (e : Halt) → IsErrAnd r (λ x. x ≡ e)
      → Works (parameters_from by_slots (record { scope = scope; this = this }) p f.parameters vs) h (Err e) h'
      → Works (bound functions f scope this vs p) h r h'
  parameters_stop h h' r e i one =
      stops (parameters_part >> functions_part) (λ _. arguments_part) h h' r e i (stops parameters_part (λ _. functions_part) h h' (Err e) e refl one)

-- ---- the object of the arguments

module _ (p : Place) (vs : List Value) (h h' : HeapView) (object : ObjectId)
    (made : Works (make kind.Plain (Some (built_in_object built_in.ObjectPrototype)) p) h (Ok object) h') where
  pub length_stops : (h'' : HeapView) (r : Result Value Halt) (e : Halt) → IsErrAnd r (λ x. x ≡ e)
      → Works (define object (codes "length") (value.Number (pos (length vs))) false true p) h' (Err e) h'' → Works (arguments_object p vs) h r h''
  length_stops h'' r e i one =
      chained _ (λ o. define o (codes "length") (value.Number (pos (length vs))) false true p >> (elements_from p o 0 vs >> pure (value.Object o))) h h' object r h'' made
      (stops _ (λ _. elements_from p object 0 vs >> pure (value.Object object)) h' h'' r e i one)

  module _ (h'' : HeapView) (sized : Works (define object (codes "length") (value.Number (pos (length vs))) false true p) h' (Ok tt) h'') where
    pub elements_stop : (k : HeapView) (r : Result Value Halt) (e : Halt) → IsErrAnd r (λ x. x ≡ e)
        → Works (elements_from p object 0 vs) h'' (Err e) k → Works (arguments_object p vs) h r k
    elements_stop k r e i one =
        chained _ (λ o. define o (codes "length") (value.Number (pos (length vs))) false true p >> (elements_from p o 0 vs >> pure (value.Object o))) h h' object r k made
        (chained _ (λ _. elements_from p object 0 vs >> pure (value.Object object)) h' h'' tt r k sized
        (stops _ (λ _. pure (value.Object object)) h'' k r e i one))

    pub object_made : (k : HeapView) → Works (elements_from p object 0 vs) h'' (Ok tt) k → Works (arguments_object p vs) h (Ok (value.Object object)) k
    object_made k one =
        chained _ (λ o. define o (codes "length") (value.Number (pos (length vs))) false true p >> (elements_from p o 0 vs >> pure (value.Object o))) h h' object (Ok (value.Object object)) k made
        (chained _ (λ _. elements_from p object 0 vs >> pure (value.Object object)) h' h'' tt (Ok (value.Object object)) k sized
        (chained _ (λ _. pure (value.Object object)) h'' k tt (Ok (value.Object object)) k one (record { is = λ after fuel beside. refl })))

arguments_none : (own : Bool) (scope : ScopeId) (p : Place) (names : List (List ℕ)) (vs : List Value) → None ≡ place_of arguments_name names
    → arguments_if own scope p names vs ≡ pure tt
arguments_none true scope p names vs e = refl
arguments_none false scope p names vs e = ap (arguments_at scope p vs) (sym e)

arguments_own : (own : Bool) (scope : ScopeId) (p : Place) (names : List (List ℕ)) (vs : List Value) → own ≡ true
    → arguments_if own scope p names vs ≡ pure tt
arguments_own own scope p names vs e = ap (λ (b : Bool). arguments_if b scope p names vs) e

arguments_some : (own : Bool) (scope : ScopeId) (p : Place) (names : List (List ℕ)) (vs : List Value) (slot : ℕ) → own ≡ false → Some slot ≡ place_of arguments_name names
    → arguments_if own scope p names vs ≡ arguments_in scope slot vs p
arguments_some own scope p names vs slot e here =
    ap (λ (b : Bool). arguments_if b scope p names vs) e ∙ ap (arguments_at scope p vs) (sym here)

module _ (own : Bool) (scope : ScopeId) (p : Place) (names : List (List ℕ)) (vs : List Value) (h : HeapView) where
  pub none_bound : None ≡ place_of arguments_name names → Works (arguments_if own scope p names vs) h (Ok tt) h
  none_bound e = subst (λ (q : Does (Unit {0})). Works q h (Ok tt) h) (sym (arguments_none own scope p names vs e)) (record { is = λ after fuel beside. refl })

  pub own_bound : own ≡ true → Works (arguments_if own scope p names vs) h (Ok tt) h
  own_bound e = subst (λ (q : Does (Unit {0})). Works q h (Ok tt) h) (sym (arguments_own own scope p names vs e)) (record { is = λ after fuel beside. refl })

  pub some_bound : (slot : ℕ) (r : Result (Unit {0}) Halt) (h' : HeapView) → own ≡ false → Some slot ≡ place_of arguments_name names
      → Works (arguments_in scope slot vs p) h r h' → Works (arguments_if own scope p names vs) h r h'
  some_bound slot r h' e here w = subst (λ (q : Does (Unit {0})). Works q h r h') (sym (arguments_some own scope p names vs slot e here)) w
