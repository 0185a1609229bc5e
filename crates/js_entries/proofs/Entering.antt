-- Functions that are entered: what is made of the end of one that is called or constructs.
use Rattle.std.proofs.Common.{◌≡◌, ℕ, List, length, ap, Ok, Err, Result, Option, None, Some, refl, sym, subst, ◌∙◌, arith}
use Rattle.std.specs.Prelude.{codes, slice_get}
use Rattle.std.specs.Result.{IsErrAnd}
use Rattle.js_tree.specs.declared.place.Place.{Place}
use Rattle.js_tree.specs.declared.expression.Function.{Function}
use Rattle.js_tree.specs.Tree.{FunctionTree, statements_of}
use Rattle.js_tree.specs.View.{function_of}
use Rattle.heap_values.specs.declared.built_in.BuiltIn.TheVariants as built_in
use Rattle.heap_values.specs.declared.ids.Kind.TheVariants as kind
use Rattle.heap_values.specs.declared.ids.ObjectId.{ObjectId}
use Rattle.heap_values.specs.declared.ids.ScopeId.{ScopeId}
use Rattle.heap_values.specs.declared.value.Value.{Value}
use Rattle.heap_values.specs.declared.value.Value.TheVariants as value
use Rattle.heap_values.specs.Views.{HeapView}
use Rattle.run_trees.specs.declared.abrupt.Abrupt.TheVariants as ending
use Rattle.run_trees.specs.Runs.{pure, ◌>>=◌, ◌>>◌, returned_to, returning}
use Rattle.js_evaluation.specs.State.{RunState, Stop, Does, built_in_object, make, make_scope, AfterValue}
use Rattle.js_evaluation.specs.Entries as rule
use Rattle.js_evaluation.specs.Parts.{Within}
use Rattle.js_evaluation.specs.Scoping.{by_slots}
use Rattle.heap_steps.specs.declared.halt.Halt.{Halt}
use Rattle.heap_steps.specs.declared.halt.Halt.TheVariants as halt
use Rattle.heap_steps.specs.Works.{Works}
use Rattle.js_machine.specs.declared.machine.Machine.{Machine}
use Rattle.js_machine.specs.declared.now.Now.{Now}
use Rattle.js_machine.specs.declared.now.Now.TheVariants as now
use Rattle.js_machine.specs.Moves.{Leads, Moves, at, functions_of, inner, left, run_state, weight}
use Rattle.js_evaluation.specs.Objects.{Context, get}
use Rattle.js_frames.specs.Parts.{context_of}
use Rattle.js_frames.specs.Rests.{DoesEither, giving}
use Rattle.js_frames.specs.RestOf.{rest_of}
use Rattle.js_evaluation.specs.Statements.{statements_from}
use Rattle.js_machine.proofs.Steps.{with_heap, works_stops}
use Rattle.heap_steps.proofs.Chains.{chained, stops}
use Rattle.js_entries.specs.Names.{bound}
use Rattle.js_entries.specs.Entries.{body, called_end, constructed, constructing_end, entered, entered_by, given_to, made_from, nothing, object_or}

-- a scope is known by its number
pub scope_by_number : (scope : ScopeId) (n : ℕ) → scope.0 ≡ n → scope ≡ record { 0 = n }
scope_by_number scope n e = ap (λ k. record { 0 = k }) e

-- a part of which the same is left at another machine, which is as heavy
pub moves_from : {p q : DoesEither} {m n m' : Machine} (r : Result Now Halt)
    → ((last : AfterValue) → left last m p ≡ left last n q) → weight n ≡ weight m → Leads q n r m' → Leads p m r m'
moves_from (Ok what) same even k = record { goes = λ last. same last ∙ k.goes last; light = omega (arith, even, k.light) }
moves_from (Err (halt.Throw t)) same even k = record { goes = λ last. same last ∙ k.goes last; light = omega (arith, even, k.light) }
moves_from (Err (halt.Fault c place)) same even k = record { goes = λ last. same last ∙ k.goes last; light = tt }
moves_from (Err (halt.LeftOut name place)) same even k = record { goes = λ last. same last ∙ k.goes last; light = tt }
moves_from (Err halt.Memory) same even k = record { goes = λ last. tt; light = tt }

-- an abrupt end before the body passes
passes : (made : Option ObjectId) (after : AfterValue) (stop : Stop) (s : RunState) → given_to made after (Err stop) s ≡ after (Err stop) s
passes None after stop s = refl
passes (Some made) after stop s = refl

-- a function that comes to its end
pub gives_nothing : (made : Option ObjectId) (after : AfterValue) (s : RunState) → given_to made after (Ok value.Undefined) s ≡ after (Ok (nothing made)) s
gives_nothing None after s = refl
gives_nothing (Some made) after s = refl

-- there is no function of the number
pub entered_none : (functions : List FunctionTree) (go : Within) (cx : Context) (made : Option ObjectId) (n : ℕ) (around : ScopeId) (this : Value) (vs : List Value) (p : Place)
    (after : AfterValue) (s : RunState) → slice_get functions n ≡ None → entered_by functions go cx made n around this vs p after s ≡ after (Ok (nothing made)) s
entered_none functions go cx made n around this vs p after s e =
    ap (λ f. entered functions go cx made f around this vs p after s) e ∙ gives_nothing made after s

-- a body that ends abruptly
pub called_ends : (after : AfterValue) (stop : Stop) (s : RunState) → returned_to value.Undefined after (Err stop) s ≡ after (called_end stop) s
called_ends after (ending.Thrown t) s = refl
called_ends after (ending.Returned v) s = refl
called_ends after (ending.Broken target) s = refl
called_ends after (ending.Continued target) s = refl

pub constructing_ends : (made : ObjectId) (after : AfterValue) (stop : Stop) (s : RunState)
    → returned_to value.Undefined (given_to (Some made) after) (Err stop) s ≡ after (constructing_end made stop) s
constructing_ends made after (ending.Thrown t) s = refl
constructing_ends made after (ending.Returned v) s = refl
constructing_ends made after (ending.Broken target) s = refl
constructing_ends made after (ending.Continued target) s = refl

-- what is constructed by a function without an object as its prototype
pub made_by_default : (v : Value) → ((id : ObjectId) → v ≡ value.Object id → ⊥) → built_in_object built_in.ObjectPrototype ≡ made_from v
made_by_default value.Undefined n = refl
made_by_default value.Null n = refl
made_by_default (value.Bool b) n = refl
made_by_default (value.Number m) n = refl
made_by_default (value.Text t) n = refl
made_by_default (value.Object id) n = absurd (n id refl)

module _ {A : Type 0} (made : Option ObjectId) (part : Does A) (next : A → Does Value) (m : Machine) (h : HeapView) where
  stopped : (e : Halt) → Works part m.state.heap (Err e) h → Moves (λ after. (part >>= next) (given_to made after)) m (Err e) (with_heap m h)
  stopped (halt.Throw t) w = record { goes = λ last. w.is _ _ _ ∙ passes made _ _ _; light = omega arith }
  stopped (halt.Fault c place) w = record { goes = λ last. w.is _ _ _; light = tt }
  stopped (halt.LeftOut name place) w = record { goes = λ last. w.is _ _ _; light = tt }
  stopped halt.Memory w = record { goes = λ last. tt; light = tt }

  -- where a part before the body stops, so does the call
  pub entry_stops : (r : Result Now Halt) (e : Halt) → IsErrAnd r (λ x. x ≡ e) → Works part m.state.heap (Err e) h
      → Moves (λ after. (part >>= next) (given_to made after)) m r (with_heap m h)
  entry_stops (Ok what) e i w = absurd i
  entry_stops (Err x) e i w = subst (λ y. Moves (λ after. (part >>= next) (given_to made after)) m (Err y) (with_heap m h)) (sym i) (stopped e w)

-- ---- calls

module _ (m : Machine) (made : Option ObjectId) (around : ScopeId) (this : Value) (vs : List Value) (p : Place) where
  -- the function of a number
  pub no_function : (n : ℕ) (v : Value) → None ≡ slice_get (functions_of m) n → v ≡ nothing made
      → Moves (at m entered_by made n around this vs p) m (Ok (now.Back (Ok v))) m
  no_function n v e here = record {
    goes = λ last. entered_none (functions_of m) (inner m) (context_of m.context) made n around this vs p (rest_of (functions_of m) last m.frames).given (run_state m.state) (sym e)
        ∙ ap (λ w. (rest_of (functions_of m) last m.frames).given (Ok w) (run_state m.state)) (sym here);
    light = omega arith;
  }

  pub some_function : (n : ℕ) (f : FunctionTree) (r : Result Now Halt) (m' : Machine) → Some f ≡ slice_get (functions_of m) n
      → Moves (at m entered made (Some f) around this vs p) m r m' → Moves (at m entered_by made n around this vs p) m r m'
  some_function n f r m' e k = subst (λ g. Moves (at m entered made g around this vs p) m r m') e k

  module _ (f : Function) where
    pub scope_stops : (h : HeapView) (r : Result Now Halt) (e : Halt) → IsErrAnd r (λ x. x ≡ e) → Works (make_scope (length f.names) around p) m.state.heap (Err e) h
        → Moves (at m entered made (Some (function_of f)) around this vs p) m r (with_heap m h)
    scope_stops h r e i w = entry_stops made (make_scope (length f.names) around p)
        (λ scope. rule.entered_in by_slots (functions_of m) (inner m) scope this vs p f.parameters f.names (statements_of f.body)) m h r e i w

    module _ (scope : ScopeId) (h h' : HeapView) (r : Result Now Halt) (made_scope : Works (make_scope (length f.names) around p) m.state.heap (Ok scope) h) where
      pub names_stop : (e : Halt) → IsErrAnd r (λ x. x ≡ e) → Works (bound (functions_of m) f scope this vs p) h (Err e) h'
          → Moves (at m entered made (Some (function_of f)) around this vs p) m r (with_heap m h')
      names_stop e i w = moves_from r (λ last. made_scope.is _ _ _) refl
          (entry_stops made (bound (functions_of m) f scope this vs p)
          (λ _. returning value.Undefined (statements_from by_slots (functions_of m) (inner m) (record { scope = scope; this = this }) (statements_of f.body)))
          (with_heap m h) h' r e i w)

      pub enters : (m' : Machine) → Works (bound (functions_of m) f scope this vs p) h (Ok tt) h'
          → Moves (at (record (with_heap m h') { context = record { scope = scope; this = this } }) body made (statements_of f.body))
          (record (with_heap m h') { context = record { scope = scope; this = this } }) r m'
          → Moves (at m entered made (Some (function_of f)) around this vs p) m r m'
      enters m' w k = moves_from r (λ last. made_scope.is _ _ _ ∙ w.is _ _ _) refl k

-- ---- constructions

module _ (m : Machine) (f : ObjectId) (n : ℕ) (around : ScopeId) (vs : List Value) (p : Place) (prototype : Value) (h h' : HeapView) (r : Result Now Halt)
    (read : Works (get (value.Object f) (codes "prototype") p) m.state.heap (Ok prototype) h) where
  pub object_stops : (e : Halt) → IsErrAnd r (λ x. x ≡ e) → Works (make kind.Plain (Some (made_from prototype)) p) h (Err e) h'
      → Moves (at m constructed f n around vs p) m r (with_heap m h')
  object_stops e i w = moves_from r (λ last. read.is _ _ _) refl (works_stops (make kind.Plain (Some (made_from prototype)) p)
      (λ made. rule.entered by_slots (functions_of m) (inner m) around (value.Object made) vs p (slice_get (functions_of m) n)
      >>= (λ v. pure (object_or made v))) (with_heap m h) h' r e i w)

  pub constructs : (made : ObjectId) (m' : Machine) → Works (make kind.Plain (Some (made_from prototype)) p) h (Ok made) h'
      → Moves (at (with_heap m h') entered_by (Some made) n around (value.Object made) vs p) (with_heap m h') r m' → Moves (at m constructed f n around vs p) m r m'
  constructs made m' w k = moves_from r (λ last. read.is _ _ _ ∙ w.is _ _ _) refl k

-- ---- the load of a script

module _ (a b : Does (Unit {0})) (c : Does Value) (m : Machine) where
  pub first_load_stops : (h : HeapView) (r : Result Now Halt) (e : Halt) → IsErrAnd r (λ x. x ≡ e) → Works a m.state.heap (Err e) h
      → Moves (a >> b >> c) m r (with_heap m h)
  first_load_stops h r e i w = works_stops (a >> b) (λ _. c) m h r e i (stops a (λ _. b) m.state.heap h (Err e) e refl w)

  module _ (h h' : HeapView) (r : Result Now Halt) (done : Works a m.state.heap (Ok tt) h) where
    pub second_load_stops : (e : Halt) → IsErrAnd r (λ x. x ≡ e) → Works b h (Err e) h' → Moves (a >> b >> c) m r (with_heap m h')
    second_load_stops e i w = works_stops (a >> b) (λ _. c) m h' r e i (chained a (λ _. b) m.state.heap h tt (Err e) h' done w)

    pub loads : (q : Does Value) (n m' : Machine) → Works b h (Ok tt) h' → ((last : AfterValue) → left last (with_heap m h') (giving c) ≡ left last n (giving q)) → weight n ≡ weight m
        → Moves q n r m' → Moves (a >> b >> c) m r m'
    loads q n m' w same even k = moves_from r (λ last. done.is _ _ _ ∙ w.is _ _ _ ∙ same last) even k
