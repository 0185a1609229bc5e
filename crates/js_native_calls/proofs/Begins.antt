-- Where the search for a pattern begins is read, and then the method works (ECMA-262 5.1, sections 15.10.6 and 15.5.4).
use Rattle.std.proofs.Common.{◌≡◌, ◌≤◌, ℕ, List, Option, Some, None, codes, Ok, Err, Result, ap, sym, subst, ◌∙◌, arith}
use Rattle.std.specs.Result.{IsErrAnd}
use Rattle.js_tree.specs.declared.place.Place.{Place}
use Rattle.heap_values.specs.declared.ids.ObjectId.{ObjectId}
use Rattle.heap_values.specs.declared.value.Value.{Value}
use Rattle.heap_values.specs.declared.value.Value.TheVariants as value
use Rattle.heap_values.specs.Views.{HeapView}
use Rattle.js_convert.specs.Numeric.{numeric_of}
use Rattle.run_trees.specs.Runs.{onward, pure, reading, ◌>>=◌}
use Rattle.js_evaluation.specs.declared.native.PatternNative.{PatternNative}
use Rattle.js_evaluation.specs.State.{Does}
use Rattle.js_evaluation.specs.Objects.{get}
use Rattle.js_evaluation.specs.Conversions.{primitive_by, to_primitive, number_methods}
use Rattle.js_evaluation.specs.Natives.{begin_of, position_of}
use Rattle.js_evaluation.specs.Patterns.{read_by, pattern_work}
use Rattle.js_evaluation.specs.Parts.{calls}
use Rattle.js_frames.specs.declared.wanted.Wanted.TheVariants as wanted
use Rattle.js_frames.specs.RestOf.{with_primitive}
use Rattle.heap_steps.specs.declared.halt.Halt.{Halt}
use Rattle.heap_steps.specs.declared.halt.Halt.TheVariants as halt
use Rattle.heap_steps.specs.Works.{Works}
use Rattle.js_machine.specs.declared.machine.Machine.{Machine}
use Rattle.js_machine.specs.declared.machine.State.{State}
use Rattle.js_machine.specs.declared.now.Now.{Now}
use Rattle.js_machine.specs.declared.now.Now.TheVariants as now
use Rattle.js_machine.specs.Moves.{Leads, Moves, at, inner, run_state}
use Rattle.js_machine.proofs.Steps.{with_heap, works_then}
use Rattle.js_machine.specs.Acts.{Acts}
use Rattle.js_native_calls.specs.Calls.{converted, begun}
use Rattle.js_native_calls.proofs.Grouping.{grouped}
use Rattle.js_native_calls.proofs.Objects.{is_primitive}
use Rattle.js_native_calls.proofs.Steps.{moves_as}

-- a part that does something to the state, and gives a value or stops
module _ (part : Does Value) (m : Machine) (s : State) where
  abbrev pub with_state : Machine
  with_state = record m { state = s }

  pub acts_back : (v : Value) → Acts part m.state (Ok v) s → Moves part m (Ok (now.Back (Ok v))) with_state
  acts_back v w = record { goes = λ last. w.is _; light = let less = w.less in omega (arith, less) }

  ends : (e : Halt) → Acts part m.state (Err e) s → Moves part m (Err e) with_state
  ends (halt.Throw thrown) w = record { goes = λ last. w.is _; light = let less = w.less in omega (arith, less) }
  ends (halt.Fault c p) w = record { goes = λ last. w.is _; light = tt }
  ends (halt.LeftOut n p) w = record { goes = λ last. w.is _; light = tt }
  ends halt.Memory w = record { goes = λ last. tt; light = tt }

  pub acts_ends : (r : Result Now Halt) (e : Halt) → IsErrAnd r (λ x. x ≡ e) → Acts part m.state (Err e) s → Moves part m r with_state
  acts_ends (Ok what) e i w = absurd i
  acts_ends (Err x) e i w = subst (λ y. Moves part m (Err y) with_state) (sym i) (ends e w)

module _ (m : Machine) (n : PatternNative) (vs : List Value) (place : Place) (r : Result Now Halt) (m' : Machine) where
  abbrev work : Value → Does Value
  work begin = pattern_work n vs begin place

  abbrev from_of : Option ObjectId → Does Value
  from_of which = begin_of (calls (inner m)) which place >>= work

  -- in the heap as it is
  pub read_in : (which : Option ObjectId) → read_by n m.state.heap vs ≡ which → Moves (from_of which) m r m'
      → Moves (reading (λ s. from_of (read_by n s.heap vs))) m r m'
  read_in which e k =
      moves_as (reading (λ s. from_of (read_by n s.heap vs))) m (from_of which) r m' (λ after. ap (λ w. from_of w after (run_state m.state)) e) k

  module _ (pattern : ObjectId) (h : HeapView) (v : Value) (got : Works (get (value.Object pattern) (codes "lastIndex") place) m.state.heap (Ok v) h) where
    abbrev position : Value → Does Value
    position p = position_of (numeric_of p) place

    abbrev as_position : Value → Does Value
    as_position w = to_primitive (calls (inner m)) number_methods w place >>= position

    from_value : Moves (as_position v >>= work) (with_heap m h) r m' → Moves (at m begun n vs pattern place) m r m'
    from_value k = grouped (get (value.Object pattern) (codes "lastIndex") place) as_position work m r m'
        (works_then (get (value.Object pattern) (codes "lastIndex") place) (λ w. as_position w >>= work) m h v got k)

    -- an object is asked
    pub asked_begin : (id : ObjectId) → v ≡ value.Object id
        → Leads (at m converted number_methods id place (wanted.Begin n vs place)) (with_heap m h) r m' → Moves (at m begun n vs pattern place) m r m'
    asked_begin id e k = from_value
        (subst (λ (w : Value). Moves (as_position w >>= work) (with_heap m h) r m') (sym e)
        (grouped (primitive_by (calls (inner m)) number_methods id place) position work (with_heap m h) r m' k))

    pub plain_begin : ((id : ObjectId) → v ≡ value.Object id → ⊥)
        → Leads (at m with_primitive (wanted.Begin n vs place) v) (with_heap m h) r m' → Moves (at m begun n vs pattern place) m r m'
    plain_begin other k = from_value
        (subst (λ (p : Does Value). Moves (p >>= position >>= work) (with_heap m h) r m') (sym (is_primitive (calls (inner m)) number_methods v place other)) k)
