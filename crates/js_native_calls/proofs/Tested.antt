-- Values that are handed to a native are made ready.
use Rattle.std.proofs.Common.{◌≡◌, Ok, Err, Result, true, false, ap, sym, subst, ◌∙◌, if◌then◌else◌, Bool}
use Rattle.std.specs.Result.{IsErrAnd}
use Rattle.js_tree.specs.declared.place.Place.{Place}
use Rattle.heap_values.specs.declared.ids.ObjectId.{ObjectId}
use Rattle.heap_values.specs.declared.value.Value.{Value}
use Rattle.heap_values.specs.declared.value.Value.TheVariants as value
use Rattle.heap_values.specs.Views.{HeapView}
use Rattle.js_evaluation.specs.declared.native.Conversion.{Conversion}
use Rattle.js_evaluation.specs.declared.native.Native.{Native}
use Rattle.run_trees.specs.Runs.{pure, ◌>>=◌}
use Rattle.js_evaluation.specs.State.{Does}
use Rattle.js_evaluation.specs.Conversions.{Call, to_primitive}
use Rattle.js_evaluation.specs.Natives.{tested, is_kept, methods_for, settled, primitive_or_kept}
use Rattle.heap_steps.specs.declared.halt.Halt.{Halt}
use Rattle.heap_steps.specs.Works.{Works, state_with}
use Rattle.heap_steps.proofs.Chains.{as_part, chained, stops}
use Rattle.js_native_calls.specs.declared.readying.Readied.{Readied}
use Rattle.js_native_calls.specs.declared.readying.Readied.TheVariants as readied
use Rattle.js_native_calls.specs.Readying.{Becomes, Readies}
use Rattle.js_native_calls.proofs.Objects.{is_primitive}

-- at a heap where it is known whether a value is kept
module _ (call : Call) (c : Conversion) (v : Value) (place : Place) (h : HeapView) where
  -- by whether it is
  abbrev by_keeping : Bool → Does Value
  by_keeping b = if b then pure v else to_primitive call (methods_for c) v place >>= (λ p. settled c p place)

  pub kept_as : is_kept h c v ≡ true → Works (primitive_or_kept call c v place) h (Ok v) h
  kept_as kept = record { is = λ after fuel beside. ap (λ b. by_keeping b after (state_with h fuel beside)) kept }

-- a value that is neither kept nor an object is settled at once
module _ (call : Call) (c : Conversion) (v : Value) (place : Place) (h : HeapView) (kept : is_kept h c v ≡ false) (n : (id : ObjectId) → v ≡ value.Object id → ⊥) where
  pub settled_as : (r : Result Value Halt) → Works (settled c v place) h r h → Works (primitive_or_kept call c v place) h r h
  settled_as r w = as_part r
      (λ after fuel beside. ap (λ b. by_keeping call c v place h b after (state_with h fuel beside)) kept
      ∙ ap (λ (p : Does Value). (p >>= (λ w. settled c w place)) after (state_with h fuel beside)) (is_primitive call (methods_for c) v place n))
      w

  pub settled_stops : (r : Result Readied Halt) (e : Halt) → IsErrAnd r (λ x. x ≡ e) → Works (settled c v place) h (Err e) h → Becomes call c v place h r
  settled_stops (Ok x) e i w = absurd i
  settled_stops (Err x) e i w = subst (λ y. Works (primitive_or_kept call c v place) h (Err y) h) (sym i) (settled_as (Err e) w)

module _ (call : Call) (n : Native) (c : Conversion) (v : Value) (place : Place) (h : HeapView) where
  -- the test stops
  pub test_stops : (h' : HeapView) (r : Result Readied Halt) (e : Halt) → IsErrAnd r (λ x. x ≡ e) → Works (tested n c v place) h (Err e) h' → Readies call n c v place h r h'
  test_stops h' (Ok x) e i w = absurd i
  test_stops h' (Err x) e i w = stops (tested n c v place) (λ _. primitive_or_kept call c v place) h h' (Err x) e i w

  -- the test passes
  pub tested_then : (h' : HeapView) (r : Result Readied Halt) → Works (tested n c v place) h (Ok tt) h' → Becomes call c v place h' r → Readies call n c v place h r h'
  tested_then h' (Ok (readied.Value w)) t b = chained (tested n c v place) (λ _. primitive_or_kept call c v place) h h' tt (Ok w) h' t b
  tested_then h' (Ok (readied.Asked id)) t b = (b.0, b.1, t)
  tested_then h' (Err e) t b = chained (tested n c v place) (λ _. primitive_or_kept call c v place) h h' tt (Err e) h' t b
