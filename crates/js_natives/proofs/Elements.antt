-- The elements of an array, and texts that are counted, one after another.
use Rattle.std.proofs.Common.{◌≡◌, ℕ, suc, ◌+◌, List, ◌∷◌, true, Result, Ok, Err, ap, sym, subst, arith}
use Rattle.std.specs.Fmt.{decimal}
use Rattle.std.specs.Result.{IsErrAnd}
use Rattle.js_tree.specs.declared.place.Place.{Place}
use Rattle.heap_values.specs.declared.ids.ObjectId.{ObjectId}
use Rattle.heap_values.specs.declared.value.Value.{Value}
use Rattle.heap_values.specs.Views.{HeapView}
use Rattle.run_trees.specs.Runs.{◌>>◌}
use Rattle.heap_steps.specs.declared.halt.Halt.{Halt}
use Rattle.heap_steps.specs.Works.{Works}
use Rattle.heap_steps.proofs.Chains.{chained, stops}
use Rattle.js_evaluation.specs.State.{Does, define, spend}
use Rattle.js_evaluation.specs.Objects.{elements_from}
use Rattle.js_evaluation.specs.NativeWork.{spend_all}

elements_step : (p : Place) (object : ObjectId) (i : ℕ) (v : Value) (vs : List Value)
    → elements_from p object i (v ∷ vs) ≡ (define object (decimal i) v true true p >> elements_from p object (i + 1) vs)
elements_step p object i v vs = let next : suc i ≡ i + 1 = omega arith in
    ap (λ (n : ℕ). define object (decimal i) v true true p >> elements_from p object n vs) next

module _ (p : Place) (object : ObjectId) (i : ℕ) (v : Value) (vs : List Value) (h h' : HeapView) (r : Result (Unit {0}) Halt) where
  -- an element, and then those behind it
  pub element_then : (h'' : HeapView) → Works (define object (decimal i) v true true p) h (Ok tt) h' → Works (elements_from p object (i + 1) vs) h' r h''
      → Works (elements_from p object i (v ∷ vs)) h r h''
  element_then h'' one two = subst (λ (part : Does (Unit {0})). Works part h r h'') (sym (elements_step p object i v vs))
      (chained (define object (decimal i) v true true p) (λ _. elements_from p object (i + 1) vs) h h' tt r h'' one two)

  pub element_stops : (e : Halt) → IsErrAnd r (λ y. y ≡ e) → Works (define object (decimal i) v true true p) h (Err e) h' → Works (elements_from p object i (v ∷ vs)) h r h'
  element_stops e i' one = subst (λ (part : Does (Unit {0})). Works part h r h') (sym (elements_step p object i v vs))
      (stops (define object (decimal i) v true true p) (λ _. elements_from p object (i + 1) vs) h h' r e i' one)

module _ (p : Place) (t : List ℕ) (ts : List (List ℕ)) (h h' : HeapView) (r : Result (Unit {0}) Halt) where
  -- a text, and then those behind it
  pub spend_then : (h'' : HeapView) → Works (spend t p) h (Ok tt) h' → Works (spend_all ts p) h' r h'' → Works (spend_all (t ∷ ts) p) h r h''
  spend_then h'' one two = chained (spend t p) (λ _. spend_all ts p) h h' tt r h'' one two

  pub spend_stops : (e : Halt) → IsErrAnd r (λ y. y ≡ e) → Works (spend t p) h (Err e) h' → Works (spend_all (t ∷ ts) p) h r h'
  spend_stops e i one = stops (spend t p) (λ _. spend_all ts p) h h' r e i one
