-- Parts that do something to the heap, one after another.
use Rattle.std.proofs.Common.{Bool, ◌≡◌, ◌⊎◌, inl, inr, ℕ, Ok, Err, Result, subst, sym, ap, ◌∙◌, refl}
use Rattle.std.specs.Result.{IsErrAnd}
use Rattle.js_tree.specs.declared.place.Place.{Place}
use Rattle.heap_values.specs.declared.answer.HeapAnswer.{HeapAnswer}
use Rattle.heap_values.specs.declared.answer.HeapAnswer.TheVariants as heap
use Rattle.heap_values.specs.declared.value.Value.TheVariants as value
use Rattle.heap_values.specs.Views.{HeapView}
use Rattle.run_trees.specs.RunTree.{Done}
use Rattle.run_trees.specs.Runs.{After, reading, ◌>>=◌}
use Rattle.js_evaluation.specs.State.{RunState, RunEnd, Faults, Stop, Does, heap_fault, made, changed}
use Rattle.js_evaluation.specs.Objects.{truth_after, written}
use Rattle.heap_steps.specs.declared.halt.Halt.{Halt}
use Rattle.heap_steps.specs.declared.halt.Halt.TheVariants as halt
use Rattle.heap_steps.specs.Works.{Works, state_with, plain_fault, refusal, Beside}

-- want of memory promises nothing
pub forgets : {A : Type 0} {part : Does A} {h h' : HeapView} (r : Result A Halt) (e : Halt)
    → IsErrAnd r (λ x. x ≡ e) → e ≡ halt.Memory → Works part h r h'
forgets (Ok v) e i k = absurd i
forgets {part = part} {h = h} {h' = h'} (Err x) e i k = subst (λ y. Works part h (Err y) h') (sym (i ∙ k)) (record { is = tt })

module _ {A B : Type 0} (part : Does A) (next : A → Does B) (h h' : HeapView) where
  -- where the part gives a value, the next goes on
  pub chained : (v : A) (r : Result B Halt) (h'' : HeapView) → Works part h (Ok v) h' → Works (next v) h' r h'' → Works (part >>= next) h r h''
  chained v (Ok w) h'' p n = record { is = λ after fuel beside. p.is _ fuel beside ∙ n.is after fuel beside }
  chained v (Err (halt.Throw t)) h'' p n = record { is = λ after fuel beside. p.is _ fuel beside ∙ n.is after fuel beside }
  chained v (Err (halt.Fault c place)) h'' p n = record { is = λ after fuel beside. p.is _ fuel beside ∙ n.is after fuel beside }
  chained v (Err (halt.LeftOut name place)) h'' p n = record { is = λ after fuel beside. p.is _ fuel beside ∙ n.is after fuel beside }
  chained v (Err halt.Memory) h'' p n = record { is = tt }

  stopped : (e : Halt) → Works part h (Err e) h' → Works (part >>= next) h (Err e) h'
  stopped (halt.Throw t) p = record { is = λ after fuel beside. p.is _ fuel beside }
  stopped (halt.Fault c place) p = record { is = λ after fuel beside. p.is _ fuel beside }
  stopped (halt.LeftOut name place) p = record { is = λ after fuel beside. p.is _ fuel beside }
  stopped halt.Memory p = record { is = tt }

  -- where it stops, the whole does
  pub stops : (r : Result B Halt) (e : Halt) → IsErrAnd r (λ x. x ≡ e) → Works part h (Err e) h' → Works (part >>= next) h r h'
  stops (Ok w) e i p = absurd i
  stops (Err x) e i p = subst (λ y. Works (part >>= next) h (Err y) h') (sym i) (stopped e p)

-- a refusal of the heap ends the run, but for want of memory
pub refused-works : {A : Type 0} {part : Does A} {h h' : HeapView} (e : HeapAnswer) (place : Place) {P : Type 0}
    → ((e ≡ heap.Memory) ⊎ P)
    → (P → (after : After RunState Stop RunEnd A) (fuel : ℕ) (beside : Beside) → part after (state_with h fuel beside) ≡ Done (Faults (plain_fault (heap_fault e) place)))
    → Works part h (Err (refusal e place)) h'
refused-works heap.StringTooLong place (inr p) f = record { is = f p }
refused-works heap.TextSpent place (inr p) f = record { is = f p }
refused-works heap.ArrayTooLong place (inr p) f = record { is = f p }
refused-works heap.HeapFull place (inr p) f = record { is = f p }
refused-works heap.BadLength place (inr p) f = record { is = f p }
refused-works heap.Memory place c f = record { is = tt }
refused-works heap.StringTooLong place (inl m) f = cc
refused-works heap.TextSpent place (inl m) f = cc
refused-works heap.ArrayTooLong place (inl m) f = cc
refused-works heap.HeapFull place (inl m) f = cc
refused-works heap.BadLength place (inl m) f = cc

-- ---- calls of the heap

module _ (place : Place) (h : HeapView) where
  -- a call that makes something
  module _ {A : Type 0} (call : HeapView → Result (A × HeapView) HeapAnswer) where
    pub made_works : (x : A) (h' : HeapView) → call h ≡ Ok (x, h') → Works (reading (λ s. made place (call s.heap))) h (Ok x) h'
    made_works x h' e = record { is = λ after fuel beside. ap (λ r. made place r after (state_with h fuel beside)) e }

    pub made_refused : (h' : HeapView) (e : HeapAnswer) → ((e ≡ heap.Memory) ⊎ (call h ≡ Err e)) → Works (reading (λ s. made place (call s.heap))) h (Err (refusal e place)) h'
    made_refused h' e c = refused-works e place c (λ p after fuel beside. ap (λ r. made place r after (state_with h fuel beside)) p)

  -- a call that changes the heap
  module _ (call : HeapView → Result HeapView HeapAnswer) where
    pub changed_works : (h' : HeapView) → call h ≡ Ok h' → Works (reading (λ s. changed place (call s.heap))) h (Ok tt) h'
    changed_works h' e = record { is = λ after fuel beside. ap (λ r. changed place r after (state_with h fuel beside)) e }

    pub changed_refused : (h' : HeapView) (e : HeapAnswer) → ((e ≡ heap.Memory) ⊎ (call h ≡ Err e)) → Works (reading (λ s. changed place (call s.heap))) h (Err (refusal e place)) h'
    changed_refused h' e c = refused-works e place c (λ p after fuel beside. ap (λ r. changed place r after (state_with h fuel beside)) p)

-- ---- parts that are the same at a heap

-- what a part does, each part does that is the same at this heap
pub as_part : {A : Type 0} {p q : Does A} {h h' : HeapView} (r : Result A Halt)
    → ((after : After RunState Stop RunEnd A) (fuel : ℕ) (beside : Beside) → p after (state_with h fuel beside) ≡ q after (state_with h fuel beside)) → Works q h r h' → Works p h r h'
as_part (Ok v) e w = record { is = λ after fuel beside. e after fuel beside ∙ w.is after fuel beside }
as_part (Err (halt.Throw t)) e w = record { is = λ after fuel beside. e after fuel beside ∙ w.is after fuel beside }
as_part (Err (halt.Fault c place)) e w = record { is = λ after fuel beside. e after fuel beside ∙ w.is after fuel beside }
as_part (Err (halt.LeftOut name place)) e w = record { is = λ after fuel beside. e after fuel beside ∙ w.is after fuel beside }
as_part (Err halt.Memory) e w = record { is = tt }

-- ---- deletion and writes

pub truth_works : (h : HeapView) (r : Bool × HeapView) (b : Bool) (h' : HeapView) → b ≡ r.0 → h' ≡ r.1 → Works (truth_after r) h (Ok (value.Bool b)) h'
truth_works h r b h' d e = record {
  is = λ after fuel beside.
      ap (λ x. after (Ok (value.Bool x)) (state_with r.1 fuel beside)) (sym d) ∙ ap (λ k. after (Ok (value.Bool b)) (state_with k fuel beside)) (sym e);
}

-- a length of an array that is no whole number from 0
pub bad_length : (r : Result HeapView HeapAnswer) (e : HeapAnswer) → e ≡ heap.BadLength → ((e ≡ heap.Memory) ⊎ (r ≡ Err e)) → r ≡ Err heap.BadLength
bad_length r e b (inr p) = p ∙ ap (λ x. Err x) b
bad_length r e b (inl p) = cc

-- what else refuses a write ends the run, but for want of memory
pub unwritten : (place : Place) (h h' : HeapView) (r : Result HeapView HeapAnswer) (e : HeapAnswer) → (e ≡ heap.BadLength → ⊥) → ((e ≡ heap.Memory) ⊎ (r ≡ Err e))
    → Works (written place r) h (Err (refusal e place)) h'
unwritten place h h' r heap.StringTooLong n (inr p) = record { is = λ after fuel beside. ap (λ x. written place x after (state_with h fuel beside)) p }
unwritten place h h' r heap.TextSpent n (inr p) = record { is = λ after fuel beside. ap (λ x. written place x after (state_with h fuel beside)) p }
unwritten place h h' r heap.ArrayTooLong n (inr p) = record { is = λ after fuel beside. ap (λ x. written place x after (state_with h fuel beside)) p }
unwritten place h h' r heap.HeapFull n (inr p) = record { is = λ after fuel beside. ap (λ x. written place x after (state_with h fuel beside)) p }
unwritten place h h' r heap.BadLength n c = absurd (n refl)
unwritten place h h' r heap.Memory n c = record { is = tt }
unwritten place h h' r heap.StringTooLong n (inl p) = cc
unwritten place h h' r heap.TextSpent n (inl p) = cc
unwritten place h h' r heap.ArrayTooLong n (inl p) = cc
unwritten place h h' r heap.HeapFull n (inl p) = cc
