-- One step of a walk over the elements of an array.
use Rattle.std.proofs.Common.{◌≡◌, ℕ, ◌+◌, ◌-◌, ◌<◌, zero, suc, Result, Ok, Err, sym, ap, ◌∙◌, arith}
use Rattle.heap_values.specs.declared.answer.HeapAnswer.{HeapAnswer}
use Rattle.heap_values.specs.Views.{HeapView}
use Rattle.array_builtins.specs.Steps.{steps, steps_down, then_on}

-- where the step at k gives a heap, the walk goes on from there
pub steps-ok : (f : ℕ → HeapView → Result HeapView HeapAnswer) (n k : ℕ) (h g : HeapView)
    → k < n → f k h ≡ Ok g → steps f (n - k) k h ≡ steps f (n - (k + 1)) (k + 1) g
steps-ok f n k h g lt ok = at (n - k) (n - (k + 1)) (omega arith)
  where
    at : (left rest : ℕ) → left ≡ rest + 1 → steps f left k h ≡ steps f rest (k + 1) g
    at zero rest e = absurd (omega arith)
    at (suc m) rest e =
        ap (λ r. then_on r (λ g'. steps f m (k + 1) g')) ok
        ∙ (let q : m ≡ rest = omega arith in ap (λ i. steps f i (k + 1) g) q)

-- where it is refused, the walk is
pub steps-err : (f : ℕ → HeapView → Result HeapView HeapAnswer) (n k : ℕ) (h : HeapView) (e : HeapAnswer)
    → k < n → f k h ≡ Err e → steps f (n - k) k h ≡ Err e
steps-err f n k h e lt err = at (n - k) (omega arith)
  where
    at : (left : ℕ) → 0 < left → steps f left k h ≡ Err e
    at zero p = absurd (omega arith)
    at (suc m) p = ap (λ r. then_on r (λ g. steps f m (k + 1) g)) err

-- the same of a walk down from n
pub steps_down-ok : (f : ℕ → HeapView → Result HeapView HeapAnswer) (n : ℕ) (h g : HeapView)
    → 0 < n → f (n - 1) h ≡ Ok g → steps_down f n h ≡ steps_down f (n - 1) g
steps_down-ok f zero h g lt ok = absurd (omega arith)
steps_down-ok f (suc n) h g lt ok =
    let e : suc n - 1 ≡ n = omega arith in
    rw e (ap (λ r. then_on r (λ g'. steps_down f n g')) (ap (λ i. f i h) (sym e) ∙ ok))

pub steps_down-err : (f : ℕ → HeapView → Result HeapView HeapAnswer) (n : ℕ) (h : HeapView) (e : HeapAnswer)
    → 0 < n → f (n - 1) h ≡ Err e → steps_down f n h ≡ Err e
steps_down-err f zero h e lt err = absurd (omega arith)
steps_down-err f (suc n) h e lt err =
    let q : suc n - 1 ≡ n = omega arith in
    ap (λ r. then_on r (λ g. steps_down f n g)) (ap (λ i. f i h) (sym q) ∙ err)
