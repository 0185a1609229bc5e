-- Steps on a heap, one after another, of which the first that is refused ends them.
use Rattle.std.specs.Prelude.{ℕ, ◌+◌, zero, suc, Result, Ok, Err}
use Rattle.heap_values.specs.declared.answer.HeapAnswer.{HeapAnswer}
use Rattle.heap_values.specs.declared.value.Value.{Value}
use Rattle.heap_values.specs.Views.{HeapView}

-- what the next step gives on what the last one gave, where that was not refused
abbrev pub then_on : {A B : Type 0} → Result A HeapAnswer → (A → Result B HeapAnswer) → Result B HeapAnswer
then_on (Ok a) f = f a
then_on (Err e) f = Err e

-- the steps of `f` at k, k + 1 and so on, so many of them
abbrev pub steps : (ℕ → HeapView → Result HeapView HeapAnswer) → ℕ → ℕ → HeapView → Result HeapView HeapAnswer
steps f zero k h = Ok h
steps f (suc count) k h = then_on (f k h) (λ g. steps f count (k + 1) g)

-- the steps of `f` at n - 1, n - 2 and so on, down to 0
abbrev pub steps_down : (ℕ → HeapView → Result HeapView HeapAnswer) → ℕ → HeapView → Result HeapView HeapAnswer
steps_down f zero h = Ok h
steps_down f (suc n) h = then_on (f n h) (λ g. steps_down f n g)

-- this value, with the heap that was made
abbrev pub giving : Value → Result HeapView HeapAnswer → Result (Value × HeapView) HeapAnswer
giving v r = then_on r (λ h. Ok (v, h))
