-- Rules that go on from another part, behind what is done to the heap.
use Rattle.std.proofs.Common.{◌≡◌, Ok, Err, Result, subst, sym, ◌∙◌}
use Rattle.heap_values.specs.declared.value.Value.{Value}
use Rattle.heap_values.specs.Views.{HeapView}
use Rattle.run_trees.specs.Runs.{After}
use Rattle.js_evaluation.specs.State.{RunState, RunEnd, Stop, Does, AfterValue}
use Rattle.heap_steps.specs.declared.halt.Halt.{Halt}
use Rattle.heap_steps.specs.declared.halt.Halt.TheVariants as halt
use Rattle.heap_steps.specs.Works.{Works}
use Rattle.js_machine.specs.declared.machine.Machine.{Machine}
use Rattle.js_machine.specs.declared.now.Now.{Now}
use Rattle.js_frames.specs.Rests.{DoesEither}
use Rattle.js_machine.specs.Moves.{Leads, Moves, left}
use Rattle.js_machine.proofs.Steps.{with_heap}

-- a machine that goes on from a part goes on from each part of which the same is left
pub moves_as : {p q : DoesEither} {m m' : Machine} (r : Result Now Halt)
    → ((last : AfterValue) → left last m p ≡ left last m q) → Leads q m r m' → Leads p m r m'
moves_as (Ok what) e k = record { goes = λ last. e last ∙ k.goes last; light = k.light }
moves_as (Err (halt.Throw thrown)) e k = record { goes = λ last. e last ∙ k.goes last; light = k.light }
moves_as (Err (halt.Fault c p)) e k = record { goes = λ last. e last ∙ k.goes last; light = tt }
moves_as (Err (halt.LeftOut n p)) e k = record { goes = λ last. e last ∙ k.goes last; light = tt }
moves_as (Err halt.Memory) e k = record { goes = λ last. tt; light = tt }

-- the same of a part that is another
pub leads_by : {p q : DoesEither} {m m' : Machine} {r : Result Now Halt} → p ≡ q → Leads q m r m' → Leads p m r m'
leads_by {m = m} {m' = m'} {r = r} e k = subst (λ (x : DoesEither). Leads x m r m') (sym e) k

pub moves_by : {p q : Does Value} {m m' : Machine} {r : Result Now Halt} → p ≡ q → Moves q m r m' → Moves p m r m'
moves_by {m = m} {m' = m'} {r = r} e k = subst (λ (x : Does Value). Moves x m r m') (sym e) k

-- ---- a part that does something to the heap, and gives a value to what comes after it

module _ {A : Type 0} (part : Does A) (around : AfterValue → After RunState Stop RunEnd A) (m : Machine) (h : HeapView) where
  -- where it gives a value, what comes after it goes on
  pub works_within : (v : A) {r : Result Now Halt} {m' : Machine} → Works part m.state.heap (Ok v) h
      → Moves (λ after. around after (Ok v)) (with_heap m h) r m' → Moves (λ after. part (around after)) m r m'
  works_within v {r = Ok what} w k = record { goes = λ last. w.is _ _ _ ∙ k.goes last; light = k.light }
  works_within v {r = Err (halt.Throw thrown)} w k = record { goes = λ last. w.is _ _ _ ∙ k.goes last; light = k.light }
  works_within v {r = Err (halt.Fault c p)} w k = record { goes = λ last. w.is _ _ _ ∙ k.goes last; light = tt }
  works_within v {r = Err (halt.LeftOut n p)} w k = record { goes = λ last. w.is _ _ _ ∙ k.goes last; light = tt }
  works_within v {r = Err halt.Memory} w k = record { goes = λ last. tt; light = tt }
