-- Parts one after another, however they are grouped.
use Rattle.std.proofs.Common.{◌≡◌, Ok, Err, Result, refl, ap, sym}
use mathlib.Core.Path.{fun_ext}
use Rattle.heap_values.specs.declared.value.Value.{Value}
use Rattle.heap_values.specs.Views.{HeapView}
use Rattle.run_trees.specs.Runs.{onward, ◌>>=◌}
use Rattle.js_evaluation.specs.State.{RunState, Stop, Does, AfterValue}
use Rattle.heap_steps.specs.declared.halt.Halt.{Halt}
use Rattle.heap_steps.specs.Works.{Works}
use Rattle.js_machine.specs.declared.machine.Machine.{Machine}
use Rattle.js_machine.specs.declared.now.Now.{Now}
use Rattle.js_machine.specs.Moves.{Moves, run_state}
use Rattle.js_machine.proofs.Steps.{with_heap, works_then}
use Rattle.js_native_calls.proofs.Steps.{moves_as}

module _ {A B : Type 0} (part : Does A) (middle : A → Does B) (next : B → Does Value) where
  onward_both : (after : AfterValue) (r : Result A Stop) → onward middle (onward next after) r ≡ onward (λ v. middle v >>= next) after r
  onward_both after (Ok v) = refl
  onward_both after (Err stop) = refl

  pub regrouped : (after : AfterValue) (s : RunState) → (part >>= middle >>= next) after s ≡ (part >>= (λ v. middle v >>= next)) after s
  regrouped after s = ap (λ k. part k s) (fun_ext (onward_both after))

  module _ (m : Machine) (r : Result Now Halt) (m' : Machine) where
    pub grouped : Moves (part >>= (λ v. middle v >>= next)) m r m' → Moves (part >>= middle >>= next) m r m'
    grouped k = moves_as (part >>= middle >>= next) m (part >>= (λ v. middle v >>= next)) r m' (λ after. regrouped after (run_state m.state)) k

    pub ungrouped : Moves (part >>= middle >>= next) m r m' → Moves (part >>= (λ v. middle v >>= next)) m r m'
    ungrouped k = moves_as (part >>= (λ v. middle v >>= next)) m (part >>= middle >>= next) r m' (λ after. sym (regrouped after (run_state m.state))) k

    -- the first part does something to the heap
    pub first_then : (h : HeapView) (v : A) → Works part m.state.heap (Ok v) h → Moves (middle v >>= next) (with_heap m h) r m' → Moves (part >>= middle >>= next) m r m'
    first_then h v w k = grouped (works_then part (λ x. middle x >>= next) m h v w k)
