-- Scopes that are made, and names that are written in them.
use Rattle.std.proofs.Common.{◌≡◌, ℕ, Some, Ok, Err, Result, subst, ap, sym}
use Rattle.std.specs.Result.{IsErrAnd}
use Rattle.js_tree.specs.declared.place.Place.{Place}
use Rattle.heap_values.specs.declared.answer.HeapAnswer.{HeapAnswer}
use Rattle.heap_values.specs.declared.ids.ScopeId.{ScopeId}
use Rattle.heap_values.specs.declared.value.Value.{Value}
use Rattle.heap_values.specs.Views.{HeapView}
use Rattle.object_heap.specs.Heap.{scope_made_of, slot_written_of}
use Rattle.run_trees.specs.declared.abrupt.Abrupt.TheVariants as ending
use Rattle.run_trees.specs.RunTree.{Done}
use Rattle.run_trees.specs.Runs.{After}
use Rattle.js_evaluation.specs.declared.fault.FaultCode.TheVariants as code
use Rattle.js_evaluation.specs.declared.thrown.Thrown.{Thrown}
use Rattle.js_evaluation.specs.State.{RunState, RunEnd, Comes, Faults, Stop, made, make_scope, write_slot, AfterValue}
use Rattle.heap_steps.specs.declared.halt.Halt.{Halt}
use Rattle.heap_steps.specs.declared.halt.Halt.TheVariants as halt
use Rattle.heap_steps.specs.Works.{Works, Beside, state_with, plain_fault}
use Rattle.js_machine.specs.declared.machine.Machine.{Machine}
use Rattle.js_machine.specs.declared.now.Now.{Now}
use Rattle.js_machine.specs.Moves.{Moves, beside_of}
use Rattle.js_machine.proofs.Steps.{with_heap}

-- a name is written in a scope
pub slot_writes : (scope : ScopeId) (slot : ℕ) (v : Value) (h h' : HeapView) → h' ≡ slot_written_of h scope slot v
    → Works (write_slot scope slot v) h (Ok tt) h'
slot_writes scope slot v h h' e = record { is = λ after fuel beside. ap (λ k. after (Ok tt) (state_with k fuel beside)) (sym e) }

-- what comes after a part, and tells a throw from all else
told : {A : Type 0} → Place → After RunState Stop RunEnd A
told place (Ok v) s = Done (Faults (plain_fault code.FuelSpent place))
told place (Err e) s = Done (Comes (Err e) s)

-- what is made is never thrown
made_throws : {A : Type 0} (place : Place) (r : Result (A × HeapView) HeapAnswer) (h h' : HeapView) (beside : Beside) (t : Thrown)
    → made place r (told place) (state_with h 0 beside) ≡ told {A = A} place (Err (ending.Thrown t)) (state_with h' 0 beside) → ⊥
unfolding told
made_throws place (Ok x) h h' beside t e = cc
made_throws place (Err x) h h' beside t e = cc

module _ (size : ℕ) (outer : ScopeId) (place : Place) (around : AfterValue → After RunState Stop RunEnd ScopeId) (m : Machine) (h : HeapView) where
  refused : (e : Halt) → Works (make_scope size outer place) m.state.heap (Err e) h
      → Moves (λ after. make_scope size outer place (around after)) m (Err e) (with_heap m h)
  refused (halt.Throw t) w = absurd (made_throws place (scope_made_of m.state.heap size (Some outer)) m.state.heap h (beside_of m.state) t (w.is (told place) 0 (beside_of m.state)))
  refused (halt.Fault c p) w = record { goes = λ last. w.is _ _ _; light = tt }
  refused (halt.LeftOut n p) w = record { goes = λ last. w.is _ _ _; light = tt }
  refused halt.Memory w = record { goes = λ last. tt; light = tt }

  -- where there is no room for a scope the rule stops, whatever would take a throw
  pub scope_refused : (r : Result Now Halt) (e : Halt) → IsErrAnd r (λ x. x ≡ e) → Works (make_scope size outer place) m.state.heap (Err e) h
      → Moves (λ after. make_scope size outer place (around after)) m r (with_heap m h)
  scope_refused (Ok what) e i w = absurd i
  scope_refused (Err x) e i w = subst (λ y. Moves (λ after. make_scope size outer place (around after)) m (Err y) (with_heap m h)) (sym i) (refused e w)
