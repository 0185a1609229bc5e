-- The names of a `for`-`in` loop, which are charged one after another.
use Rattle.std.proofs.Common.{◌≡◌, ℕ, ◌+◌, ◌<◌, ◌≤◌, List, ◌∷◌, length, get_or, drop, Ok, Err, Result, subst, ap, sym, ◌∙◌, arith}
use Rattle.std.proofs.lemmas.List.{drop_more}
use Rattle.std.specs.Result.{IsErrAnd}
use Rattle.js_tree.specs.declared.place.Place.{Place}
use Rattle.heap_values.specs.Views.{HeapView}
use Rattle.run_trees.specs.Runs.{After, onward, ◌>>◌}
use Rattle.js_evaluation.specs.declared.fault.FaultCode.TheVariants as code
use Rattle.js_evaluation.specs.State.{RunState, RunEnd, Stop, Does, charge, spend}
use Rattle.heap_steps.specs.declared.halt.Halt.{Halt}
use Rattle.heap_steps.specs.declared.halt.Halt.TheVariants as halt
use Rattle.heap_steps.specs.Works.{Works}
use Rattle.js_machine.specs.declared.machine.State.{State}
use Rattle.js_machine.specs.Moves.{beside_of, run_state}
use Rattle.js_machine.proofs.Steps.{charge_some, charge_none}
use Rattle.js_machine.specs.Acts.{Acts}

-- the names that are left begin with this one
pub next_of : (names : List (List ℕ)) (i : ℕ) (name : List ℕ) → name ≡ get_or names i name → i < length names → drop i names ≡ name ∷ drop (i + 1) names
next_of names i name e h = drop_more names i name h ∙ ap (λ (x : List ℕ). x ∷ drop (i + 1) names) (sym e)

-- what is left does to the state what the whole does
pub acts_from : {A : Type 0} {part rest : Does A} {s₀ s s' : State} (r : Result A Halt)
    → ((after : After RunState Stop RunEnd A) → part after (run_state s₀) ≡ rest after (run_state s)) → s.fuel ≤ s₀.fuel
    → Acts rest s r s' → Acts part s₀ r s'
acts_from (Ok v) e h k = record { is = λ after. e after ∙ k.is after; less = omega (arith, h, k.less) }
acts_from (Err (halt.Throw t)) e h k = record { is = λ after. e after ∙ k.is after; less = omega (arith, h, k.less) }
acts_from (Err (halt.Fault c p)) e h k = record { is = λ after. e after ∙ k.is after; less = tt }
acts_from (Err (halt.LeftOut n p)) e h k = record { is = λ after. e after ∙ k.is after; less = tt }
acts_from (Err halt.Memory) e h k = record { is = tt; less = tt }

-- the state with another heap, and less fuel
abbrev pub state_of : State → HeapView → ℕ → State
state_of s h fuel = record s { heap = h; fuel = fuel }

module _ {A : Type 0} (place : Place) (next : Does A) (s s' : State) where
  -- no fuel is left
  pub spent : (r : Result A Halt) (e : Halt) → IsErrAnd r (λ x. x ≡ e) → (e ≡ halt.Fault code.FuelSpent place) × (s.fuel ≡ 0)
      → Acts (charge place >> next) s r s'
  spent (Ok v) e i h = absurd i
  spent (Err x) e i h = subst (λ y. Acts (charge place >> next) s (Err y) s') (sym (i ∙ h.0)) (record {
    is = λ after. charge_none place next after s.heap s.fuel (beside_of s) h.1;
    less = tt;
  })

module _ {A : Type 0} (place : Place) (name : List ℕ) (next : Does A) (s : State) (h : HeapView) (less : ℕ) where
  -- a name is charged, and is a text that is made
  pub name_charged : less + 1 ≡ s.fuel → Works (spend name place) s.heap (Ok tt) h → (after : After RunState Stop RunEnd A)
      → (charge place >> spend name place >> next) after (run_state s) ≡ next after (run_state (state_of s h less))
  name_charged e w after =
      charge_some place (spend name place) (onward (λ _. next) after) s.heap s.fuel less (beside_of s) e ∙ w.is (onward (λ _. next) after) less (beside_of s)

  name_stops : (e : Halt) → less + 1 ≡ s.fuel → Works (spend name place) s.heap (Err e) h
      → Acts (charge place >> spend name place >> next) s (Err e) (state_of s h less)
  name_stops (halt.Throw t) f w = record {
    is = λ after. charge_some place (spend name place) (onward (λ _. next) after) s.heap s.fuel less (beside_of s) f ∙ w.is (onward (λ _. next) after) less (beside_of s);
    less = omega (arith, f);
  }
  name_stops (halt.Fault c p) f w = record {
    is = λ after. charge_some place (spend name place) (onward (λ _. next) after) s.heap s.fuel less (beside_of s) f ∙ w.is (onward (λ _. next) after) less (beside_of s);
    less = tt;
  }
  name_stops (halt.LeftOut n p) f w = record {
    is = λ after. charge_some place (spend name place) (onward (λ _. next) after) s.heap s.fuel less (beside_of s) f ∙ w.is (onward (λ _. next) after) less (beside_of s);
    less = tt;
  }
  name_stops halt.Memory f w = record { is = tt; less = tt }

  -- its text is refused
  pub name_refused : (r : Result A Halt) (e : Halt) → IsErrAnd r (λ x. x ≡ e) → less + 1 ≡ s.fuel → Works (spend name place) s.heap (Err e) h
      → Acts (charge place >> spend name place >> next) s r (state_of s h less)
  name_refused (Ok v) e i f w = absurd i
  name_refused (Err x) e i f w = subst (λ y. Acts (charge place >> spend name place >> next) s (Err y) (state_of s h less)) (sym i) (name_stops e f w)
