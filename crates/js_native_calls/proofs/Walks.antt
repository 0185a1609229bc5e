-- The walk of a native is charged, and then its work follows.
use Rattle.std.proofs.Common.{◌≡◌, ℕ, ◌+◌, ◌-◌, ◌<◌, Bool, true, false, if◌then◌else◌, Ok, Err, Result, refl, ap, sym, subst, ◌∙◌, arith}
use Rattle.std.proofs.lemmas.Bool.{le-ltb, lt-ltb}
use Rattle.std.specs.Prelude.{nat_lt}
use Rattle.std.specs.Result.{IsErrAnd}
use Rattle.js_tree.specs.declared.place.Place.{Place}
use Rattle.heap_values.specs.declared.value.Value.{Value}
use Rattle.heap_values.specs.Views.{HeapView}
use Rattle.run_trees.specs.RunTree.{Done}
use Rattle.run_trees.specs.Runs.{onward, reading, ◌>>◌}
use Rattle.js_evaluation.specs.declared.fault.FaultCode.{FaultCode}
use Rattle.js_evaluation.specs.declared.fault.FaultCode.TheVariants as code
use Rattle.js_evaluation.specs.State.{Faults, Does, charges, fault, AfterValue}
use Rattle.heap_steps.specs.declared.halt.Halt.{Halt}
use Rattle.heap_steps.specs.declared.halt.Halt.TheVariants as halt
use Rattle.heap_steps.specs.Works.{Beside, state_with, plain_fault}
use Rattle.js_frames.specs.RestOf.{rest_of}
use Rattle.js_machine.specs.declared.machine.Machine.{Machine}
use Rattle.js_machine.specs.declared.now.Now.{Now}
use Rattle.js_machine.specs.Moves.{Moves, beside_of, functions_of}
use Rattle.js_natives.specs.Charges.{Charges}
use Rattle.js_native_calls.proofs.Steps.{with_fuel, moves_as}

module _ (n : ℕ) (place : Place) (next : Does Value) where
  -- enough fuel is left
  taken : (after : AfterValue) (h : HeapView) (fuel less : ℕ) (beside : Beside) → less + n ≡ fuel
      → (charges n place >> next) after (state_with h fuel beside) ≡ next after (state_with h less beside)
  taken after h fuel less beside e =
      let enough : nat_lt fuel n ≡ false = le-ltb fuel n (omega arith) in
      let rest : fuel - n ≡ less = omega arith in
      ap (λ (b : Bool). (if b then fault code.FuelSpent place else λ k s. k (Ok tt) (record s { fuel = s.fuel - n })) (onward (λ _. next) after) (state_with h fuel beside)) enough
      ∙ ap (λ m. next after (state_with h m beside)) rest

  -- less is left
  spent : (after : AfterValue) (h : HeapView) (fuel : ℕ) (beside : Beside) → fuel < n
      → (charges n place >> next) after (state_with h fuel beside) ≡ Done (Faults (plain_fault code.FuelSpent place))
  spent after h fuel beside e =
      let less : nat_lt fuel n ≡ true = lt-ltb fuel n e in
      ap (λ (b : Bool). (if b then fault code.FuelSpent place else λ k s. k (Ok tt) (record s { fuel = s.fuel - n })) (onward (λ _. next) after) (state_with h fuel beside)) less

  module _ (m : Machine) (walk : ℕ) (same : walk ≡ n) (left : ℕ) where
    took : Charges walk place m.state.fuel (Ok tt) left → left + n ≡ m.state.fuel
    took c = subst (λ (x : ℕ). left + x ≡ m.state.fuel) same c

    -- the walk costs no more than is left
    pub walk_charged : (r : Result Now Halt) (m' : Machine) → Charges walk place m.state.fuel (Ok tt) left
        → Moves next (with_fuel m left) r m' → Moves (charges n place >> next) m r m'
    walk_charged (Ok what) m' c k = let e = took c in record { goes = λ last. taken _ m.state.heap m.state.fuel left (beside_of m.state) e ∙ k.goes last; light = omega (arith, e, k.light) }
    walk_charged (Err (halt.Throw thrown)) m' c k = let e = took c in record { goes = λ last. taken _ m.state.heap m.state.fuel left (beside_of m.state) e ∙ k.goes last; light = omega (arith, e, k.light) }
    walk_charged (Err (halt.Fault f p)) m' c k = record { goes = λ last. taken _ m.state.heap m.state.fuel left (beside_of m.state) (took c) ∙ k.goes last; light = tt }
    walk_charged (Err (halt.LeftOut name p)) m' c k = record { goes = λ last. taken _ m.state.heap m.state.fuel left (beside_of m.state) (took c) ∙ k.goes last; light = tt }
    walk_charged (Err halt.Memory) m' c k = record { goes = λ last. tt; light = tt }

    stopped : (e : Halt) (m' : Machine) → Charges n place m.state.fuel (Err e) left → Moves (charges n place >> next) m (Err e) m'
    stopped (halt.Throw thrown) m' c = absurd c
    stopped (halt.Fault f p) m' c = record {
      goes = λ last. spent (rest_of (functions_of m) last m.frames).given m.state.heap m.state.fuel (beside_of m.state) c.2
          ∙ ap (λ (x : FaultCode). Done (Faults (plain_fault x place))) (sym c.0) ∙ ap (λ (q : Place). Done (Faults (plain_fault f q))) (sym c.1);
      light = tt;
    }
    stopped (halt.LeftOut name p) m' c = absurd c
    stopped halt.Memory m' c = record { goes = λ last. tt; light = tt }

    -- it costs more, or memory was refused
    pub walk_stopped : (r : Result Now Halt) (e : Halt) (m' : Machine) → IsErrAnd r (λ x. x ≡ e) → Charges walk place m.state.fuel (Err e) left
        → Moves (charges n place >> next) m r m'
    walk_stopped (Ok what) e m' i c = absurd i
    walk_stopped (Err x) e m' i c =
        subst (λ y. Moves (charges n place >> next) m (Err y) m') (sym i) (stopped e m' (subst (λ (w : ℕ). Charges w place m.state.fuel (Err e) left) same c))

-- a walk in the heap as it is
pub walk_read : (walk : HeapView → ℕ) (place : Place) (next : Does Value) (m : Machine) (r : Result Now Halt) (m' : Machine)
    → Moves (charges (walk m.state.heap) place >> next) m r m' → Moves (reading (λ s. charges (walk s.heap) place) >> next) m r m'
walk_read walk place next m r m' k =
    moves_as (reading (λ s. charges (walk s.heap) place) >> next) m (charges (walk m.state.heap) place >> next) r m' (λ after. refl) k
