-- Steps of rules that do something to the heap and visit nothing.
use Rattle.std.proofs.Common.{◌≡◌, ℕ, ◌+◌, Ok, Err, Result, subst, sym, ap, ◌∙◌, arith}
use Rattle.std.specs.Result.{IsErrAnd}
use Rattle.js_tree.specs.declared.place.Place.{Place}
use Rattle.heap_values.specs.declared.value.Value.{Value}
use Rattle.heap_values.specs.Views.{HeapView}
use Rattle.run_trees.specs.RunTree.{Done}
use Rattle.run_trees.specs.Runs.{pure, ◌>>◌}
use Rattle.js_evaluation.specs.declared.fault.FaultCode.TheVariants as code
use Rattle.js_evaluation.specs.State.{Faults, Does, charge, AfterValue}
use Rattle.js_frames.specs.Rests.{Rest, DoesEither, giving, either_after, ◌>=>◌}
use Rattle.js_frames.specs.RestOf.{rest_of}
use Rattle.heap_steps.specs.declared.halt.Halt.{Halt}
use Rattle.heap_steps.specs.declared.halt.Halt.TheVariants as halt
use Rattle.heap_steps.specs.Works.{Works, plain_fault}
use Rattle.js_machine.specs.declared.machine.Machine.{Machine}
use Rattle.js_machine.specs.declared.now.Now.{Now}
use Rattle.js_machine.specs.declared.now.Now.TheVariants as now
use Rattle.js_machine.specs.Moves.{Leads, Moves, run_state, functions_of, beside_of}
use Rattle.js_machine.proofs.Steps.{with_heap, charge_some, charge_none}

-- what a step does from another part and machine, it does from these
abbrev pub CarriesEither : DoesEither → Machine → DoesEither → Machine → Type 0
CarriesEither part m next m' = (r : Result Now Halt) (m'' : Machine) → Leads next m' r m'' → Leads part m r m''

abbrev pub Carries : Does Value → Machine → Does Value → Machine → Type 0
Carries part m next m' = CarriesEither (giving part) m (giving next) m'

-- the machine with so much fuel
abbrev pub with_fuel : Machine → ℕ → Machine
with_fuel m fuel = record m { state = record m.state { fuel = fuel } }

-- a value that is given
pub gives_value : (m : Machine) (v w : Value) → w ≡ v → Moves (pure w) m (Ok (now.Back (Ok v))) m
gives_value m v w e = record { goes = λ last. ap (λ x. (rest_of (functions_of m) last m.frames).given (Ok x) (run_state m.state)) e; light = omega arith }

-- ---- parts that give a value or refer to something

module _ (part : DoesEither) (m : Machine) where
  -- a part that is the same at this machine
  pub leads_as : (next : DoesEither) (r : Result Now Halt) (m' : Machine) → ((rest : Rest) → part rest (run_state m.state) ≡ next rest (run_state m.state))
      → Leads next m r m' → Leads part m r m'
  leads_as next (Ok what) m' e k = record { goes = λ last. e _ ∙ k.goes last; light = k.light }
  leads_as next (Err (halt.Throw thrown)) m' e k = record { goes = λ last. e _ ∙ k.goes last; light = k.light }
  leads_as next (Err (halt.Fault c p)) m' e k = record { goes = λ last. e _ ∙ k.goes last; light = tt }
  leads_as next (Err (halt.LeftOut n p)) m' e k = record { goes = λ last. e _ ∙ k.goes last; light = tt }
  leads_as next (Err halt.Memory) m' e k = record { goes = λ last. tt; light = tt }

  module _ (place : Place) where
    module _ (less : ℕ) (taken : less + 1 ≡ m.state.fuel) where
      from_charge : (rest : Rest) → charge place (either_after (λ _. part) rest) (run_state m.state) ≡ part rest (run_state (with_fuel m less).state)
      from_charge rest = charge_some place (λ _. part rest) rest.given m.state.heap m.state.fuel less (beside_of m.state) taken

      -- a charge, and then the part
      pub charged_either : (r : Result Now Halt) (m' : Machine) → Leads part (with_fuel m less) r m' → Leads (charge place >=> (λ _. part)) m r m'
      charged_either (Ok what) m' k = record { goes = λ last. from_charge _ ∙ k.goes last; light = omega (arith, taken, k.light) }
      charged_either (Err (halt.Throw thrown)) m' k = record { goes = λ last. from_charge _ ∙ k.goes last; light = omega (arith, taken, k.light) }
      charged_either (Err (halt.Fault c p)) m' k = record { goes = λ last. from_charge _ ∙ k.goes last; light = tt }
      charged_either (Err (halt.LeftOut n p)) m' k = record { goes = λ last. from_charge _ ∙ k.goes last; light = tt }
      charged_either (Err halt.Memory) m' k = record { goes = λ last. tt; light = tt }

    from_none : m.state.fuel ≡ 0 → (rest : Rest) → charge place (either_after (λ _. part) rest) (run_state m.state) ≡ Done (Faults (plain_fault code.FuelSpent place))
    from_none none rest = charge_none place (λ _. part rest) rest.given m.state.heap m.state.fuel (beside_of m.state) none

    -- no fuel is left
    pub spent_either : (r : Result Now Halt) (e : Halt) (m' : Machine) → IsErrAnd r (λ x. x ≡ e) → (e ≡ halt.Fault code.FuelSpent place) × (m.state.fuel ≡ 0) → Leads (charge place >=> (λ _. part)) m r m'
    spent_either (Ok what) e m' i h = absurd i
    spent_either (Err x) e m' i h = subst (λ y. Leads (charge place >=> (λ _. part)) m (Err y) m') (sym (i ∙ h.0))
        (record { goes = λ last. from_none h.1 _; light = tt })

module _ (part : Does Value) (m : Machine) where
  -- ---- a part that is done at once

  -- its value is given back
  pub works_back : (v : Value) (h : HeapView) → Works part m.state.heap (Ok v) h → Moves part m (Ok (now.Back (Ok v))) (with_heap m h)
  works_back v h w = record { goes = λ last. w.is _ _ _; light = omega arith }

  ends : (e : Halt) (h : HeapView) → Works part m.state.heap (Err e) h → Moves part m (Err e) (with_heap m h)
  ends (halt.Throw thrown) h w = record { goes = λ last. w.is _ _ _; light = omega arith }
  ends (halt.Fault c p) h w = record { goes = λ last. w.is _ _ _; light = tt }
  ends (halt.LeftOut n p) h w = record { goes = λ last. w.is _ _ _; light = tt }
  ends halt.Memory h w = record { goes = λ last. tt; light = tt }

  -- where it stops, so does the rule
  pub works_ends : (r : Result Now Halt) (e : Halt) (h : HeapView) → IsErrAnd r (λ x. x ≡ e) → Works part m.state.heap (Err e) h → Moves part m r (with_heap m h)
  works_ends (Ok what) e h i w = absurd i
  works_ends (Err x) e h i w = subst (λ y. Moves part m (Err y) (with_heap m h)) (sym i) (ends e h w)

  -- ---- parts that are the same at this machine

  -- a part that gives a value and changes nothing
  pub gives : (v : Value) → ((after : AfterValue) → part after (run_state m.state) ≡ after (Ok v) (run_state m.state)) → Moves part m (Ok (now.Back (Ok v))) m
  gives v e = record { goes = λ last. e _; light = omega arith }

  pub moves_as : (next : Does Value) (r : Result Now Halt) (m' : Machine) → ((after : AfterValue) → part after (run_state m.state) ≡ next after (run_state m.state))
      → Moves next m r m' → Moves part m r m'
  moves_as next r m' e = leads_as (giving part) m (giving next) r m' (λ rest. e rest.given)

  -- ---- a charge, and then a part

  module _ (place : Place) where
    pub charged : (less : ℕ) → less + 1 ≡ m.state.fuel → (r : Result Now Halt) (m' : Machine) → Moves part (with_fuel m less) r m' → Moves (charge place >> part) m r m'
    charged = charged_either (giving part) m place

    -- no fuel is left
    pub spent : (r : Result Now Halt) (e : Halt) (m' : Machine) → IsErrAnd r (λ x. x ≡ e) → (e ≡ halt.Fault code.FuelSpent place) × (m.state.fuel ≡ 0) → Moves (charge place >> part) m r m'
    spent = spent_either (giving part) m place
