-- Parts that do something to the state of a run, one after another.
use Rattle.std.proofs.Common.{◌≡◌, Ok, Err, Result, subst, sym, refl, ◌∙◌, arith}
use Rattle.std.specs.Result.{IsErrAnd}
use Rattle.heap_values.specs.Views.{HeapView}
use Rattle.run_trees.specs.Runs.{After, pure, ◌>>=◌}
use Rattle.js_evaluation.specs.State.{RunState, RunEnd, Stop, Does}
use Rattle.heap_steps.specs.declared.halt.Halt.{Halt}
use Rattle.heap_steps.specs.declared.halt.Halt.TheVariants as halt
use Rattle.heap_steps.specs.Works.{Works}
use Rattle.js_machine.specs.declared.machine.State.{State}
use Rattle.js_machine.specs.Moves.{beside_of, run_state}
use Rattle.js_machine.specs.Acts.{Acts}

-- want of memory promises nothing
pub forgets_all : {A : Type 0} {part : Does A} {s s' : State} (r : Result A Halt) (e : Halt)
    → IsErrAnd r (λ x. x ≡ e) → e ≡ halt.Memory → Acts part s r s'
forgets_all (Ok v) e i k = absurd i
forgets_all {part = part} {s = s} {s' = s'} (Err x) e i k = subst (λ y. Acts part s (Err y) s') (sym (i ∙ k)) (record { is = tt; less = tt })

-- the state with another heap
abbrev pub with_heap : State → HeapView → State
with_heap s h = record s { heap = h }

-- a part that works on the heap alone
pub on_heap : {A : Type 0} {part : Does A} (s : State) (r : Result A Halt) (h : HeapView) → Works part s.heap r h → Acts part s r (with_heap s h)
on_heap s (Ok v) h w = record { is = λ after. w.is after s.fuel (beside_of s); less = omega arith }
on_heap s (Err (halt.Throw t)) h w = record { is = λ after. w.is after s.fuel (beside_of s); less = omega arith }
on_heap s (Err (halt.Fault c place)) h w = record { is = λ after. w.is after s.fuel (beside_of s); less = tt }
on_heap s (Err (halt.LeftOut name place)) h w = record { is = λ after. w.is after s.fuel (beside_of s); less = tt }
on_heap s (Err halt.Memory) h w = record { is = tt; less = tt }

-- a value that is given at once
pub at_once : {A : Type 0} (v : A) (s : State) → Acts (pure v) s (Ok v) s
at_once v s = record { is = λ after. refl; less = omega arith }

module _ {A B : Type 0} (part : Does A) (next : A → Does B) (s s₁ : State) where
  -- where the part gives a value, the next goes on
  pub goes_on : (v : A) (r : Result B Halt) (s' : State) → Acts part s (Ok v) s₁ → Acts (next v) s₁ r s' → Acts (part >>= next) s r s'
  goes_on v (Ok w) s' p n = record { is = λ after. p.is _ ∙ n.is after; less = omega (arith, p.less, n.less) }
  goes_on v (Err (halt.Throw t)) s' p n = record { is = λ after. p.is _ ∙ n.is after; less = omega (arith, p.less, n.less) }
  goes_on v (Err (halt.Fault c place)) s' p n = record { is = λ after. p.is _ ∙ n.is after; less = tt }
  goes_on v (Err (halt.LeftOut name place)) s' p n = record { is = λ after. p.is _ ∙ n.is after; less = tt }
  goes_on v (Err halt.Memory) s' p n = record { is = tt; less = tt }

  stopped : (e : Halt) → Acts part s (Err e) s₁ → Acts (part >>= next) s (Err e) s₁
  stopped (halt.Throw t) p = record { is = λ after. p.is _; less = p.less }
  stopped (halt.Fault c place) p = record { is = λ after. p.is _; less = tt }
  stopped (halt.LeftOut name place) p = record { is = λ after. p.is _; less = tt }
  stopped halt.Memory p = record { is = tt; less = tt }

  -- where it stops, the whole does
  pub stops_all : (r : Result B Halt) (e : Halt) → IsErrAnd r (λ x. x ≡ e) → Acts part s (Err e) s₁ → Acts (part >>= next) s r s₁
  stops_all (Ok w) e i p = absurd i
  stops_all (Err x) e i p = subst (λ y. Acts (part >>= next) s (Err y) s₁) (sym i) (stopped e p)

-- what a part does, each part does that is the same in this state
pub as_acts : {A : Type 0} {p q : Does A} {s s' : State} (r : Result A Halt)
    → ((after : After RunState Stop RunEnd A) → p after (run_state s) ≡ q after (run_state s)) → Acts q s r s' → Acts p s r s'
as_acts (Ok v) e w = record { is = λ after. e after ∙ w.is after; less = w.less }
as_acts (Err (halt.Throw t)) e w = record { is = λ after. e after ∙ w.is after; less = w.less }
as_acts (Err (halt.Fault c place)) e w = record { is = λ after. e after ∙ w.is after; less = tt }
as_acts (Err (halt.LeftOut name place)) e w = record { is = λ after. e after ∙ w.is after; less = tt }
as_acts (Err halt.Memory) e w = record { is = tt; less = tt }
