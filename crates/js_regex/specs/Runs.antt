-- How a run of a match ends, and what it leaves of the fuel.
use Rattle.std.specs.Prelude.{◌≡◌, ℕ, ◌+◌, ◌*◌, ◌<◌, ◌≤◌, Bool, true, false, Some, None, Result, Ok, Err}
use Rattle.js_pattern.specs.Tree.{Tree}
use Rattle.js_pattern.specs.Place.{Subject}
use Rattle.js_pattern.specs.Walk.{Outcome, or_else, walk}
use Rattle.js_regex.specs.declared.answer.FindAnswer.{FindAnswer}
use Rattle.js_regex.specs.declared.answer.FindAnswer.TheVariants as answer
use Rattle.js_regex.specs.declared.state.State.{State}
use Rattle.js_regex.specs.Stacks.{after}
use Rattle.js_regex.specs.declared.step.Step.{Step}
use Rattle.js_regex.specs.Moves.{here, back_of, outcome_of, weight}

-- how a match of a tree ends that begins in a state
abbrev pub outcome_from : Subject → Tree → State → Outcome
outcome_from s x m = or_else (walk s x (after s m.pending) (here m)) (back_of s m)

-- the outcome, the fuel before, the answer, the fuel and the state behind
abbrev pub Ran : Outcome → ℕ → Result Bool FindAnswer → ℕ → State → Type 0
Ran o f (Ok true) g m = (o.cost + g ≡ f) × (o.end ≡ Some (here m))
Ran o f (Ok false) g m = (o.cost + g ≡ f) × (o.end ≡ None)
Ran o f (Err answer.Spent) g m = (f < o.cost) × (g ≤ f)
Ran o f (Err answer.Memory) g m = g ≤ f

-- what is taken from the fuel, or that there is less of it
abbrev pub Spends : ℕ → ℕ → Result (Unit {0}) FindAnswer → ℕ → Type 0
Spends cost f (Ok done) g = cost + g ≡ f
Spends cost f (Err answer.Spent) g = (f < cost) × (g ≡ f)
Spends cost f (Err answer.Memory) g = ⊥

-- the outcome of the whole and the fuel before it, by the outcome from here on and the fuel that is left
pub record IsLater (o : Outcome) (f : ℕ) (p : Outcome) (g : ℕ) : Type 0 where
  pub cost : o.cost + g ≡ f + p.cost
  pub end : o.end ≡ p.end
  pub less : g ≤ f

-- a step that takes fuel of its own, with its weight: what the match goes on with, and the fuel and the state behind it
abbrev pub Goes : Subject → Outcome → ℕ → ℕ → Result Step FindAnswer → ℕ → State → Type 0
Goes s o w f (Ok next) g m = IsLater o f (outcome_of s m next) g × (4 * g + weight next < 4 * f + w)
Goes s o w f (Err answer.Spent) g m = (f < o.cost) × (g ≤ f)
Goes s o w f (Err answer.Memory) g m = g ≤ f
