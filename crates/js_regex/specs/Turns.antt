-- The turns of a Repeat of one unit, and where it can be left.
use Rattle.std.specs.Prelude.{◌≡◌, ◌<◌, ◌≤◌, ◌-◌, ◌⊎◌, ℕ, true, List, Option, Some, None, Result, Ok, Err}
use Rattle.js_pattern.specs.declared.span.Span.{Span}
use Rattle.js_pattern.specs.declared.bounds.Bounds.{Bounds}
use Rattle.js_pattern.specs.Tree.{Tree, repeat}
use Rattle.js_pattern.specs.Place.{Subject}
use Rattle.js_pattern.specs.Repeats.{is_none_left}
use Rattle.js_pattern.specs.Walk.{Outcome, After, or_else, offer}
use Rattle.js_regex.specs.declared.answer.FindAnswer.{FindAnswer}
use Rattle.js_regex.specs.declared.answer.FindAnswer.TheVariants as answer
use Rattle.js_regex.specs.declared.state.State.{State}
use Rattle.js_regex.specs.declared.turns.Turning.{Turning}
use Rattle.js_regex.specs.Moves.{back_of}
use Rattle.js_regex.specs.Runs.{IsLater}
use Rattle.js_regex.specs.Singles.{is_single}
use Rattle.js_regex.specs.Stacks.{after, leaving}

-- a turn takes one unit and changes no group, and as many turns are taken as can be
pub record IsPlain (x : Tree) (b : Bounds) : Type 0 where
  pub single : is_single x ≡ true
  pub greedy : b.greedy ≡ true
  pub groups : b.to_group - b.from_group ≡ 0

-- the turns that must be taken are taken
abbrev pub IsFree : Bounds → Type 0
IsFree b = (b.least ≡ 0) ⊎ (is_none_left b.most ≡ true)

-- what a Repeat offers from where it stands, and what is tried where that fails
abbrev pub repeat_from : Subject → Tree → After → List (Option Span) → Outcome → Turning → Outcome
repeat_from s x k gs back t = or_else (offer s (repeat x t.bounds) k (record { place = t.place; groups = gs })) back

-- whatever comes after and whatever is tried where that fails, the Repeat goes on from a later turn
abbrev pub TurnsTo : Subject → Tree → Turning → ℕ → Turning → ℕ → Type 0
TurnsTo s x t f u g = (k : After) (gs : List (Option Span)) (back : Outcome) → IsLater (repeat_from s x k gs back t) f (repeat_from s x k gs back u) g

-- there is less fuel than the Repeat takes
abbrev pub TurnsStop : Subject → Tree → Turning → ℕ → FindAnswer → ℕ → Type 0
TurnsStop s x t f answer.Spent g = ((k : After) (gs : List (Option Span)) (back : Outcome) → f < (repeat_from s x k gs back t).cost) × (g ≤ f)
TurnsStop s x t f answer.Memory g = g ≤ f

-- a turn that must be taken fails
abbrev pub TurnsFail : Subject → Tree → Turning → ℕ → ℕ → Type 0
TurnsFail s x t f g = (k : After) (gs : List (Option Span)) (back : Outcome) → IsLater (repeat_from s x k gs back t) f back g

-- the turns that must be taken: the Repeat before them, the fuel, the answer, the fuel behind
abbrev pub TakesLeast : Subject → Tree → Turning → ℕ → Result (Option Turning) FindAnswer → ℕ → Type 0
TakesLeast s x t f (Ok (Some u)) g = TurnsTo s x t f u g × IsPlain x u.bounds × IsFree u.bounds
TakesLeast s x t f (Ok None) g = TurnsFail s x t f g × (g < f)
TakesLeast s x t f (Err e) g = TurnsStop s x t f e g

-- the turns that may be taken: the Repeat is left behind the last, or behind one before it
abbrev pub TakesMost : Subject → Tree → Turning → ℕ → Result ℕ FindAnswer → ℕ → Type 0
TakesMost s x t f (Ok last) g = (k : After) (gs : List (Option Span)) (back : Outcome)
    → IsLater (repeat_from s x k gs back t) f (or_else (leaving k gs last (last - t.place)) back) g
TakesMost s x t f (Err e) g = TurnsStop s x t f e g

-- a Repeat is left from the last place of some at which what is pending doesn't fail at once
abbrev pub leaving_from : Subject → State → ℕ → ℕ → Outcome
leaving_from s m from last = or_else (leaving (after s m.pending) m.groups last (last - from)) (back_of s m)

abbrev pub IsOpen : Subject → State → ℕ → ℕ → ℕ → Result (Option ℕ) FindAnswer → ℕ → Type 0
IsOpen s m from last f (Ok (Some place)) g = IsLater (leaving_from s m from last) f (leaving_from s m from place) g
IsOpen s m from last f (Ok None) g = IsLater (leaving_from s m from last) f (back_of s m) g × (g < f)
IsOpen s m from last f (Err answer.Spent) g = (f < (leaving_from s m from last).cost) × (g ≤ f)
IsOpen s m from last f (Err answer.Memory) g = g ≤ f
