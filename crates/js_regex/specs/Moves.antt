-- What the steps of a match keep: how it ends from where it stands.
use Rattle.std.specs.Prelude.{◌≡◌, ◌<◌, ◌-◌, ◌⊎◌, ℕ, List, [], ◌∷◌, Option, Some, None}
use Rattle.js_pattern.specs.declared.span.Span.{Span}
use Rattle.js_pattern.specs.Tree.{Tree, Trees, repeat, trees_of}
use Rattle.js_pattern.specs.Place.{Subject, At, closed}
use Rattle.js_pattern.specs.Repeats.{smaller}
use Rattle.js_pattern.specs.Walk.{Outcome, After, fails, found, counted, or_else, marked, offer, row_walk}
use Rattle.js_regex.specs.declared.step.Pending.{Pending}
use Rattle.js_regex.specs.declared.step.Undo.{Undo}
use Rattle.js_regex.specs.declared.step.Undo.TheVariants as undo
use Rattle.js_regex.specs.declared.step.Step.{Step}
use Rattle.js_regex.specs.declared.step.Step.TheVariants as step
use Rattle.js_regex.specs.declared.state.State.{State}
use Rattle.js_regex.specs.Stacks.{after, back_from, leaving, noted}

-- the place and the groups
abbrev pub here : State → At
here m = record { place = m.place; groups = m.groups }

-- how the match ends if it goes back
abbrev pub back_of : Subject → State → Outcome
back_of s m = back_from s m.undo m.pending m.groups

-- what the part or the mark that comes next offers, or what the match goes on with
abbrev pub offer_of : Subject → State → Step → Outcome
offer_of s m (step.Part x xs) = offer s x.now (row_walk s (trees_of xs.now) (after s m.pending)) (here m)
offer_of s m (step.Repeat x b) = offer s (repeat x.now b) (after s m.pending) (here m)
offer_of s m (step.Close n from) = after s m.pending (closed n from (here m))
offer_of s m (step.Turn x b from) = marked s b.least from (λ at. counted (offer s (repeat x.now (smaller b)) (after s m.pending) at)) (here m)
offer_of s m (step.Turns x b) = offer s (repeat x.now b) (after s m.pending) (here m)
offer_of s m (step.Leave from last) = leaving (after s m.pending) m.groups last (last - from)
offer_of s m (step.On xs) = row_walk s (trees_of xs.now) (after s m.pending) (here m)
offer_of s m step.Back = fails

-- a part and a mark count when they are taken up
abbrev pub counted_by : Step → Outcome → Outcome
counted_by (step.Part x xs) o = counted o
counted_by (step.Repeat x b) o = counted o
counted_by (step.Close n from) o = counted o
counted_by (step.Turn x b from) o = counted o
counted_by (step.Turns x b) o = o
counted_by (step.Leave from last) o = o
counted_by (step.On xs) o = o
counted_by step.Back o = o

-- how the match ends from here
abbrev pub outcome_of : Subject → State → Step → Outcome
outcome_of s m next = or_else (counted_by next (offer_of s m next)) (back_of s m)

-- steps that take no fuel: at most three follow one another
abbrev pub weight : Step → ℕ
weight (step.Part x xs) = 0
weight (step.Repeat x b) = 0
weight (step.Close n from) = 0
weight (step.Turn x b from) = 0
weight (step.Turns x b) = 3
weight (step.Leave from last) = 2
weight (step.On xs) = 1
weight step.Back = 3

-- the match ends with this outcome, and where that fails as it does if it goes back
abbrev pub EndsAs : Outcome → Subject → State → State → Step → Type 0
EndsAs o s m n next = outcome_of s n next ≡ or_else o (back_of s m)

-- it ends with what a part or a mark offers that is taken up
abbrev pub Follows : Subject → State → Step → State → Step → Type 0
Follows s m taken n next = EndsAs (offer_of s m taken) s m n next

-- it ends as f does from here, before what is pending
abbrev pub GoesOn : (Subject → After → After) → State → State → Step → Type 0
GoesOn f m n next = (s : Subject) → EndsAs (f s (after s m.pending) (here m)) s m n next

-- the same, with terms before what is pending
abbrev pub GoesOnBefore : (Subject → After → After) → Trees → State → State → Step → Type 0
GoesOnBefore f xs m n next = GoesOn (λ s k. f s (row_walk s xs k)) m n next

-- it ends as a part does that is taken up, with terms behind it in its row
abbrev pub TakesUp : Tree → Trees → State → State → Step → Type 0
TakesUp x xs m n next = GoesOnBefore (λ s. offer s x) xs m n next

-- it ends as f does from here, and begins with a part
pub record Begins (f : Subject → After → After) (m n : State) (next : Step) : Type 0 where
  pub goes : GoesOn f m n next
  pub light : weight next ≡ 0

-- the part or the mark behind these terms is taken up, or the match is at its end
abbrev pub TakesNext : Trees → State → Option Step → State → Type 0
TakesNext xs m None n = (s : Subject) → or_else (row_walk s xs (after s m.pending) (here m)) (back_of s m) ≡ or_else (found (here n)) (back_of s n)
TakesNext xs m (Some next) n = GoesOn (λ s. row_walk s xs) m n next × (weight next ≡ 0)

-- the match goes on where it goes back to, or nothing is left to be tried
abbrev pub GoesBack : State → Option Step → State → Type 0
GoesBack m None n = (s : Subject) → back_of s m ≡ fails
GoesBack m (Some next) n = ((s : Subject) → outcome_of s n next ≡ back_of s m) × (weight next < 3)

-- a change is noted, or nothing is left to be tried
abbrev pub Logs : Undo → List Undo → List Undo → Type 0
Logs u us vs = (vs ≡ u ∷ us) ⊎ ((us ≡ []) × (vs ≡ []))

-- that this was taken from the top is noted, or that it was put there needs no note any more
abbrev pub LogsPopped : Pending → List Undo → List Undo → Type 0
LogsPopped p us vs = Logs (noted p) us vs ⊎ (us ≡ undo.Pushed ∷ vs)

-- ---- changes of a state that are undone where the match goes back; all else stays as it was

-- this is put on top of what is pending
pub record Pushes (p : Pending) (m n : State) : Type 0 where
  pub place : n.place ≡ m.place
  pub groups : n.groups ≡ m.groups
  pub pending : n.pending ≡ p ∷ m.pending
  pub back : (s : Subject) → back_of s n ≡ back_of s m

-- this was taken from the top of what is pending
pub record Pops (p : Pending) (m n : State) : Type 0 where
  pub place : n.place ≡ m.place
  pub groups : n.groups ≡ m.groups
  pub pending : m.pending ≡ p ∷ n.pending
  pub back : (s : Subject) → back_of s n ≡ back_of s m

-- terms stand on top of what is pending
pub record Saves (xs : Trees) (m n : State) : Type 0 where
  pub place : n.place ≡ m.place
  pub groups : n.groups ≡ m.groups
  pub pending : (s : Subject) → after s n.pending ≡ row_walk s xs (after s m.pending)
  pub back : (s : Subject) → back_of s n ≡ back_of s m

-- the groups are these
pub record Sets (gs : List (Option Span)) (m n : State) : Type 0 where
  pub place : n.place ≡ m.place
  pub groups : n.groups ≡ gs
  pub pending : n.pending ≡ m.pending
  pub back : (s : Subject) → back_of s n ≡ back_of s m
