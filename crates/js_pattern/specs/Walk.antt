-- What it costs to look for the first way of a pattern, by what comes after it. `Offers.antt` says the same by lists.
use Rattle.std.specs.Prelude.{ℕ, zero, suc, ◌+◌, Bool, true, false, Option, Some, None, slice_get}
use Rattle.js_pattern.specs.declared.bounds.Bounds.{Bounds}
use Rattle.js_pattern.specs.Tree.{Tree, unit, any, class, assertion, reference, row, alternatives, group, repeat, Trees, no_tree, a_tree}
use Rattle.js_pattern.specs.Place.{Subject, At, units_left, moved, closed, unset}
use Rattle.js_pattern.specs.Leaves.{behind_unit, behind_any, behind_class, behind_assertion, behind_reference}
use Rattle.js_pattern.specs.Repeats.{is_none_left, one_less, smaller, took_a_unit, choice}

-- how a walk ends: what it cost, and where it came to, if it came to the end of what was to be matched
pub record Outcome : Type 0 where
  pub cost : ℕ
  pub end : Option At

abbrev pub fails : Outcome
fails = record { cost = 0; end = None }

abbrev pub found : At → Outcome
found at = record { cost = 0; end = Some at }

-- a part is taken up
abbrev pub counted : Outcome → Outcome
counted o = record { cost = suc o.cost; end = o.end }

-- the first, and where it fails the other too
abbrev pub or_by : ℕ → Option At → Outcome → Outcome
or_by cost (Some at) o = record { cost = cost; end = Some at }
or_by cost None o = record { cost = cost + o.cost; end = o.end }

abbrev pub or_else : Outcome → Outcome → Outcome
or_else a b = or_by a.cost a.end b

-- what is still to be matched, from a place on (a Continuation of 15.10.2.1)
abbrev pub After : Type 0
After = At → Outcome

-- what comes after goes on at a place, where there is one
abbrev pub forward : Option ℕ → After → At → Outcome
forward None k at = fails
forward (Some p) k at = k (moved p at)

-- the mark behind a group, also where it sets nothing
abbrev pub closing : Option ℕ → ℕ → After → After
closing n from k at = counted (k (closed n from at))

-- ---- Repeat

-- a turn that could have been left out must have taken a unit
abbrev pub marked : Subject → ℕ → ℕ → After → After
marked s zero from k at = choice (took_a_unit s from at) k (λ _. fails) at
marked s (suc least) from k at = k at

-- the mark behind a turn, and then what the smaller Repeat offers, which is taken up too
abbrev pub behind_turn : Subject → ℕ → ℕ → After → After
behind_turn s least from smaller at = counted (marked s least from (λ at. counted (smaller at)) at)

abbrev pub taking_or_leaving : Bool → After → After → After
taking_or_leaving true taking leaving at = or_else (taking at) (leaving at)
taking_or_leaving false taking leaving at = or_else (leaving at) (taking at)

-- the turns that may be left out: each takes a unit, so one more than there are units is enough
abbrev pub may : Subject → (After → After) → Bool → ℕ → Option ℕ → After → After
may s turn greedy zero most k at = fails
may s turn greedy (suc turns) most k at =
    choice (is_none_left most) k
    (taking_or_leaving greedy (λ at. turn (behind_turn s zero at.place (may s turn greedy turns (one_less most) k)) at) k)
    at

-- the turns that must be taken, and then those that may
abbrev pub must : Subject → (After → After) → Bool → ℕ → Option ℕ → After → After
must s turn greedy zero most k at = may s turn greedy (suc (units_left s at.place)) most k at
must s turn greedy (suc least) most k at =
    choice (is_none_left most) k
    (λ at. turn (behind_turn s (suc least) at.place (must s turn greedy least (one_less most) k)) at)
    at

-- ---- the whole

-- `offer` is what a part that was taken up offers, with what comes after it; `walk` takes it up
abbrev mutual
  pub offer : Subject → Tree → After → After
  offer s (unit u) k at = forward (behind_unit s u at.place) k at
  offer s any k at = forward (behind_any s at.place) k at
  offer s (class c) k at = forward (behind_class s c at.place) k at
  offer s (assertion a) k at = forward (behind_assertion s a at.place) k at
  offer s (reference n) k at = forward (behind_reference s (slice_get at.groups n) at.place) k at
  offer s (row xs) k at = row_walk s xs k at
  offer s (alternatives xs) k at = alternatives_walk s xs k at
  offer s (group n x) k at = counted (offer s x (closing n at.place k) at)
  offer s (repeat x b) k at = must s (λ k at. counted (offer s x k (unset b at))) b.greedy b.least b.most k at

  -- terms, one after the other
  pub row_walk : Subject → Trees → After → After
  row_walk s no_tree k at = k at
  row_walk s (a_tree x xs) k at = counted (offer s x (row_walk s xs k) at)

  -- alternatives, up to and with the first that succeeds
  pub alternatives_walk : Subject → Trees → After → After
  alternatives_walk s no_tree k at = fails
  alternatives_walk s (a_tree x xs) k at = or_else (counted (offer s x k at)) (alternatives_walk s xs k at)

abbrev pub walk : Subject → Tree → After → After
walk s x k at = counted (offer s x k at)

-- the turn that a Repeat takes: its part with the groups unset, the mark, the smaller Repeat, and what comes after
abbrev pub taking : Subject → Tree → Bounds → After → After
taking s x b k at = walk s x (behind_turn s b.least at.place (offer s (repeat x (smaller b)) k)) (unset b at)
