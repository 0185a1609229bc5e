-- What holds of ways and walks.
use Rattle.std.specs.Prelude.{◌≡◌, ℕ, zero, suc, Bool, List, [], ◌∷◌, Option, Some, None}
use Rattle.js_pattern.specs.declared.bounds.Bounds.{Bounds}
use Rattle.js_pattern.specs.Tree.{Tree, repeat}
use Rattle.js_pattern.specs.Place.{Subject, At, unset}
use Rattle.js_pattern.specs.Repeats.{is_none_left, smaller, choice}
use Rattle.js_pattern.specs.Ways.{each_then, kept, taking_and_leaving, ways}
use Rattle.js_pattern.specs.Walk.{found, walk}

abbrev pub first : List At → Option At
first [] = None
first (at ∷ more) = Some at

-- a walk with nothing behind the pattern comes to its first way
abbrev pub WalkEndsAtFirstWay : Type 0
WalkEndsAtFirstWay = (s : Subject) (x : Tree) (at : At) → (walk s x found at).end ≡ first (ways s x at)

-- a turn that may be left out is dropped where it took no unit
abbrev pub turn_ways : ℕ → Subject → ℕ → List At → List At
turn_ways zero s from ws = kept s from ws
turn_ways (suc least) s from ws = ws

-- it can be left only where no turn must be taken
abbrev pub and_leaving : ℕ → Bool → List At → At → List At
and_leaving zero greedy taking at = taking_and_leaving greedy taking (at ∷ [])
and_leaving (suc least) greedy taking at = taking

-- the ways of a Repeat are those of a turn, each followed by the ways of the smaller Repeat, and leaving
abbrev pub RepeatByTurns : Type 0
RepeatByTurns = (s : Subject) (x : Tree) (b : Bounds) (at : At) → ways s (repeat x b) at ≡
    choice (is_none_left b.most)
    (λ at. at ∷ [])
    (λ at. and_leaving b.least b.greedy (each_then (ways s (repeat x (smaller b))) (turn_ways b.least s at.place (ways s x (unset b at)))) at)
    at
