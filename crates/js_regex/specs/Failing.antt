-- Walks that fail whatever comes after: what they cost.
use Rattle.std.specs.Prelude.{◌≡◌, ℕ, List, Option, None}
use Rattle.js_pattern.specs.declared.span.Span.{Span}
use Rattle.js_pattern.specs.Tree.{Tree, Trees}
use Rattle.js_pattern.specs.Place.{Subject}
use Rattle.js_pattern.specs.Walk.{Outcome, After, row_walk, walk}

abbrev pub failed : ℕ → Outcome
failed cost = record { cost = cost; end = None }

-- terms, one after the other
abbrev pub RowFails : Subject → Trees → ℕ → ℕ → Type 0
RowFails s xs place cost = (k : After) (gs : List (Option Span)) → row_walk s xs k (record { place = place; groups = gs }) ≡ failed cost

-- a whole pattern
abbrev pub WalkFails : Subject → Tree → ℕ → ℕ → Type 0
WalkFails s x place cost = (k : After) (gs : List (Option Span)) → walk s x k (record { place = place; groups = gs }) ≡ failed cost
