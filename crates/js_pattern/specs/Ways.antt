-- The ways of a pattern from a place, in order of preference (ECMA-262 5.1, section 15.10.2).
use Rattle.std.specs.Prelude.{ℕ, zero, suc, Bool, true, false, List, [], ◌∷◌, ◌++◌, Option, Some, None, map, slice_get}
use Rattle.js_pattern.specs.Tree.{Tree, unit, any, class, assertion, reference, row, alternatives, group, repeat, Trees, no_tree, a_tree}
use Rattle.js_pattern.specs.Place.{Subject, At, units_left, moved, closed, unset}
use Rattle.js_pattern.specs.Leaves.{behind_unit, behind_any, behind_class, behind_assertion, behind_reference}
use Rattle.js_pattern.specs.Repeats.{is_none_left, one_less, took_a_unit, choice}

-- one way, to a place, or none
abbrev pub one_way : Option ℕ → At → List At
one_way None at = []
one_way (Some p) at = moved p at ∷ []

-- each way, and then each way that goes on from there
abbrev pub each_then : (At → List At) → List At → List At
each_then next [] = []
each_then next (at ∷ ways) = next at ++ each_then next ways

-- ---- Repeat

abbrev pub keep : Bool → At → List At → List At
keep true at ways = at ∷ ways
keep false at ways = ways

-- the ways that took a unit
abbrev pub kept : Subject → ℕ → List At → List At
kept s from [] = []
kept s from (at ∷ ways) = keep (took_a_unit s from at) at (kept s from ways)

abbrev pub taking_and_leaving : Bool → List At → List At → List At
taking_and_leaving true taking leaving = taking ++ leaving
taking_and_leaving false taking leaving = leaving ++ taking

-- the turns that may be left out: each takes a unit, so one more than there are units is enough
abbrev pub may_ways : Subject → (At → List At) → Bool → ℕ → Option ℕ → At → List At
may_ways s turn greedy zero most at = []
may_ways s turn greedy (suc turns) most at =
    choice (is_none_left most)
    (λ at. at ∷ [])
    (λ at. taking_and_leaving greedy
    (each_then (may_ways s turn greedy turns (one_less most)) (kept s at.place (turn at)))
    (at ∷ []))
    at

-- the turns that must be taken, and then those that may
abbrev pub must_ways : Subject → (At → List At) → Bool → ℕ → Option ℕ → At → List At
must_ways s turn greedy zero most at = may_ways s turn greedy (suc (units_left s at.place)) most at
must_ways s turn greedy (suc least) most at =
    choice (is_none_left most)
    (λ at. at ∷ [])
    (λ at. each_then (must_ways s turn greedy least (one_less most)) (turn at))
    at

abbrev mutual
  pub ways : Subject → Tree → At → List At
  ways s (unit u) at = one_way (behind_unit s u at.place) at
  ways s any at = one_way (behind_any s at.place) at
  ways s (class c) at = one_way (behind_class s c at.place) at
  ways s (assertion a) at = one_way (behind_assertion s a at.place) at
  ways s (reference n) at = one_way (behind_reference s (slice_get at.groups n) at.place) at
  ways s (row xs) at = row_ways s xs at
  ways s (alternatives xs) at = alternatives_ways s xs at
  ways s (group n x) at = map (closed n at.place) (ways s x at)
  ways s (repeat x b) at = must_ways s (λ at. ways s x (unset b at)) b.greedy b.least b.most at

  -- terms, joined from the left
  pub row_ways : Subject → Trees → At → List At
  row_ways s no_tree at = at ∷ []
  row_ways s (a_tree x xs) at = each_then (row_ways s xs) (ways s x at)

  -- alternatives, one after the other
  pub alternatives_ways : Subject → Trees → At → List At
  alternatives_ways s no_tree at = []
  alternatives_ways s (a_tree x xs) at = ways s x at ++ alternatives_ways s xs at
