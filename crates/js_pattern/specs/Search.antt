-- The search for a pattern: the first way at the first place that has one, and its cost (ECMA-262 5.1, 15.10.6.2).
use Rattle.std.specs.Prelude.{ℕ, zero, suc, ◌+◌, ◌-◌, List, [], ◌∷◌, Option, Some, None, length, replicate}
use Rattle.js_pattern.specs.Tree.{Tree}
use Rattle.js_pattern.specs.Place.{Subject, At}
use Rattle.js_pattern.specs.Ways.{ways}
use Rattle.js_pattern.specs.Walk.{Outcome, found, walk}
use Rattle.js_pattern.specs.Pattern.{PatternTree}

-- where a match begins, and where it ends
pub record Found : Type 0 where
  pub from : ℕ
  pub end : At

-- so many groups are unset
abbrev pub start : ℕ → ℕ → At
start count p = record { place = p; groups = replicate count None }

-- the places from one on, the end of the text among them
abbrev pub places_from : Subject → ℕ → ℕ
places_from s from = suc (length s.text) - from

-- ---- the match

abbrev pub first_or : ℕ → List At → Option Found → Option Found
first_or p [] later = later
first_or p (at ∷ more) later = Some (record { from = p; end = at })

-- at so many places, from one on
abbrev pub first_match : Subject → Tree → ℕ → ℕ → ℕ → Option Found
first_match s x count zero p = None
first_match s x count (suc more) p = first_or p (ways s x (start count p)) (first_match s x count more (p + 1))

-- ---- the cost

abbrev pub cost_or : Outcome → ℕ → ℕ
cost_or o later = cost_by o.cost o.end later
  where
    cost_by : ℕ → Option At → ℕ → ℕ
    cost_by cost None later = cost + later
    cost_by cost (Some at) later = cost

-- the walks at the places that are tried
abbrev pub search_cost : Subject → Tree → ℕ → ℕ → ℕ → ℕ
search_cost s x count zero p = 0
search_cost s x count (suc more) p = cost_or (walk s x found (start count p)) (search_cost s x count more (p + 1))

-- ---- a pattern in a text, from a place on

abbrev pub subject_of : PatternTree → List ℕ → Subject
subject_of p text = record { text = text; flags = p.flags }

abbrev pub match_from : PatternTree → List ℕ → ℕ → Option Found
match_from p text from = first_match (subject_of p text) p.tree p.groups (places_from (subject_of p text) from) from

abbrev pub cost_from : PatternTree → List ℕ → ℕ → ℕ
cost_from p text from = search_cost (subject_of p text) p.tree p.groups (places_from (subject_of p text) from) from
