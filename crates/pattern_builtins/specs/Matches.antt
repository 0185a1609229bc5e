-- The matches of a pattern in a text, one behind the other (ECMA-262 5.1, sections 15.5.4.10 and 15.5.4.11).
use Rattle.std.specs.Prelude.{ℕ, zero, suc, ◌+◌, Bool, true, false, List, [], ◌∷◌, Option, Some, None, if◌then◌else◌, nat_eq, length}
use Rattle.js_pattern.specs.Pattern.{PatternTree}
use Rattle.js_pattern.specs.Search.{Found, match_from, cost_from}

-- what some searches find, and what they cost together
pub record Searches : Type 0 where
  pub found : List Found
  pub cost : ℕ

-- the next search begins where a match ends, but one unit behind it where it ends at the place that its search began at:
-- `lastIndex` and `previousLastIndex` are one place whenever a search begins (15.5.4.10, step 8.f)
abbrev pub next_place : ℕ → ℕ → ℕ
next_place from end = if nat_eq end from then end + 1 else end

-- the first search from a place, and those that come behind its match; the last one is that which finds none
abbrev pub with_next : ℕ → ℕ → Option Found → (ℕ → Searches) → Searches
with_next cost from None next = record { found = []; cost = cost }
with_next cost from (Some f) next = and_those (next (next_place from (f.end).place))
  where
    and_those : Searches → Searches
    and_those later = record { found = f ∷ later.found; cost = cost + later.cost }

-- at most so many searches, the first from a place on; behind the text's end one finds nothing and costs nothing
abbrev pub searches_from : ℕ → PatternTree → List ℕ → ℕ → Searches
searches_from zero p text from = record { found = []; cost = 0 }
searches_from (suc turns) p text from = with_next (cost_from p text from) from (match_from p text from) (λ place. searches_from turns p text place)

-- all matches: each search begins behind the one before it, so no more are made than there are places
abbrev pub all_searches : PatternTree → List ℕ → Searches
all_searches p text = searches_from (suc (length text)) p text 0

abbrev pub at_most_one : Option Found → List Found
at_most_one None = []
at_most_one (Some f) = f ∷ []

-- the first match alone
abbrev pub first_search : PatternTree → List ℕ → Searches
first_search p text = record { found = at_most_one (match_from p text 0); cost = cost_from p text 0 }

-- all matches of a global pattern, and the first of another one
abbrev pub searches_by : Bool → PatternTree → List ℕ → Searches
searches_by true p text = all_searches p text
searches_by false p text = first_search p text

abbrev pub searches_of : PatternTree → List ℕ → Searches
searches_of p text = searches_by (p.flags).global p text
