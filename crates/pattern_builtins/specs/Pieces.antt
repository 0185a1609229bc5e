-- Parts of a text by their places: a match and its groups as a script sees them (ECMA-262 5.1, section 15.10.6.2). None
-- is the part of a group that is unset, which a script sees as undefined.
use Rattle.std.specs.Prelude.{ℕ, ◌≤◌, List, [], ◌∷◌, Option, Some, map}
use Rattle.js_pattern.specs.declared.span.Span.{Span}
use Rattle.js_pattern.specs.Search.{Found}
use Rattle.js_regex.specs.declared.search.Match.{Match}
use Rattle.js_regex.specs.Finds.{MatchWithin}

abbrev pub piece : ℕ → ℕ → Option Span
piece from to = Some (record { from = from; to = to })

-- a match of the code as the definition of a search has it
abbrev pub found_in : Match → Found
found_in m = record { from = m.from; end = record { place = m.to; groups = m.groups } }

abbrev pub whole : Found → Option Span
whole f = piece f.from (f.end).place

-- the whole match first, and then its groups (15.10.6.2, step 20)
abbrev pub pieces_of : Found → List (Option Span)
pieces_of f = whole f ∷ (f.end).groups

-- each whole match
abbrev pub wholes : List Found → List (Option Span)
wholes fs = map whole fs

-- matches within a text of so many units, each at or behind the end of the one before, which is a place to begin with
abbrev pub InOrder : ℕ → ℕ → List Match → Type 0
InOrder end at [] = at ≤ end
InOrder end at (m ∷ ms) = (at ≤ m.from) × MatchWithin end m × InOrder end m.to ms
