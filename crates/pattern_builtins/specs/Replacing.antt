-- Matches of a pattern replaced (ECMA-262 5.1, section 15.5.4.11, table 22). The units are `$` 36, `&` 38, `'` 39,
-- `` ` `` 96, and the digits from 49 for 1 on.
use Rattle.std.specs.Prelude.{◌≡◌, ℕ, ◌-◌, List, [], ◌∷◌, ◌++◌, Option, Some, None, if◌then◌else◌, nat_eq, nat_le, ◌&&◌, length, take, drop, slice_get, slice_range}
use Rattle.js_pattern.specs.declared.span.Span.{Span}
use Rattle.js_pattern.specs.Search.{Found}
use Rattle.utf16_text.specs.declared.limits.TheConstants.{LONGEST_TEXT}

-- what a group has matched: the empty text where it is unset, and nothing at all where there is no such group
abbrev pub group_text : List ℕ → Option (Option Span) → Option (List ℕ)
group_text text None = None
group_text text (Some None) = Some []
group_text text (Some (Some s)) = Some (slice_range text s.from s.to)

-- the units `1` to `9` name the groups from the first on
abbrev pub numbered : List ℕ → List (Option Span) → ℕ → Option (List ℕ)
numbered text groups c = if nat_le 49 c && nat_le c 57 then group_text text (slice_get groups (c - 49)) else None

-- what `$` and the unit c stand for, if not for themselves
abbrev pub named : List ℕ → Found → ℕ → Option (List ℕ)
named text f c = if nat_eq c 36 then Some (36 ∷ [])
    else if nat_eq c 38 then Some (slice_range text f.from (f.end).place)
    else if nat_eq c 96 then Some (take f.from text)
    else if nat_eq c 39 then Some (drop (f.end).place text)
    else numbered text (f.end).groups c

abbrev pub put_in : Option (List ℕ) → ℕ → List ℕ → List ℕ
put_in None c more = 36 ∷ c ∷ more
put_in (Some part) c more = part ++ more

-- a replacement with what stands for the match, for its groups and for what is around it put in
abbrev pub expanded : List ℕ → Found → List ℕ → List ℕ
expanded text f [] = []
expanded text f (u ∷ []) = u ∷ []
expanded text f (u ∷ c ∷ us) = if nat_eq u 36 then put_in (named text f c) c (expanded text f us) else u ∷ expanded text f (c ∷ us)

-- the text from a place on, with the replacement in place of each match
abbrev pub replaced_from : List ℕ → List ℕ → ℕ → List Found → List ℕ
replaced_from text by from [] = drop from text
replaced_from text by from (f ∷ fs) = slice_range text from f.from ++ expanded text f by ++ replaced_from text by (f.end).place fs

-- a text that is made, where it isn't too long
abbrev pub made_text : List ℕ → Option (List ℕ)
made_text us = if nat_le (length us) LONGEST_TEXT then Some us else None

-- ---- as the code goes through a replacement

-- a replacement has this piece at its front, and behind it what the rest has
abbrev pub BeginsWith : List ℕ → Found → List ℕ → List ℕ → List ℕ → Type 0
BeginsWith text f by piece more = expanded text f by ≡ piece ++ expanded text f more
