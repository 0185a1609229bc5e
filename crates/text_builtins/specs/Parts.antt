-- Parts of a text by their places (ECMA-262 5.1, sections 15.5.4.4, 15.5.4.5, 15.5.4.13, 15.5.4.15 and B.2.3).
use Rattle.std.specs.Prelude.{ℕ, suc, ◌+◌, ◌-◌, min, max, ℤ, pos, negsuc, List, [], ◌∷◌, Option, Some, None, length, take, drop, slice_range}
use Rattle.text_builtins.specs.declared.call.TextArg.{TextArg}
use Rattle.text_builtins.specs.declared.call.TextResult.{TextResult}
use Rattle.text_builtins.specs.declared.call.TextResult.TheVariants.{Text, Number, NotANumber}
use Rattle.text_builtins.specs.Arguments.{first_number_of, second_number_of}

-- a place in a text of n units: before its begin and behind its end these count
abbrev pub clamped : ℕ → ℤ → ℕ
clamped n (pos i) = min i n
clamped n (negsuc i) = 0

-- and another where none is said
abbrev pub place_or : ℕ → ℕ → Option ℤ → ℕ
place_or n missing (Some i) = clamped n i
place_or n missing None = missing

-- a place below 0 counts from the end: `negsuc i` is -(i + 1)
abbrev pub from_end : ℕ → ℤ → ℕ
from_end n (pos i) = min i n
from_end n (negsuc i) = n - suc i

abbrev pub place_from_end : ℕ → ℕ → Option ℤ → ℕ
place_from_end n missing (Some i) = from_end n i
place_from_end n missing None = missing

abbrev pub position_of : Option ℤ → ℤ
position_of (Some i) = i
position_of None = pos 0

-- the unit at a place, or none
abbrev pub unit_at : ℤ → List ℕ → List ℕ
unit_at (pos i) us = take 1 (drop i us)
unit_at (negsuc i) us = []

-- `charAt` (15.5.4.4)
abbrev pub char_at_of : List ℕ → List TextArg → TextResult
char_at_of us args = Text (unit_at (position_of (first_number_of args)) us)

abbrev pub code_of : List ℕ → TextResult
code_of [] = NotANumber
code_of (u ∷ us) = Number (pos u)

-- `charCodeAt` (15.5.4.5)
abbrev pub char_code_of : List ℕ → List TextArg → TextResult
char_code_of us args = code_of (unit_at (position_of (first_number_of args)) us)

-- the units from one place up to and without another; none where the second comes first
abbrev pub part_of : List ℕ → ℕ → ℕ → TextResult
part_of us from to = Text (slice_range us from to)

-- `substring`: between two places, whichever comes first (15.5.4.15)
abbrev pub between : List ℕ → ℕ → ℕ → TextResult
between us start end = part_of us (min start end) (max start end)

abbrev pub substring_of : List ℕ → List TextArg → TextResult
substring_of us args =
    between us (place_or (length us) 0 (first_number_of args)) (place_or (length us) (length us) (second_number_of args))

-- `slice` (15.5.4.13)
abbrev pub slice_of : List ℕ → List TextArg → TextResult
slice_of us args =
    part_of us (place_from_end (length us) 0 (first_number_of args)) (place_from_end (length us) (length us) (second_number_of args))

-- `substr`: from a place, so many units as there are (B.2.3)
abbrev pub counted : List ℕ → ℕ → ℕ → TextResult
counted us start count = part_of us start (start + min count (length us - start))

abbrev pub substr_of : List ℕ → List TextArg → TextResult
substr_of us args =
    counted us (place_from_end (length us) 0 (first_number_of args)) (place_or (length us) (length us) (second_number_of args))
