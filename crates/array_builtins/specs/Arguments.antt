-- The arguments of a method of arrays. Positions are converted already: one that is no number counts as undefined.
use Rattle.std.specs.Prelude.{ℕ, suc, ◌-◌, min, ℤ, pos, negsuc, List, [], ◌∷◌, Option, Some, None}
use Rattle.heap_values.specs.declared.value.Value.{Value}
use Rattle.heap_values.specs.declared.value.Value.TheVariants.{Undefined, Number}

-- the first argument; undefined where there is none
abbrev pub first_value : List Value → Value
first_value [] = Undefined
first_value (v ∷ args) = v

-- the first argument, where it is a number
abbrev pub first_number : List Value → Option ℤ
first_number (Number n ∷ args) = Some n
first_number args = None

-- the second one, where it is a number
abbrev pub second_number : List Value → Option ℤ
second_number [] = None
second_number (v ∷ args) = first_number args

-- a place among n; one below 0 counts from the end: `negsuc i` is -(i + 1)
abbrev pub from_end : ℕ → ℤ → ℕ
from_end n (pos i) = min i n
from_end n (negsuc i) = n - suc i

-- and another where none is said
abbrev pub place_or : ℕ → ℕ → Option ℤ → ℕ
place_or n missing (Some i) = from_end n i
place_or n missing None = missing
