-- Where a value stands in an array (ECMA-262 5.1, sections 15.4.4.14 and 15.4.4.15).
use Rattle.std.specs.Prelude.{ℕ, zero, suc, ◌+◌, ◌-◌, min, ℤ, pos, negsuc, Bool, false, List, ◌∷◌, Option, Some, None, if◌then◌else◌}
use Rattle.std.specs.Fmt.{decimal}
use Rattle.heap_values.specs.declared.ids.ObjectId.{ObjectId}
use Rattle.heap_values.specs.declared.value.Value.{Value}
use Rattle.heap_values.specs.declared.value.Value.TheVariants.{Number}
use Rattle.heap_values.specs.Views.{HeapView}
use Rattle.js_convert.specs.Operators.{strictly_equal}
use Rattle.array_builtins.specs.Arguments.{first_value, second_number, place_or}
use Rattle.array_builtins.specs.Elements.{size_of, element}

-- whether an element is there, and strictly equal to the value (11.9.6)
abbrev pub is_equal : Value → Option Value → Bool
is_equal v None = false
is_equal v (Some e) = strictly_equal v e

-- the first place of the value among so many from a place on
abbrev pub place_from : HeapView → ObjectId → Value → ℕ → ℕ → Option ℕ
place_from h array v at zero = None
place_from h array v at (suc count) =
    if is_equal v (element h array (decimal at)) then Some at else place_from h array v (at + 1) count

-- the last place of the value below a place
abbrev pub place_below : HeapView → ObjectId → Value → ℕ → Option ℕ
place_below h array v zero = None
place_below h array v (suc at) =
    if is_equal v (element h array (decimal at)) then Some at else place_below h array v at

-- a place, or -1 where there is none
abbrev pub place_value : Option ℕ → Value
place_value (Some at) = Number (pos at)
place_value None = Number (negsuc 0)

-- `indexOf`: from the begin where no position is said (15.4.4.14)
abbrev pub index_from : HeapView → ObjectId → Value → ℕ → ℕ → Value
index_from h array v n start = place_value (place_from h array v start (n - start))

abbrev pub index_of : HeapView → ObjectId → List Value → Value
index_of h array args =
    index_from h array (first_value args) (size_of h array) (place_or (size_of h array) 0 (second_number args))

-- the place behind the position from which `lastIndexOf` goes down: `negsuc i` is -(i + 1), from the end (steps 5 to 7)
abbrev pub behind_position : ℕ → ℤ → ℕ
behind_position n (pos i) = min (i + 1) n
behind_position n (negsuc i) = n - i

-- a position that is passed and is no number counts as 0
abbrev pub behind_passed : ℕ → Option ℤ → ℕ
behind_passed n (Some i) = behind_position n i
behind_passed n None = behind_position n (pos 0)

-- and that of the last element where none is passed
abbrev pub behind_last : ℕ → List Value → ℕ
behind_last n (v ∷ p ∷ args) = behind_passed n (second_number (v ∷ p ∷ args))
behind_last n args = n

-- `lastIndexOf` (15.4.4.15)
abbrev pub last_index_of : HeapView → ObjectId → List Value → Value
last_index_of h array args = place_value (place_below h array (first_value args) (behind_last (size_of h array) args))
