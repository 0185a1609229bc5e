-- Names that are array indexes (ECMA-262 5.1, section 15.4).
use Rattle.std.specs.Prelude.{ℕ, ◌+◌, ◌*◌, ◌-◌, List, [], ◌∷◌, Option, Some, None, if◌then◌else◌, nat_eq, nat_lt, ◌&&◌, ◌||◌, length}

-- the number that the digits spell behind those that spell `so_far`; none where a unit is no digit
abbrev pub digits_value : ℕ → List ℕ → Option ℕ
digits_value so_far [] = Some so_far
digits_value so_far (u ∷ us) = if nat_lt u 48 || nat_lt 57 u then None else digits_value (so_far * 10 + (u - 48)) us

abbrev pub below_index_limit : Option ℕ → Option ℕ
below_index_limit None = None
below_index_limit (Some n) = if nat_lt n 4294967295 then Some n else None

-- the array index that a name is: its number, where the name is a plain decimal numeral below 2^32 - 1
abbrev pub array_index : List ℕ → Option ℕ
array_index [] = None
array_index (u ∷ us) = if nat_lt 9 (length us) || (nat_eq u 48 && nat_lt 0 (length us)) then None
    else below_index_limit (digits_value 0 (u ∷ us))
