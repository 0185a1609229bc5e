-- Runs of digits (ECMA-262 5.1, section 9.3.1).
use Rattle.std.specs.Prelude.{ℕ, List, [], ◌∷◌, Bool, true, false, ◌&&◌, not, if◌then◌else◌}
use Rattle.std.specs.List.{list_all}
use Rattle.utf16_text.specs.Digits.{is_digit, is_hexadecimal}

abbrev pub is_empty : List ℕ → Bool
is_empty [] = true
is_empty (u ∷ us) = false

-- at least one digit, and nothing else
abbrev pub are_digits : List ℕ → Bool
are_digits us = not (is_empty us) && list_all is_digit us

abbrev pub are_hexadecimal : List ℕ → Bool
are_hexadecimal us = not (is_empty us) && list_all is_hexadecimal us

-- without the digits at the front
abbrev pub behind_digits : List ℕ → List ℕ
behind_digits [] = []
behind_digits (u ∷ us) = if is_digit u then behind_digits us else u ∷ us
