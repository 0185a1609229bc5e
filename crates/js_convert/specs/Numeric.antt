-- Values as numbers (ECMA-262 5.1, section 9.3), cut to whole numbers.
use Rattle.std.specs.Prelude.{ℕ, pos, neg_ℤ, List, [], ◌∷◌, Bool, true, false, ◌&&◌, ◌||◌, nat_eq, nat_le, nat_lt, if◌then◌else◌, length, drop, codes}
use Rattle.std.specs.Ordering.{int_eq}
use Rattle.std.specs.Str.{bytes_eq}
use Rattle.utf16_text.specs.Digits.{value_of}
use Rattle.utf16_text.specs.Letters.{trimmed}
use Rattle.whole_number.specs.Whole.{is_whole}
use Rattle.heap_values.specs.declared.value.Value.{Value}
use Rattle.heap_values.specs.declared.value.Value.TheVariants as value
use Rattle.js_convert.specs.declared.numeric.Numeric.{Numeric}
use Rattle.js_convert.specs.declared.numeric.Numeric.TheVariants.{Whole, NotANumber, Fraction, Range}
use Rattle.js_convert.specs.Units.{is_empty, are_digits, are_hexadecimal, behind_digits}
use Rattle.whole_number.specs.declared.whole.TheConstants.{LARGEST}

-- the number, or Range where it is over 2^53 - 1
abbrev pub bounded : ℕ → Numeric
bounded n = if nat_le n LARGEST then Whole (pos n) else Range

abbrev pub is_sign : ℕ → Bool
is_sign u = nat_eq u 43 || nat_eq u 45

-- digits, perhaps behind a sign
abbrev pub are_signed_digits : List ℕ → Bool
are_signed_digits [] = false
are_signed_digits (u ∷ us) = if is_sign u then are_digits us else are_digits (u ∷ us)

-- `e` or `E` and such digits
abbrev pub is_exponent : List ℕ → Bool
is_exponent [] = false
is_exponent (u ∷ us) = (nat_eq u 101 || nat_eq u 69) && are_signed_digits us

-- behind a point: digits there or before it, then perhaps an exponent
abbrev pub is_point_behind : Bool → List ℕ → List ℕ → Bool
is_point_behind digits_before tail end = (digits_before || nat_lt (length end) (length tail)) && (is_empty end || is_exponent end)

abbrev pub is_fraction_behind : Bool → List ℕ → Bool
is_fraction_behind digits_before [] = false
is_fraction_behind digits_before (u ∷ us) = if nat_eq u 46 then is_point_behind digits_before us (behind_digits us) else digits_before && is_exponent (u ∷ us)

-- a decimal numeral with a point or an exponent
abbrev pub is_fraction_text : List ℕ → Bool
is_fraction_text us = is_fraction_behind (nat_lt (length (behind_digits us)) (length us)) (behind_digits us)

-- a decimal numeral without a sign
abbrev pub unsigned_numeric : List ℕ → Numeric
unsigned_numeric us = if bytes_eq us (codes "Infinity") then Range
    else if are_digits us then bounded (value_of 10 us)
    else if is_fraction_text us then Fraction
    else NotANumber

abbrev pub negated : Numeric → Numeric
negated (Whole n) = if is_whole (neg_ℤ n) then Whole (neg_ℤ n) else Range
negated other = other

-- a decimal numeral
abbrev pub decimal_numeric : List ℕ → Numeric
decimal_numeric [] = NotANumber
decimal_numeric (u ∷ us) = if nat_eq u 45 then negated (unsigned_numeric us)
    else if nat_eq u 43 then unsigned_numeric us
    else unsigned_numeric (u ∷ us)

abbrev pub hex_numeric : List ℕ → Numeric
hex_numeric us = if are_hexadecimal us then bounded (value_of 16 us) else NotANumber

-- `0x` or `0X`
abbrev pub is_hex_mark : List ℕ → Bool
is_hex_mark [] = false
is_hex_mark (u ∷ []) = false
is_hex_mark (u ∷ v ∷ us) = nat_eq u 48 && (nat_eq v 120 || nat_eq v 88)

abbrev pub trimmed_numeric : List ℕ → Numeric
trimmed_numeric [] = Whole (pos 0)
trimmed_numeric (u ∷ us) = if is_hex_mark (u ∷ us) then hex_numeric (drop 2 (u ∷ us)) else decimal_numeric (u ∷ us)

-- the number of a text: white space at both ends is dropped, and nothing is 0 (9.3.1)
abbrev pub text_numeric : List ℕ → Numeric
text_numeric us = trimmed_numeric (trimmed us)

-- the number of a value (9.3); an object is none before it is made a primitive value
abbrev pub numeric_of : Value → Numeric
numeric_of value.Undefined = NotANumber
numeric_of value.Null = Whole (pos 0)
numeric_of (value.Bool b) = Whole (pos (if b then 1 else 0))
numeric_of (value.Number n) = Whole n
numeric_of (value.Text t) = text_numeric t
numeric_of (value.Object id) = NotANumber

-- the truth of a value (9.2)
abbrev pub truth_of : Value → Bool
truth_of value.Undefined = false
truth_of value.Null = false
truth_of (value.Bool b) = b
truth_of (value.Number n) = if int_eq n (pos 0) then false else true
truth_of (value.Text t) = if is_empty t then false else true
truth_of (value.Object id) = true
