-- `parseInt` (ECMA-262 5.1, section 15.1.2.2), whose steps the numbers in brackets are. The units are `+` 43, `-` 45,
-- `0` 48, `X` 88 and `x` 120.
use Rattle.std.specs.Prelude.{ℕ, ℤ, pos, neg_ℤ, unsigned_abs, List, [], ◌∷◌, Bool, false, ◌&&◌, ◌||◌, nat_eq, nat_lt, int_lt, if◌then◌else◌, Option, Some, None, drop}
use Rattle.std.specs.Ordering.{int_eq}
use Rattle.std.specs.List.{take_while}
use Rattle.utf16_text.specs.Digits.{is_digit, digit_of, value_of}
use Rattle.utf16_text.specs.Letters.{is_between, without_space_before}
use Rattle.whole_number.specs.Whole.{int32_of, whole_or_none}
use Rattle.number_builtins.specs.declared.call.NumberResult.{NumberResult}
use Rattle.number_builtins.specs.declared.call.NumberResult.TheVariants.{Number, Range, NotANumber}

-- the radix as a signed number of 32 bits; 0 where none is said (6)
abbrev pub radix_or_none : Option ℤ → ℤ
radix_or_none (Some r) = int32_of r
radix_or_none None = pos 0

-- a digit or a letter whose value is below the radix
abbrev pub is_digit_in : ℕ → ℕ → Bool
is_digit_in radix u = (is_digit u || is_between 97 122 u || is_between 65 90 u) && nat_lt (digit_of u) radix

-- the units before the first one that is no digit of the radix (11)
abbrev pub digits_before : ℕ → List ℕ → List ℕ
digits_before radix us = take_while (is_digit_in radix) us

abbrev pub number_or_range : Option ℤ → NumberResult
number_or_range (Some n) = Number n
number_or_range None = Range

-- the number that digits spell, where there are any (12 and 13)
abbrev pub number_of_digits : ℕ → List ℕ → NumberResult
number_of_digits radix [] = NotANumber
number_of_digits radix (d ∷ ds) = number_or_range (whole_or_none (value_of radix (d ∷ ds)))

abbrev pub number_in_front : ℕ → List ℕ → NumberResult
number_in_front radix us = number_of_digits radix (digits_before radix us)

-- `0x` or `0X` in front
abbrev pub has_prefix : List ℕ → Bool
has_prefix (a ∷ b ∷ us) = nat_eq a 48 && (nat_eq b 88 || nat_eq b 120)
has_prefix us = false

-- the radix is 10 where none is said, and else from 2 to 36 (8 and 9)
abbrev pub number_in_radix_of : List ℕ → ℤ → NumberResult
number_in_radix_of us r = if int_eq r (pos 0) then number_in_front 10 us
    else if int_lt r (pos 2) || int_lt (pos 36) r then NotANumber
    else number_in_front (unsigned_abs r) us

-- where it is 16 or none is said, a prefix says 16 (10)
abbrev pub numeral_of : List ℕ → ℤ → NumberResult
numeral_of us r = if (int_eq r (pos 0) || int_eq r (pos 16)) && has_prefix us then number_in_front 16 (drop 2 us)
    else number_in_radix_of us r

abbrev pub negated_of : NumberResult → NumberResult
negated_of (Number n) = Number (neg_ℤ n)
negated_of other = other

-- a sign in front (3 to 5 and 15)
abbrev pub signed_numeral : List ℕ → ℤ → NumberResult
signed_numeral [] r = numeral_of [] r
signed_numeral (u ∷ us) r = if nat_eq u 45 then negated_of (numeral_of us r)
    else if nat_eq u 43 then numeral_of us r else numeral_of (u ∷ us) r

-- white space and line terminators in front are left out (2)
abbrev pub parse_result : List ℕ → ℤ → NumberResult
parse_result text r = signed_numeral (without_space_before text) r
