-- Whole numbers of at most 2^53 - 1 in size, and operations on them (ECMA-262 5.1, sections 9.5, 9.6, 11.5 and 11.6).
use Rattle.std.specs.Prelude.{ℕ, ◌-◌, ℤ, pos, negsuc, ◌≤ℤ◌, Bool, if◌then◌else◌, nat_le, nat_lt, Option, Some, None, Result, Ok, Err, int_div, int_rem, unsigned_abs}
use Rattle.std.specs.Ordering.{int_eq}
use Rattle.std.specs.Int.{w32, cast_signed, int_rem_euclid}
use Rattle.whole_number.specs.declared.answer.WholeAnswer.{WholeAnswer}
use Rattle.whole_number.specs.declared.answer.WholeAnswer.TheVariants.{Range, Fraction, DivisionByZero}
use Rattle.whole_number.specs.declared.whole.TheConstants.{LARGEST}

-- from -(2^53 - 1) to 2^53 - 1
abbrev pub IsWhole : ℤ → Type 0
IsWhole n = (negsuc (LARGEST - 1) ≤ℤ n) × (n ≤ℤ pos LARGEST)

-- the same as a test; `negsuc n` is -(n + 1)
abbrev pub is_whole : ℤ → Bool
is_whole (pos n) = nat_le n LARGEST
is_whole (negsuc n) = nat_lt n LARGEST

-- the number, or Range where it is too large
abbrev pub whole_of : ℤ → Result ℤ WholeAnswer
whole_of n = if is_whole n then Ok n else Err Range

-- a number from 0, or none where it is too large
abbrev pub whole_or_none : ℕ → Option ℤ
whole_or_none n = if nat_le n LARGEST then Some (pos n) else None

-- by 0 there is no quotient; a quotient that isn't whole is Fraction (11.5.2)
abbrev pub quotient_of : ℤ → ℤ → Result ℤ WholeAnswer
quotient_of a b = if int_eq b (pos 0) then Err DivisionByZero else if int_eq (int_rem a b) (pos 0) then whole_of (int_div a b) else Err Fraction

-- what the division that rounds to 0 leaves: it has the dividend's sign (11.5.3)
abbrev pub remainder_of : ℤ → ℤ → Result ℤ WholeAnswer
remainder_of a b = if int_eq b (pos 0) then Err DivisionByZero else whole_of (int_rem a b)

-- modulo 2^32, from 0 (9.6)
abbrev pub uint32_of : ℤ → ℕ
uint32_of n = unsigned_abs (int_rem_euclid n (pos 4294967296))

-- modulo 2^32, from -2^31 (9.5)
abbrev pub int32_of : ℤ → ℤ
int32_of n = cast_signed w32 (uint32_of n)
