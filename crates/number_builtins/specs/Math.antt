-- The functions of `Math` on whole numbers (ECMA-262 5.1, section 15.8.2).
use Rattle.std.specs.Prelude.{ℤ, pos, unsigned_abs, List, Option, Some, None, fold}
use Rattle.std.specs.Int.{int_max, int_min}
use Rattle.number_builtins.specs.declared.call.NumberArg.{NumberArg}
use Rattle.number_builtins.specs.declared.call.NumberArg.TheVariants as arg
use Rattle.number_builtins.specs.declared.call.NumberResult.{NumberResult}
use Rattle.number_builtins.specs.declared.call.NumberResult.TheVariants.{Number, Range, NotANumber}

abbrev pub magnitude_of : ℤ → ℤ
magnitude_of n = pos (unsigned_abs n)

-- `abs` (15.8.2.1)
abbrev pub absolute_of : Option ℤ → NumberResult
absolute_of (Some n) = Number (magnitude_of n)
absolute_of None = NotANumber

-- a whole number is its own floor, ceiling and rounded value (15.8.2.9, 15.8.2.6, 15.8.2.15)
abbrev pub itself_of : Option ℤ → NumberResult
itself_of (Some n) = Number n
itself_of None = NotANumber

-- the larger of a number and the largest of others, which is Range where there are no others
abbrev pub larger_number : NumberResult → ℤ → NumberResult
larger_number Range n = Number n
larger_number (Number m) n = Number (int_max m n)
larger_number most n = NotANumber

abbrev pub larger_of : NumberResult → NumberArg → NumberResult
larger_of most (arg.Number n) = larger_number most n
larger_of most (arg.Text text) = NotANumber
larger_of most arg.Absent = NotANumber

abbrev pub smaller_number : NumberResult → ℤ → NumberResult
smaller_number Range n = Number n
smaller_number (Number m) n = Number (int_min m n)
smaller_number least n = NotANumber

abbrev pub smaller_of : NumberResult → NumberArg → NumberResult
smaller_of least (arg.Number n) = smaller_number least n
smaller_of least (arg.Text text) = NotANumber
smaller_of least arg.Absent = NotANumber

-- `max` (15.8.2.11) and `min` (15.8.2.12)
abbrev pub largest_of : List NumberArg → NumberResult
largest_of args = fold larger_of Range args

abbrev pub smallest_of : List NumberArg → NumberResult
smallest_of args = fold smaller_of Range args
