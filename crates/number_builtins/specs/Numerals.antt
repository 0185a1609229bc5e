-- Numbers as texts, in any radix (ECMA-262 5.1, section 15.7.4.2).
use Rattle.std.specs.Prelude.{ℕ, ℤ, pos, int_lt, unsigned_abs, List, [], ◌∷◌, ◌||◌, nat_eq, if◌then◌else◌, Option, Some, None, map, codes, ◌++◌}
use Rattle.std.specs.Char.{digit_char}
use Rattle.std.specs.Int.Digits.{digits_of}
use Rattle.number_builtins.specs.declared.call.NumberArg.{NumberArg}
use Rattle.number_builtins.specs.declared.call.NumberArg.TheVariants as arg
use Rattle.number_builtins.specs.declared.call.NumberResult.{NumberResult}
use Rattle.number_builtins.specs.declared.call.NumberResult.TheVariants.{Text, BadRadix}

-- a radix is from 2 to 36
abbrev pub known_radix_of : ℤ → Option ℕ
known_radix_of r = if int_lt r (pos 2) || int_lt (pos 36) r then None else Some (unsigned_abs r)

-- and 10 where none is said
abbrev pub radix_in : List NumberArg → Option ℕ
radix_in [] = Some 10
radix_in (arg.Absent ∷ args) = Some 10
radix_in (arg.Number r ∷ args) = known_radix_of r
radix_in (arg.Text text ∷ args) = None

-- the digits, the highest first: `0` to `9`, then `a` to `z`; 0 is one digit
abbrev pub digits_text : ℕ → ℕ → List ℕ
digits_text radix n = if nat_eq n 0 then codes "0" else map digit_char (digits_of radix n)

-- behind `-` where the number is below 0
abbrev pub numeral_text : ℕ → ℤ → List ℕ
numeral_text radix n = if int_lt n (pos 0) then codes "-" ++ digits_text radix (unsigned_abs n) else digits_text radix (unsigned_abs n)

abbrev pub in_radix : Option ℕ → ℤ → NumberResult
in_radix (Some radix) n = Text (numeral_text radix n)
in_radix None n = BadRadix
