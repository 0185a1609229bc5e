-- Escapes (ECMA-262 5.1, sections 15.10.1 and 15.10.2.9 to 15.10.2.12). An escape stands behind a backslash; here `u`
-- is its first unit, and `us` are the units behind that.
use Rattle.std.specs.Prelude.{ℕ, ◌+◌, ◌-◌, ◌*◌, Bool, false, nat_eq, nat_le, if◌then◌else◌, List, [], ◌∷◌, Option, Some, None, Result, Ok}
use Rattle.utf16_text.specs.Letters.{is_between}
use Rattle.utf16_text.specs.Digits.{is_digit, is_hexadecimal, digit_of}
use Rattle.js_pattern.specs.Leaves.{is_word}
use Rattle.js_pattern.specs.declared.class.Set.{Set}
use Rattle.js_pattern.specs.declared.class.Set.TheVariants as set
use Rattle.js_pattern.specs.declared.node.Assertion.TheVariants.{Boundary, NoBoundary}
use Rattle.js_pattern_reader.specs.declared.answer.PatternAnswer.{PatternAnswer}
use Rattle.js_pattern_reader.specs.declared.escapes.ClassAtom.{ClassAtom}
use Rattle.js_pattern_reader.specs.declared.escapes.ClassAtom.TheVariants as atom
use Rattle.js_pattern_reader.specs.declared.escapes.Escape.{Escape}
use Rattle.js_pattern_reader.specs.declared.escapes.Escape.TheVariants as escape
use Rattle.js_pattern_reader.specs.Answers.{unsupported, ◌>>=◌}

abbrev pub then_some : {A B : Type 0} → Option A → (A → Option B) → Option B
then_some None f = None
then_some (Some x) f = f x

-- one hexadecimal digit, two, and four
abbrev pub digit_at : List ℕ → Option (ℕ × List ℕ)
digit_at [] = None
digit_at (u ∷ us) = if is_hexadecimal u then Some (digit_of u, us) else None

abbrev pub two_digits_at : List ℕ → Option (ℕ × List ℕ)
two_digits_at us = then_some (digit_at us) (λ a. then_some (digit_at a.1) (λ b. Some (a.0 * 16 + b.0, b.1)))

abbrev pub four_digits_at : List ℕ → Option (ℕ × List ℕ)
four_digits_at us = then_some (two_digits_at us) (λ a. then_some (two_digits_at a.1) (λ b. Some (a.0 * 256 + b.0, b.1)))

abbrev pub begins_with_digit : List ℕ → Bool
begins_with_digit [] = false
begins_with_digit (u ∷ us) = is_digit u

-- the unit that is escaped: by `t` (116), `n` (110), `v` (118), `f` (102), `r` (114); `0` (48) not before a digit; `x`
-- (120) and `u` (117) with their digits; or as what is no letter, digit or `_`
abbrev pub unit_at : ℕ → List ℕ → Option (ℕ × List ℕ)
unit_at u us =
    if nat_eq u 116 then Some (9, us)
    else if nat_eq u 110 then Some (10, us)
    else if nat_eq u 118 then Some (11, us)
    else if nat_eq u 102 then Some (12, us)
    else if nat_eq u 114 then Some (13, us)
    else if nat_eq u 48 then (if begins_with_digit us then None else Some (0, us))
    else if nat_eq u 120 then two_digits_at us
    else if nat_eq u 117 then four_digits_at us
    else if is_word u then None
    else Some (u, us)

-- `d` (100), `D` (68), `w` (119), `W` (87), `s` (115) and `S` (83)
abbrev pub set_of : ℕ → Option Set
set_of u =
    if nat_eq u 100 then Some set.Digit
    else if nat_eq u 68 then Some set.NoDigit
    else if nat_eq u 119 then Some set.Word
    else if nat_eq u 87 then Some set.NoWord
    else if nat_eq u 115 then Some set.Space
    else if nat_eq u 83 then Some set.NoSpace
    else None

-- what stands for units, in a class and outside: a set or a unit; any other letter, digit or `_` is unsupported
abbrev pub as_unit : Option (ℕ × List ℕ) → Result (ClassAtom × List ℕ) PatternAnswer
as_unit None = unsupported
as_unit (Some x) = Ok (atom.Unit x.0, x.1)

abbrev pub atom_by : ℕ → List ℕ → Option Set → Result (ClassAtom × List ℕ) PatternAnswer
atom_by u us (Some s) = Ok (atom.Set s, us)
atom_by u us None = as_unit (unit_at u us)

abbrev pub atom_at : ℕ → List ℕ → Result (ClassAtom × List ℕ) PatternAnswer
atom_at u us = atom_by u us (set_of u)

-- in a class `b` (98) is the unit 8
abbrev pub class_escape_at : ℕ → List ℕ → Result (ClassAtom × List ℕ) PatternAnswer
class_escape_at u us = if nat_eq u 98 then Ok (atom.Unit 8, us) else atom_at u us

-- outside, in a pattern of so many groups: `b` (98) and `B` (66) are assertions, and `1` (49) to `9` (57) refer to a
-- group that there is
abbrev pub escape_at : ℕ → ℕ → List ℕ → Result (Escape × List ℕ) PatternAnswer
escape_at count u us =
    if nat_eq u 98 then Ok (escape.Assertion Boundary, us)
    else if nat_eq u 66 then Ok (escape.Assertion NoBoundary, us)
    else if is_between 49 57 u then (if nat_le (u - 48) count then Ok (escape.Reference (u - 49), us) else unsupported)
    else (atom_at u us >>= λ x. Ok (escape.Atom x.0, x.1))
