-- Number and text literals at the front of a list of units (ECMA-262 5.1, sections 7.8.3 and 7.8.4, cut to this
-- profile).
use Rattle.std.specs.Prelude.{ℕ, zero, suc, ◌+◌, ℤ, pos, List, [], ◌∷◌, ◌++◌, length, take, drop, Option, Some, None, option_to_list, Result, Ok, Err, Bool, ◌&&◌, ◌||◌, not, nat_eq, nat_lt, if◌then◌else◌}
use Rattle.std.specs.List.{prefix_len}
use Rattle.utf16_text.specs.Letters.{is_break_unit}
use Rattle.js_tree.specs.declared.refusal.ReadKind.{ReadKind}
use Rattle.js_tree.specs.declared.refusal.ReadKind.TheVariants.{BadToken, FractionLiteral, Unsupported}
use Rattle.js_grammar.specs.Reading.{◌>>=◌}
use Rattle.utf16_text.specs.Digits.{is_digit, is_hexadecimal, value_of}
use Rattle.js_grammar.specs.Units.{first_passes, begins_with, is_word_start}
use Rattle.whole_number.specs.declared.whole.TheConstants.{LARGEST}

-- ---- numbers, each with how many units it has

-- `.` (46), `e` (101) or `E` (69)
abbrev pub is_fraction_mark : ℕ → Bool
is_fraction_mark u = nat_eq u 46 || nat_eq u 101 || nat_eq u 69

-- a value that was written by n units, before the units behind: no word begins there, and it is at most 2^53 - 1
abbrev pub literal : ℕ → ℕ → List ℕ → Result (ℤ × ℕ) ReadKind
literal value n behind =
    if first_passes is_word_start behind then Err BadToken
    else if nat_lt LARGEST value then Err BadToken
    else Ok (pos value, n)

-- one or more hexadecimal digits, behind `0x`
abbrev pub hexadecimal_at : List ℕ → Result (ℤ × ℕ) ReadKind
hexadecimal_at us =
    let n = prefix_len is_hexadecimal us in
    if nat_eq n 0 then Err BadToken else literal (value_of 16 (take n us)) (n + 2) (drop n us)

-- Decimal digits. `0` (48) before a digit, a fraction and an exponent are none of this profile.
abbrev pub decimal_at : List ℕ → Result (ℤ × ℕ) ReadKind
decimal_at us =
    let n = prefix_len is_digit us in
    if begins_with 48 us && nat_lt 1 n then Err Unsupported
    else if first_passes is_fraction_mark (drop n us) then Err FractionLiteral
    else literal (value_of 10 (take n us)) n (drop n us)

-- `0` (48) and `x` (120) or `X` (88)
abbrev pub is_hexadecimal_literal : List ℕ → Bool
is_hexadecimal_literal us = begins_with 48 us && first_passes (λ u. nat_eq u 120 || nat_eq u 88) (drop 1 us)

abbrev pub number_at : List ℕ → Result (ℤ × ℕ) ReadKind
number_at us = if is_hexadecimal_literal us then hexadecimal_at (drop 2 us) else decimal_at us

-- ---- texts

-- n hexadecimal digits behind `\x` or `\u`: the unit of that number
abbrev pub numbered_at : ℕ → List ℕ → Result (Option ℕ × ℕ) ReadKind
numbered_at n us =
    if nat_eq (prefix_len is_hexadecimal (take n us)) n then Ok (Some (value_of 16 (take n us)), n + 1) else Err BadToken

-- CR LF (13, 10) is one break
abbrev pub break_length : List ℕ → ℕ
break_length us = if begins_with 13 us && begins_with 10 (drop 1 us) then 2 else 1

-- the unit that a letter stands for behind `\`: `b t n v f r`; any other stands for itself
abbrev pub escape_of : ℕ → ℕ
escape_of u =
    if nat_eq u 98 then 8
    else if nat_eq u 116 then 9
    else if nat_eq u 110 then 10
    else if nat_eq u 118 then 11
    else if nat_eq u 102 then 12
    else if nat_eq u 114 then 13
    else u

-- What stands behind `\`: a unit, or none for a line's end; and how many units it has. `0` (48) alone is the unit 0,
-- and octal numbers are none of this profile.
abbrev pub escape_at : List ℕ → Result (Option ℕ × ℕ) ReadKind
escape_at [] = Err BadToken
escape_at (u ∷ us) =
    if is_break_unit u then Ok (None, break_length (u ∷ us))
    else if nat_eq u 120 then numbered_at 2 us
    else if nat_eq u 117 then numbered_at 4 us
    else if nat_eq u 48 && not (first_passes is_digit us) then Ok (Some 0, 1)
    else if is_digit u then Err Unsupported
    else Ok (Some (escape_of u), 1)

-- the unit that a character of a text gives, or none, and how many units it has; u: its first unit, `\` (92) or any
-- other
abbrev pub character_at : ℕ → List ℕ → Result (Option ℕ × ℕ) ReadKind
character_at u us = if nat_eq u 92 then (escape_at us >>= λ x. Ok (x.0, x.1 + 1)) else Ok (Some u, 1)

-- units in front of the rest of a text, written by n units
abbrev pub in_front : List ℕ → ℕ → List ℕ × ℕ → Result (List ℕ × ℕ) ReadKind
in_front units n rest = Ok (units ++ rest.0, n + rest.1)

-- the characters up to the quote, and how many units they have, the quote among them; no line ends but behind a `\`
unfoldable pub text_from : ℕ → ℕ → List ℕ → Result (List ℕ × ℕ) ReadKind
text_from zero quote us = Err BadToken
text_from (suc n) quote [] = Err BadToken
text_from (suc n) quote (u ∷ us) =
    if nat_eq u quote then Ok ([], 1)
    else if is_break_unit u then Err BadToken
    else (character_at u us >>= λ x. text_from n quote (drop x.1 (u ∷ us)) >>= in_front (option_to_list x.0) x.1)

-- each character has a unit at least
abbrev pub text_at : ℕ → List ℕ → Result (List ℕ × ℕ) ReadKind
text_at quote us = text_from (suc (length us)) quote us
