-- Classes of units (ECMA-262 5.1, section 7.6), and places among units.
use Rattle.std.specs.Prelude.{ℕ, ◌+◌, ◌-◌, ◌*◌, List, [], ◌∷◌, fold, Bool, false, ◌&&◌, ◌||◌, nat_eq, if◌then◌else◌}
use Rattle.std.specs.List.{list_any}
use Rattle.utf16_text.specs.Letters.{is_between, is_break_unit}
use Rattle.utf16_text.specs.Digits.{is_digit}
use Rattle.js_tree.specs.declared.place.Place.{Place}

-- whether there is a first unit, and it passes the test
abbrev pub first_passes : (ℕ → Bool) → List ℕ → Bool
first_passes test [] = false
first_passes test (u ∷ us) = test u

-- whether this unit comes first
abbrev pub begins_with : ℕ → List ℕ → Bool
begins_with u us = first_passes (λ v. nat_eq v u) us

-- begins a word: an ASCII letter, `$` (36) or `_` (95)
abbrev pub is_word_start : ℕ → Bool
is_word_start u = is_between 97 122 u || is_between 65 90 u || nat_eq u 36 || nat_eq u 95

abbrev pub is_word_part : ℕ → Bool
is_word_part u = is_word_start u || is_digit u

abbrev pub has_break : List ℕ → Bool
has_break us = list_any is_break_unit us

-- The place after these units. CR LF (13, 10) is one break.
abbrev pub place_after : Place → List ℕ → Place
place_after p [] = p
place_after p (u ∷ us) =
    if nat_eq u 13 && begins_with 10 us then place_after p us
    else if is_break_unit u then place_after (record { line = p.line + 1; column = 1 }) us
    else place_after (record { line = p.line; column = p.column + 1 }) us
