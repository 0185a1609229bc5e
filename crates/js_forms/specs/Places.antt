-- Which unit stands at a place (ECMA-262 5.1, section 7.3): lines and columns are counted as `place_after` counts them.
use Rattle.std.specs.Prelude.{ℕ, ◌+◌, List, [], ◌∷◌, Bool, ◌&&◌, nat_eq, if◌then◌else◌}
use Rattle.utf16_text.specs.Letters.{is_break_unit}
use Rattle.js_tree.specs.declared.place.Place.{Place}
use Rattle.js_grammar.specs.Units.{begins_with}

abbrev pub first_place : Place
first_place = record { line = 1; column = 1 }

abbrev pub is_same : Place → Place → Bool
is_same p q = nat_eq p.line q.line && nat_eq p.column q.column

abbrev pub begins_line_feed : List ℕ → Bool
begins_line_feed us = begins_with 10 us

-- the place of the unit behind this one; carriage return (13) and line feed (10) are one break
abbrev pub next_place : Place → ℕ → List ℕ → Place
next_place p u us =
    if nat_eq u 13 && begins_line_feed us then p
    else if is_break_unit u then record { line = p.line + 1; column = 1 }
    else record { line = p.line; column = p.column + 1 }

-- how many of these units, of which the first stands `here`, stand before a place
abbrev pub units_before : Place → Place → List ℕ → ℕ
units_before place here [] = 0
units_before place here (u ∷ us) = if is_same here place then 0 else units_before place (next_place here u us) us + 1
