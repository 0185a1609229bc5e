-- The words and units at the ends of a text (ECMA-262 5.1, section 7.6).
use Rattle.std.specs.Prelude.{ℕ, ◌-◌, max, List, length, take, drop, reverse, if◌then◌else◌}
use Rattle.std.specs.List.{prefix_len}
use Rattle.js_grammar.specs.Units.{first_passes, is_word_start, is_word_part}

-- the word that stands first, or else the first unit alone
abbrev pub first_piece : List ℕ → List ℕ
first_piece us = take (if first_passes is_word_start us then prefix_len is_word_part us else 1) us

-- the word that stands last, with the digits before it, or else the last unit alone
abbrev pub last_piece : List ℕ → List ℕ
last_piece us = drop (length us - max (prefix_len is_word_part (reverse us)) 1) us
