-- Text literals (ECMA-262 5.1, section 7.8.4).
use Rattle.std.specs.Prelude.{ℕ, Bool, not, ◌&&◌, nat_eq}
use Rattle.utf16_text.specs.Letters.{is_break_unit}

-- whether a unit stands for itself in a text that this quote ends: not the quote, `\` (92) or a line terminator
abbrev pub is_plain : ℕ → ℕ → Bool
is_plain quote u = not (nat_eq u quote) && not (nat_eq u 92) && not (is_break_unit u)
