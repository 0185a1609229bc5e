-- Tokens that a text can spell.
use Rattle.std.specs.Prelude.{ℕ, ℤ, pos, negsuc, List, [], ◌∷◌, ◌++◌, length, Option, Some, None, is_ok, Bool, true, false, ◌&&◌, not, nat_eq, nat_le}
use Rattle.std.specs.List.{list_all}
use Rattle.utf16_text.specs.Units.{is_unit}
use Rattle.js_pattern_reader.specs.Literal.{Literal}
use Rattle.js_tree.specs.declared.token.TokenKind.{TokenKind}
use Rattle.js_tree.specs.declared.token.TokenKind.TheVariants.{Word, Number, Text, Pattern, Sign}
use Rattle.js_grammar.specs.Units.{first_passes, is_word_start, is_word_part}
use Rattle.js_grammar.specs.Patterns.{is_plain, body_length, literal_of}
use Rattle.whole_number.specs.declared.whole.TheConstants.{LARGEST}

-- from 0 to 2^53 - 1
abbrev pub is_literal : ℤ → Bool
is_literal (pos n) = nat_le n LARGEST
is_literal (negsuc n) = false

-- whether there is a count, and it is this one
abbrev pub comes_to : ℕ → Option ℕ → Bool
comes_to n None = false
comes_to n (Some m) = nat_eq m n

-- a body isn't empty, and doesn't begin with `*` (42), behind which a comment would begin
abbrev pub begins_body : ℕ → Bool
begins_body u = not (nat_eq u 42)

-- it is ASCII alone, and a slash (47) behind it is the first that ends it
abbrev pub is_body : List ℕ → Bool
is_body us = first_passes begins_body us && list_all is_plain us && comes_to (length us) (body_length (us ++ 47 ∷ []))

-- a body and flags that are a pattern
abbrev pub is_pattern_literal : Literal → Bool
is_pattern_literal l = is_body l.body && list_all is_word_part l.flags && is_ok (literal_of l.body l.flags)

-- words of word units, whole numbers that a literal can have, texts of 16-bit units, pattern literals as they are kept,
-- and each sign
abbrev pub is_spellable : TokenKind → Bool
is_spellable (Word w) = first_passes is_word_start w && list_all is_word_part w
is_spellable (Number n) = is_literal n
is_spellable (Text x) = list_all is_unit x
is_spellable (Pattern l) = is_pattern_literal l
is_spellable (Sign s) = true
