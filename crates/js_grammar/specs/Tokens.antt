-- The tokens of a text (ECMA-262 5.1, section 7, cut to this profile): the longest at each place, or the first refusal.
use Rattle.std.specs.Prelude.{ℕ, zero, suc, ◌+◌, List, [], ◌∷◌, ◌++◌, length, take, drop, Option, Some, None, Result, Ok, Err, Bool, true, false, ◌&&◌, ◌||◌, not, nat_eq, if◌then◌else◌}
use Rattle.std.specs.Option.{option_map}
use Rattle.std.specs.List.{prefix_len}
use Rattle.utf16_text.specs.Letters.{is_break_unit, is_space_unit}
use Rattle.js_tree.specs.declared.place.Place.{Place}
use Rattle.js_tree.specs.declared.token.Token.{Token}
use Rattle.js_tree.specs.declared.token.TokenKind.{TokenKind}
use Rattle.js_tree.specs.declared.token.TokenKind.TheVariants.{Word, Number, Text, Pattern, Sign}
use Rattle.js_tree.specs.declared.sign.Sign.{Sign as SignName}
use Rattle.js_tree.specs.declared.sign.Sign.TheVariants as sign
use Rattle.js_tree.specs.declared.refusal.ReadKind.{ReadKind}
use Rattle.js_tree.specs.declared.refusal.ReadKind.TheVariants.{BadToken, FractionLiteral}
use Rattle.js_tree.specs.declared.keyword.Keyword.{Keyword}
use Rattle.js_tree.specs.declared.keyword.Keyword.TheVariants as word
use Rattle.js_grammar.specs.Reading.{Refusal, ◌>>=◌}
use Rattle.utf16_text.specs.Digits.{is_digit}
use Rattle.js_grammar.specs.Units.{first_passes, begins_with, is_word_start, is_word_part, has_break, place_after}
use Rattle.js_grammar.specs.Words.{keyword_of}
use Rattle.js_grammar.specs.Signs.{sign_at}
use Rattle.js_grammar.specs.Literals.{number_at, text_at}
use Rattle.js_grammar.specs.Patterns.{pattern_at}

-- ---- slashes

-- a word that is no keyword is a name; of the keywords these four are values
abbrev pub is_value_word : Option Keyword → Bool
is_value_word None = true
is_value_word (Some word.This) = true
is_value_word (Some word.Null) = true
is_value_word (Some word.True) = true
is_value_word (Some word.False) = true
is_value_word (Some _) = false

abbrev pub is_closing_sign : SignName → Bool
is_closing_sign sign.RightParenthesis = true
is_closing_sign sign.RightBracket = true
is_closing_sign sign.RightBrace = true
is_closing_sign sign.PlusPlus = true
is_closing_sign sign.MinusMinus = true
is_closing_sign _ = false

abbrev pub is_dot : TokenKind → Bool
is_dot (Sign sign.Dot) = true
is_dot _ = false

-- whether a dot comes first
abbrev pub dot_first : List Token → Bool
dot_first [] = false
dot_first (t ∷ ts) = is_dot t.kind

-- whether a token may end a value; behind a dot each word is a name
abbrev pub ends_value : Bool → TokenKind → Bool
ends_value after_dot (Word w) = after_dot || is_value_word (keyword_of w)
ends_value after_dot (Number n) = true
ends_value after_dot (Text units) = true
ends_value after_dot (Pattern l) = false
ends_value after_dot (Sign s) = is_closing_sign s

-- Whether a slash divides, by the tokens before it, the last one first. Elsewhere it begins a pattern literal (7.8.5),
-- also behind another one.
abbrev pub divides : List Token → Bool
divides [] = false
divides (t ∷ ts) = ends_value (dot_first ts) t.kind

-- ---- what stands at the front, and how many units it has: a token, or none for white space and comments

abbrev pub Piece : Type 0
Piece = Option TokenKind × ℕ

abbrev pub is_inline : ℕ → Bool
is_inline u = not (is_break_unit u)

-- how many units there are up to the next `*/` (42, 47), which is among them
abbrev pub comment_length : List ℕ → Option ℕ
comment_length [] = None
comment_length (u ∷ us) = if nat_eq u 42 && begins_with 47 us then Some 2 else option_map (λ n. n + 1) (comment_length us)

-- a comment has an end
abbrev pub comment_piece : Option ℕ → Result Piece ReadKind
comment_piece None = Err BadToken
comment_piece (Some n) = Ok (None, n + 2)

-- a unit that begins no sign begins no token
abbrev pub sign_piece : Option (SignName × ℕ) → Result Piece ReadKind
sign_piece None = Err BadToken
sign_piece (Some x) = Ok (Some (Sign x.0), x.1)

-- us: the units behind the first slash
abbrev pub pattern_piece : List ℕ → Result Piece ReadKind
pattern_piece us = pattern_at us >>= λ x. Ok (Some (Pattern x.0), x.1 + 1)

-- at a slash (47): a comment, a division sign, or a pattern literal
abbrev pub slash_piece : Bool → List ℕ → Result Piece ReadKind
slash_piece dividing us =
    if begins_with 47 (drop 1 us) then Ok (None, prefix_len is_inline (drop 1 us) + 1)
    else if begins_with 42 (drop 1 us) then comment_piece (comment_length (drop 2 us))
    else if dividing then sign_piece (sign_at us)
    else pattern_piece (drop 1 us)

abbrev pub word_piece : List ℕ → Result Piece ReadKind
word_piece us = let n = prefix_len is_word_part us in Ok (Some (Word (take n us)), n)

abbrev pub number_piece : List ℕ → Result Piece ReadKind
number_piece us = number_at us >>= λ x. Ok (Some (Number x.0), x.1)

-- us: the units behind the first quote
abbrev pub text_piece : ℕ → List ℕ → Result Piece ReadKind
text_piece quote us = text_at quote us >>= λ x. Ok (Some (Text x.0), x.1 + 1)

-- `'` (39) or `"` (34)
abbrev pub is_quote : ℕ → Bool
is_quote u = nat_eq u 39 || nat_eq u 34

unfoldable pub piece_at : Bool → List ℕ → Result Piece ReadKind
piece_at dividing [] = Ok (None, 0)
piece_at dividing (u ∷ us) =
    if is_space_unit u then Ok (None, prefix_len is_space_unit us + 1)
    else if is_word_start u then word_piece (u ∷ us)
    else if is_digit u then number_piece (u ∷ us)
    else if nat_eq u 46 && first_passes is_digit us then Err FractionLiteral
    else if is_quote u then text_piece u us
    else if nat_eq u 47 then slash_piece dividing (u ∷ us)
    else sign_piece (sign_at (u ∷ us))

-- ---- tokens

abbrev pub at_place : {A : Type 0} → Place → Result A ReadKind → Result A Refusal
at_place place (Ok x) = Ok x
at_place place (Err kind) = Err (kind, place)

-- the token of a piece, where it is one
abbrev pub piece_tokens : Option TokenKind → Place → Bool → List Token
piece_tokens None place after_line = []
piece_tokens (Some kind) place after_line = record { kind = kind; place = place; after_line = after_line } ∷ []

-- whether a line ended since the last token, behind a piece of these units
abbrev pub line_ended : Option TokenKind → Bool → List ℕ → Bool
line_ended None after_line us = after_line || has_break us
line_ended (Some kind) after_line us = false

-- The tokens from a place on, in at most n pieces. after_line: a line ended since the last token; before: the tokens
-- before the place, the last one first.
unfoldable pub tokens_from : ℕ → Place → Bool → List Token → List ℕ → Result (List Token) Refusal
tokens_from zero place after_line before us = Ok []
tokens_from (suc n) place after_line before [] = Ok []
tokens_from (suc n) place after_line before (u ∷ us) = do
  piece ← at_place place (piece_at (divides before) (u ∷ us))
  let units = take piece.1 (u ∷ us)
  let here = piece_tokens piece.0 place after_line
  others ← tokens_from n (place_after place units) (line_ended piece.0 after_line units) (here ++ before) (drop piece.1 (u ∷ us))
  Ok (here ++ others)

-- each piece has a unit at least
abbrev pub tokens_of : List ℕ → Result (List Token) Refusal
tokens_of us = tokens_from (suc (length us)) (record { line = 1; column = 1 }) false [] us
