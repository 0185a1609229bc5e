-- Worked examples of bare tokens, by computation alone.
use Rattle.std.specs.Prelude.{◌≡◌, pos, [], ◌∷◌, codes, refl}
use Rattle.std.specs.Fmt.{digits}
use Rattle.js_tree.specs.declared.token.TokenKind.TheVariants.{Word, Number, Text, Pattern, Sign}
use Rattle.js_tree.specs.declared.sign.Sign.TheVariants as sign
use Rattle.js_grammar.specs.TokenExamples.{at, token, token_on_new_line}
use Rattle.js_law_tokens.specs.BareTokens.{a_sign, a_text, a_pattern, bare_tokens}

-- `{7:b,}` is bare as `{"7":` and `b}` on the next line are: the number is a text, and the comma is left out
pub number_for_text : bare_tokens (token (Sign sign.LeftBrace) (at 1 1) ∷ token (Number (pos 7)) (at 1 2) ∷ token (Sign sign.Colon) (at 1 3) ∷ token (Word (codes "b")) (at 1 4) ∷ token (Sign sign.Comma) (at 1 5) ∷ token (Sign sign.RightBrace) (at 1 6) ∷ [])
    ≡ bare_tokens (token (Sign sign.LeftBrace) (at 1 1) ∷ token (Text (codes "7")) (at 1 2) ∷ token (Sign sign.Colon) (at 1 5) ∷ token_on_new_line (Word (codes "b")) (at 2 1) ∷ token (Sign sign.RightBrace) (at 2 2) ∷ [])
unfolding digits
number_for_text = refl

-- `( if ) ;`: a reserved word is a text, and round brackets and semicolons are left out
pub reserved_word : bare_tokens (token (Sign sign.LeftParenthesis) (at 1 1) ∷ token (Word (codes "if")) (at 1 2) ∷ token (Sign sign.RightParenthesis) (at 1 4) ∷ token (Sign sign.Semicolon) (at 1 5) ∷ [])
    ≡ a_text (codes "if") ∷ []
reserved_word = refl

-- square brackets stay
pub square_brackets : bare_tokens (token (Sign sign.LeftBracket) (at 1 1) ∷ token (Sign sign.RightBracket) (at 1 2) ∷ [])
    ≡ a_sign sign.LeftBracket ∷ a_sign sign.RightBracket ∷ []
square_brackets = refl

-- `(/a/g)` is bare as its pattern literal
pub pattern_literal : bare_tokens (token (Sign sign.LeftParenthesis) (at 1 1) ∷ token (Pattern (record { body = codes "a"; flags = codes "g" })) (at 1 2) ∷ token (Sign sign.RightParenthesis) (at 1 6) ∷ [])
    ≡ a_pattern (record { body = codes "a"; flags = codes "g" }) ∷ []
pattern_literal = refl
