-- The laws that a token's spelling is read as that token, that what is read can be spelt, and that the bytes of a printed
-- script are lexed as its printed tokens.
use Rattle.std.specs.Prelude.{◌≡◌, ◌⊎◌, ℕ, List, ◌∷◌, ◌++◌, length, Some, Ok, Bool, true, false}
use Rattle.std.specs.List.{flat_map, All}
use Rattle.utf16_text.specs.Units.{IsText}
use Rattle.js_tree.specs.declared.token.Token.{Token}
use Rattle.js_tree.specs.declared.token.TokenKind.{TokenKind}
use Rattle.js_tree.specs.declared.token.TokenKind.TheVariants as token
use Rattle.js_tree.specs.declared.sign.Sign.TheVariants as sign
use Rattle.js_tree.specs.Tree.{StatementTree, statements_of}
use Rattle.js_grammar.specs.Statements.{at_top}
use Rattle.js_grammar.specs.Printing.{statement_tokens}
use Rattle.js_grammar.specs.Spelling.{spelling, printed_bytes}
use Rattle.js_grammar.specs.Tokens.{piece_at, tokens_of}
use Rattle.js_law_readable.specs.Readable.{AreStatements}
use Rattle.js_law_places.specs.Placeless.{placeless}
use Rattle.js_law_spelling.specs.Spellable.{is_spellable}
use Rattle.js_law_spelling.specs.Lined.{lined}

-- a sign that begins with a slash stands only where a slash divides
abbrev pub needs_value : TokenKind → Bool
needs_value (token.Sign sign.Slash) = true
needs_value (token.Sign sign.SlashAssign) = true
needs_value _ = false

abbrev pub is_pattern : TokenKind → Bool
is_pattern (token.Pattern l) = true
is_pattern _ = false

-- and a pattern literal only where none does
abbrev pub MayStand : Bool → TokenKind → Type 0
MayStand divides k = (needs_value k ≡ true → divides ≡ true) × (is_pattern k ≡ true → divides ≡ false)

-- the spelling of a token, a space (32) or a line feed (10) behind it, is read as that token
abbrev pub SpellingsAreRead : Type 0
SpellingsAreRead =
    (divides : Bool) (k : TokenKind) (gap : ℕ) (rest : List ℕ)
    → is_spellable k ≡ true → MayStand divides k → (gap ≡ 32) ⊎ (gap ≡ 10)
    → piece_at divides (spelling k ++ gap ∷ rest) ≡ Ok (Some k, length (spelling k))

-- each token of a text of 16-bit units can be spelt
abbrev pub TokensAreSpellable : Type 0
TokensAreSpellable =
    (us : List ℕ) (ts : List Token) → IsText us → tokens_of us ≡ Ok ts → All (λ t. is_spellable t.kind ≡ true) ts

-- for each readable script whose tokens can be spelt, places aside
abbrev pub PrintedScriptsAreLexed : Type 0
PrintedScriptsAreLexed =
    (body : List StatementTree)
    → AreStatements at_top (statements_of body) → All (λ t. is_spellable t.kind ≡ true) (flat_map statement_tokens body)
    → (ts : List Token) × (tokens_of (printed_bytes body) ≡ Ok ts) × (placeless ts ≡ lined body)
