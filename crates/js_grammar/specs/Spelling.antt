-- The bytes of a printed script, this project's spelling: ASCII alone.
use Rattle.std.specs.Prelude.{ℕ, List, [], ◌∷◌, ◌++◌, true, false, codes}
use Rattle.std.specs.List.{flat_map}
use Rattle.std.specs.Fmt.{signed_decimal}
use Rattle.utf16_text.specs.Escape.{escaped}
use Rattle.js_tree.specs.declared.token.Token.{Token}
use Rattle.js_tree.specs.declared.token.TokenKind.{TokenKind}
use Rattle.js_tree.specs.declared.token.TokenKind.TheVariants as token
use Rattle.js_tree.specs.Tree.{StatementTree}
use Rattle.js_pattern_reader.specs.Literal.{Literal}
use Rattle.js_grammar.specs.Patterns.{ascii_unit}
use Rattle.js_grammar.specs.Signs.{sign_spelling}
use Rattle.js_grammar.specs.Printing.{statement_tokens}

abbrev pub quotation_mark : ℕ
quotation_mark = 34

abbrev pub line_feed : ℕ
line_feed = 10

-- between two slashes (47) a body that is kept in ASCII, and its flags behind them
abbrev pub pattern_spelling : Literal → List ℕ
pattern_spelling l = 47 ∷ (flat_map ascii_unit l.body ++ 47 ∷ flat_map ascii_unit l.flags)

-- a text stands in `"` with its escape, and a number in decimal
abbrev pub spelling : TokenKind → List ℕ
spelling (token.Word w) = escaped false w
spelling (token.Number n) = signed_decimal n
spelling (token.Text x) = quotation_mark ∷ (escaped true x ++ quotation_mark ∷ [])
spelling (token.Pattern l) = pattern_spelling l
spelling (token.Sign s) = sign_spelling s

-- tokens parted by one space, with a line feed (10) behind the last
abbrev pub line : List Token → List ℕ
line [] = line_feed ∷ []
line (t ∷ []) = spelling t.kind ++ line_feed ∷ []
line (t ∷ u ∷ ts) = spelling t.kind ++ (codes " " ++ line (u ∷ ts))

-- a script as it is printed: each of its statements is a line
abbrev pub printed_bytes : List StatementTree → List ℕ
printed_bytes body = flat_map (λ s. line (statement_tokens s)) body
