-- Worked examples of the tokens of a printed script, by computation alone.
use Rattle.std.specs.Prelude.{◌≡◌, [], ◌∷◌, codes, Ok, refl}
use Rattle.js_tree.specs.declared.token.TokenKind.TheVariants.{Word, Sign}
use Rattle.js_tree.specs.declared.sign.Sign.TheVariants as sign
use Rattle.js_tree.specs.declared.operators.BinaryOp.TheVariants as binary
use Rattle.js_tree.specs.Tree.{StatementTree, Name, Chain, no_operand, an_operand, Empty, Evaluate}
use Rattle.js_grammar.specs.TokenExamples.{at, token, token_on_new_line}
use Rattle.js_grammar.specs.Readers.{unbound}
use Rattle.js_grammar.specs.Printing.{nowhere, expression_tokens}
use Rattle.js_grammar.specs.Spelling.{printed_bytes}
use Rattle.js_grammar.specs.Tokens.{tokens_from, piece_at, tokens_of}
use Rattle.js_law_spelling.specs.Lined.{lined}

-- `a / b`
abbrev division : StatementTree
division = Evaluate nowhere (Chain nowhere (Name nowhere (unbound (codes "a"))) (an_operand nowhere binary.Divide (Name nowhere (unbound (codes "b"))) no_operand))

-- `( a / b ) ;`, a line feed and `;`
pub lexed : tokens_of (printed_bytes (division ∷ Empty nowhere ∷ []))
    ≡ Ok (token (Sign sign.LeftParenthesis) (at 1 1) ∷ token (Word (codes "a")) (at 1 3) ∷ token (Sign sign.Slash) (at 1 5) ∷ token (Word (codes "b")) (at 1 7) ∷ token (Sign sign.RightParenthesis) (at 1 9) ∷ token (Sign sign.Semicolon) (at 1 11) ∷ token_on_new_line (Sign sign.Semicolon) (at 2 1) ∷ [])
unfolding tokens_from piece_at expression_tokens
lexed = refl

-- the same, each in the first place
pub placed_first : lined (division ∷ Empty nowhere ∷ [])
    ≡ token (Sign sign.LeftParenthesis) (at 1 1) ∷ token (Word (codes "a")) (at 1 1) ∷ token (Sign sign.Slash) (at 1 1) ∷ token (Word (codes "b")) (at 1 1) ∷ token (Sign sign.RightParenthesis) (at 1 1) ∷ token (Sign sign.Semicolon) (at 1 1) ∷ token_on_new_line (Sign sign.Semicolon) (at 1 1) ∷ []
unfolding expression_tokens
placed_first = refl
