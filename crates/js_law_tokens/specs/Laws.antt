-- The laws that bind reading and printing token by token.
use Rattle.std.specs.Prelude.{◌≡◌, ℕ, List, Some, Ok, Bool, true}
use Rattle.std.specs.List.{flat_map, All}
use Rattle.js_tree.specs.declared.place.Place.{Place}
use Rattle.js_tree.specs.declared.token.Token.{Token}
use Rattle.js_tree.specs.declared.token.TokenKind.{TokenKind}
use Rattle.js_tree.specs.declared.token.TokenKind.TheVariants as token
use Rattle.js_tree.specs.declared.sign.Sign.{Sign}
use Rattle.js_tree.specs.Tree.{StatementTree}
use Rattle.js_grammar.specs.Expressions.{name_in}
use Rattle.js_grammar.specs.Printing.{statement_tokens}
use Rattle.js_grammar.specs.Statements.{script_within}
use Rattle.js_law_tokens.specs.BareTokens.{bare_tokens}

-- Where tokens spell a script, it is printed as the same bare tokens, whatever the room for nesting.
abbrev pub ReadingKeepsTokens : Type 0
ReadingKeepsTokens =
    (end : Place) (room : ℕ) (ts : List Token) (body : List StatementTree)
    → script_within end room ts ≡ Ok body → bare_tokens (flat_map statement_tokens body) ≡ bare_tokens ts

-- what holds of each sign, and of the text of a property's name wherever it holds of the token that is this name
pub record HoldsOfNames (P : TokenKind → Type 0) : Type 0 where
  pub sign : (s : Sign) → P (token.Sign s)
  pub name : (k : TokenKind) (x : List ℕ) → name_in k ≡ Some x → P k → P (token.Text x)

-- where it holds of each token that spells a script, it holds of each token that the script is printed as
abbrev pub HoldsOfPrinted : (TokenKind → Type 0) → Type 0
HoldsOfPrinted P =
    (end : Place) (room : ℕ) (ts : List Token) (body : List StatementTree)
    → script_within end room ts ≡ Ok body → All (λ t. P t.kind) ts → All (λ t. P t.kind) (flat_map statement_tokens body)

-- each test is such a property
abbrev pub TestsHoldOfPrinted : Type 0
TestsHoldOfPrinted = (test : TokenKind → Bool) → HoldsOfNames (λ k. test k ≡ true) → HoldsOfPrinted (λ k. test k ≡ true)
