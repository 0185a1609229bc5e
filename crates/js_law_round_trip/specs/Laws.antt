-- The two laws that bind reading and printing, on texts.
use Rattle.std.specs.Prelude.{◌≡◌, ℕ, List, map, Ok, Result, true}
use Rattle.js_tree.specs.declared.token.Token.{Token}
use Rattle.js_tree.specs.Tree.{StatementTree}
use Rattle.js_grammar.specs.Reading.{Refusal, ◌>>=◌}
use Rattle.js_grammar.specs.Units.{place_after}
use Rattle.js_grammar.specs.Tokens.{tokens_of}
use Rattle.js_grammar.specs.Statements.{script_of_text, script_without_limit}
use Rattle.js_grammar.specs.Spelling.{printed_bytes}
use Rattle.js_grammar.specs.Placeless.{placeless_statement}
use Rattle.utf16_text.specs.Units.{IsText}
use Rattle.js_law_tokens.specs.BareTokens.{bare_tokens}

-- the script that a text spells, without a limit of nesting
abbrev pub script_of_any_depth : List ℕ → Result (List StatementTree) Refusal
script_of_any_depth us = do
  ts ← tokens_of us
  script_without_limit (place_after (record { line = 1; column = 1 }) us) ts

-- What reading gives of these units and then prints is read back, without the limit of nesting, as the same script, places
-- put aside.
abbrev pub IsReadBack : List ℕ → Type 0
IsReadBack us =
    (body : List StatementTree) → script_of_text us ≡ Ok body
    → (script_of_any_depth (printed_bytes body) >>= λ again. Ok (map placeless_statement again)) ≡ Ok (map placeless_statement body)

-- Reading these units and printing lose, invent and reorder no token but round brackets, commas and semicolons.
abbrev pub KeepsTokens : List ℕ → Type 0
KeepsTokens us =
    (ts : List Token) (body : List StatementTree) → tokens_of us ≡ Ok ts → script_of_text us ≡ Ok body
    → (tokens_of (printed_bytes body) >>= λ again. Ok (bare_tokens again)) ≡ Ok (bare_tokens ts)

-- what is printed is read back, for every text
abbrev pub PrintingIsReadBack : Type 0
PrintingIsReadBack = (us : List ℕ) → IsText us → IsReadBack us

-- tokens are kept, for every text
abbrev pub TokensAreKept : Type 0
TokensAreKept = (us : List ℕ) → IsText us → KeepsTokens us
