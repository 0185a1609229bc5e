-- Bytes with tokens written behind them.
use Rattle.std.specs.Prelude.{ℕ, List, [], ◌∷◌, ◌++◌, codes}
use Rattle.js_tree.specs.declared.token.Token.{Token}
use Rattle.js_grammar.specs.Spelling.{spelling}

-- each token with a space behind it
unfoldable pub written : List ℕ → List Token → List ℕ
written out [] = out
written out (t ∷ ts) = written (out ++ (spelling t.kind ++ codes " ")) ts
