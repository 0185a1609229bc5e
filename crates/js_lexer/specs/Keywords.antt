-- The reserved words by the unit that they begin with.
use Rattle.std.specs.Prelude.{ℕ, List, [], ◌∷◌, Bool, false, nat_eq, filter}
use Rattle.js_tree.specs.declared.keyword.Keyword.{Keyword}
use Rattle.js_grammar.specs.Words.{keywords, keyword_spelling}

-- whether a word begins with the unit
abbrev pub begins : ℕ → List ℕ → Bool
begins unit [] = false
begins unit (first ∷ others) = nat_eq unit first

-- the reserved words that begin with the unit, in the order of the alphabet
unfoldable pub keywords_from : ℕ → List Keyword
keywords_from unit = filter (λ k. begins unit (keyword_spelling k)) keywords
