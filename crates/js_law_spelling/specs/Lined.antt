-- The tokens of a printed script, a line for each statement, each token in the first place.
use Rattle.std.specs.Prelude.{List, [], ◌∷◌, ◌++◌, true}
use Rattle.std.specs.List.{flat_map}
use Rattle.js_tree.specs.declared.token.Token.{Token}
use Rattle.js_tree.specs.Tree.{StatementTree}
use Rattle.js_grammar.specs.Printing.{statement_tokens}

-- a line ended before the first of them
abbrev pub behind_line : List Token → List Token
behind_line [] = []
behind_line (t ∷ ts) = record t { after_line = true } ∷ ts

abbrev pub line_tokens : StatementTree → List Token
line_tokens s = behind_line (statement_tokens s)

-- each statement but the first stands behind a line's end
abbrev pub lined : List StatementTree → List Token
lined [] = []
lined (s ∷ ss) = statement_tokens s ++ flat_map line_tokens ss
