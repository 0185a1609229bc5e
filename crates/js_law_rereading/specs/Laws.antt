-- The law of reading printed tokens again, on the trees that reading can give.
use Rattle.std.specs.Prelude.{◌≡◌, ℕ, List, map, Ok}
use Rattle.std.specs.List.{flat_map}
use Rattle.js_tree.specs.declared.place.Place.{Place}
use Rattle.js_tree.specs.declared.token.Token.{Token}
use Rattle.js_tree.specs.Tree.{StatementTree, statements_of}
use Rattle.js_grammar.specs.Statements.{at_top, script_within, script_without_limit}
use Rattle.js_grammar.specs.Printing.{statement_tokens}
use Rattle.js_grammar.specs.Placeless.{placeless_statement}
use Rattle.js_law_readable.specs.Readable.{AreStatements}

-- Where reading can give a tree, its printed tokens are read, with no limit of nesting, as the same tree, places put
-- aside.
abbrev pub PrintedTokensAreReadAgain : Type 0
PrintedTokensAreReadAgain =
    (end : Place) (body : List StatementTree) → AreStatements at_top (statements_of body)
    → script_without_limit end (flat_map statement_tokens body) ≡ Ok (map placeless_statement body)

-- The same of each script that reading gives, wherever the one and the other end.
abbrev pub ScriptsReadAreReadAgain : Type 0
ScriptsReadAreReadAgain =
    (end other : Place) (room : ℕ) (ts : List Token) (body : List StatementTree)
    → script_within end room ts ≡ Ok body → script_without_limit other (flat_map statement_tokens body) ≡ Ok (map placeless_statement body)
