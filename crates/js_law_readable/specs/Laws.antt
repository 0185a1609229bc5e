-- The law that each script that reading gives is one of the readable trees.
use Rattle.std.specs.Prelude.{◌≡◌, ℕ, List, Ok}
use Rattle.js_tree.specs.declared.place.Place.{Place}
use Rattle.js_tree.specs.declared.token.Token.{Token}
use Rattle.js_tree.specs.Tree.{StatementTree, statements_of}
use Rattle.js_grammar.specs.Statements.{at_top, script_within, script_of_text}
use Rattle.js_law_readable.specs.Readable.{AreStatements}

-- with any room for nesting, wherever the script ends
abbrev pub ScriptsReadAreReadable : Type 0
ScriptsReadAreReadable =
    (end : Place) (room : ℕ) (ts : List Token) (body : List StatementTree)
    → script_within end room ts ≡ Ok body → AreStatements at_top (statements_of body)

-- and so for the script that a text spells
abbrev pub TextsReadAreReadable : Type 0
TextsReadAreReadable =
    (us : List ℕ) (body : List StatementTree) → script_of_text us ≡ Ok body → AreStatements at_top (statements_of body)
