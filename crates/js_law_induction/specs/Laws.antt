-- What reading a statement leaves of the tokens.
use Rattle.std.specs.Prelude.{◌≡◌, ◌≤◌, ℕ, List, length, Ok}
use Rattle.js_tree.specs.declared.place.Place.{Place}
use Rattle.js_tree.specs.declared.token.Token.{Token}
use Rattle.js_tree.specs.Tree.{StatementTree}
use Rattle.js_grammar.specs.declared.around.Around.{Around}
use Rattle.js_grammar.specs.Statements.{statement, deeper}

-- Behind a statement no more tokens are left than it was read from, whatever the room for nesting.
abbrev pub NothingIsGivenBack : Type 0
NothingIsGivenBack =
    (end : Place) (room : ℕ) (around : Around) (ts : List Token) (s : StatementTree) (rest : List Token)
    → statement end (deeper end room) around ts ≡ Ok (s, rest) → length rest ≤ length ts
