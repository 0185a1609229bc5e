-- The laws on what reading sees of tokens beside their kinds: their places, and lines' ends before them.
use Rattle.std.specs.Prelude.{◌≡◌, ℕ, List, ◌∷◌, map, Result, Ok, Err, true, false}
use Rattle.js_tree.specs.declared.place.Place.{Place}
use Rattle.js_tree.specs.declared.token.Token.{Token}
use Rattle.js_grammar.specs.declared.around.Around.{Around}
use Rattle.js_grammar.specs.Reading.{Refusal}
use Rattle.js_grammar.specs.Statements.{statement, deeper, script_within}
use Rattle.js_grammar.specs.Printing.{nowhere}
use Rattle.js_grammar.specs.Placeless.{placeless_statement}
use Rattle.js_law_places.specs.Placeless.{placeless}

-- A statement is read the same whether or not a line ends before its first token.
abbrev pub FirstLineIsNotSeen : Type 0
FirstLineIsNotSeen =
    (end : Place) (room : ℕ) (around : Around) (t : Token) (ts : List Token)
    → statement end (deeper end room) around (record t { after_line = true } ∷ ts) ≡ statement end (deeper end room) around (record t { after_line = false } ∷ ts)

-- what reading gives, with places put aside: those in a value, as `strip` says, and that of a refusal
abbrev pub put_aside : {A B : Type 0} → (A → B) → Result A Refusal → Result B Refusal
put_aside strip (Ok x) = Ok (strip x)
put_aside strip (Err e) = Err (e.0, nowhere)

-- Reading tokens whose places are put aside, to an end whose place is too, is reading them, with places put aside.
abbrev pub PlacesArePutAside : Type 0
PlacesArePutAside =
    (end : Place) (room : ℕ) (ts : List Token)
    → script_within nowhere room (placeless ts) ≡ put_aside (map placeless_statement) (script_within end room ts)
