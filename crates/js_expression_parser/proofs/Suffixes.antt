-- An expression behind which no suffix begins.
use Rattle.std.proofs.Common.{◌≡◌, List, Ok, refl}
use Rattle.js_tree.specs.declared.place.Place.{Place}
use Rattle.js_tree.specs.declared.token.Token.{Token}
use Rattle.js_tree.specs.Tree.{ExpressionTree}
use Rattle.js_grammar.specs.declared.form.LeftSide.{LeftSide}
use Rattle.js_grammar.specs.declared.turn.Turn.TheVariants.{End}
use Rattle.js_grammar.specs.Readers.{row_of}
use Rattle.js_grammar.specs.Expressions.{Deeper, primary, a_suffix, suffixed}

pub stands_alone : (end : Place) (d : Deeper) (left : LeftSide) (ts : List Token) (e : ExpressionTree) (rest : List Token)
    → primary end d ts ≡ Ok (e, rest) → a_suffix end d left rest ≡ Ok (End, rest) → suffixed end d left ts ≡ Ok (e, rest)
unfolding row_of suffixed
stands_alone end d left ts e rest first none = rw first (rw none refl)
