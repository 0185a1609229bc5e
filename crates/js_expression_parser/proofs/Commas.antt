-- Expressions that commas part, behind the first one.
use Rattle.std.proofs.Common.{◌≡◌, List, Some, Ok, refl}
use Rattle.js_tree.specs.declared.place.Place.{Place}
use Rattle.js_tree.specs.declared.token.Token.{Token}
use Rattle.js_tree.specs.declared.sign.Sign.TheVariants as sign
use Rattle.js_tree.specs.declared.refusal.ReadAnswer.{ReadAnswer}
use Rattle.js_tree.specs.declared.refusal.ReadAnswer.TheVariants as answers
use Rattle.js_tree.specs.Tree.{ExpressionTree}
use Rattle.js_grammar.specs.declared.form.Form.{Form}
use Rattle.js_grammar.specs.declared.turn.Turn.TheVariants.{More}
use Rattle.js_grammar.specs.Reading.{Fails}
use Rattle.js_grammar.specs.Readers.{row, next_sign, rest_of, place_at}
use Rattle.js_grammar.specs.Expressions.{Deeper, a_part, expression, joined}

module _ (end : Place) (d : Deeper) (form : Form) (ts : List Token) where
  -- behind a comma more come
  pub more_come : (e : ExpressionTree) (rest : List Token) → d.value form ts ≡ Ok (e, rest) → next_sign rest ≡ Some sign.Comma → a_part end d form ts ≡ Ok (More e, rest_of rest)
  unfolding a_part
  more_come e rest first comma = rw first (rw comma refl)

  pub all_give : (all : List ExpressionTree) (rest : List Token) → row (a_part end d form) ts ≡ Ok (all, rest) → expression end d form ts ≡ Ok (joined (place_at end ts) all, rest)
  unfolding expression
  all_give all rest e = rw e refl

  pub all_fail : (r : ReadAnswer) → Fails r (row (a_part end d form) ts) → Fails r (expression end d form ts)
  unfolding expression
  all_fail answers.Memory h = tt
  all_fail (answers.Refused kind place) h = rw h refl
