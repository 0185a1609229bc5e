-- What reading gives of `for`, by how its header begins.
use Rattle.std.proofs.Common.{List, [], ◌∷◌, Option, Some, None, Bool, true, false, refl}
use Rattle.js_tree.specs.declared.place.Place.{Place}
use Rattle.js_tree.specs.declared.sign.Sign.{Sign}
use Rattle.js_tree.specs.declared.sign.Sign.TheVariants as sign
use Rattle.js_tree.specs.declared.statement.Declared.{Declared}
use Rattle.js_tree.specs.Tree.{ExpressionTree, StartTree, no_start, start_var, start_value, TargetTree, target_value, target_declared, optional_of}
use Rattle.js_tree.specs.View.{declarations_of}
use Rattle.js_tree.specs.declared.keyword.Keyword.{Keyword}
use Rattle.js_tree.specs.declared.keyword.Keyword.TheVariants as word
use Rattle.js_grammar.specs.declared.form.Form.TheVariants.{NoIn}
use Rattle.js_grammar.specs.declared.around.Around.{Around}
use Rattle.js_grammar.specs.Readers.{row, rest_of, next_sign, next_keyword, is_sign, place_at, expect}
use Rattle.js_grammar.specs.Operators.{is_target}
use Rattle.js_grammar.specs.Expressions.{Deeper, expression}
use Rattle.js_grammar.specs.Statements.{in_loop, a_declared, before_in, optional_by, optional_expression, for_from, for_in_from, for_var_by, for_var, for_value_by, for_value, for_word, for_by, for_statement}
use Rattle.js_law_readable.specs.Readable.{IsExpression, IsStart, IsTarget}
use Rattle.js_law_readable.proofs.Steps.{step, chosen, OfOption, Reads, rest_short, Every, AreSome}
use Rattle.js_law_readable.proofs.ReadParts.{expect_short}
use Rattle.js_law_readable.proofs.ReadExpressions.{IsOption, option_is, PartsRead, expression_reads}
use Rattle.js_law_readable.proofs.ReadStatements.{IsDeclared, every_declared, some_declared, some_declared_read, ReadsOther}

before_in_is : (k : Option Keyword) (xs : List Declared) → Every IsDeclared xs → OfOption IsDeclared (before_in k xs)
before_in_is (Some word.In) [] h = tt
before_in_is (Some word.In) (x ∷ []) h = h.0
before_in_is (Some word.In) (x ∷ y ∷ xs) h = tt
before_in_is _ xs h = tt

module _ (end : Place) (d : Deeper) (g : PartsRead d) where
  optional_by_reads : (close : Sign) (b : Bool) → Reads IsOption (optional_by end d close b)
  optional_by_reads close true n ts h = (tt, rest_short n ts h)
  optional_by_reads close false n ts h =
      step _ (expression end d NoIn ts) _ (expression_reads end d g NoIn n ts h) (λ value k.
      step _ (expect end close value.1) _ (expect_short end close n value.1 k.1) (λ rest l. (k.0, l)))

  optional_reads : (close : Sign) → Reads IsOption (optional_expression end d close)
  unfolding optional_expression
  optional_reads close n ts h = optional_by_reads close (is_sign close (next_sign ts)) n ts h

  from_reads : (a : Around) (p : Place) (start : StartTree) → IsStart start → ReadsOther a (for_from end d a p start)
  unfolding for_from
  from_reads a p start is n ts h =
      step _ (expect end sign.Semicolon ts) _ (expect_short end sign.Semicolon n ts h) (λ first k.
      step _ (optional_expression end d sign.Semicolon first) _ (optional_reads sign.Semicolon n first k) (λ condition l.
      step _ (optional_expression end d sign.RightParenthesis condition.1) _ (optional_reads sign.RightParenthesis n condition.1 l.1) (λ after m.
      step _ (d.statement (in_loop a) after.1) _ (g.statement (in_loop a) n after.1 m.1) (λ body o.
      ((is, option_is condition.0 l.0, option_is after.0 m.0, o.0), o.1, refl, o.3)))))

  in_reads : (a : Around) (p : Place) (target : TargetTree) → IsTarget target → ReadsOther a (for_in_from end d a p target)
  unfolding for_in_from
  in_reads a p target is n ts h =
      step _ (expression end d NoIn ts) _ (expression_reads end d g NoIn n ts h) (λ object k.
      step _ (expect end sign.RightParenthesis object.1) _ (expect_short end sign.RightParenthesis n object.1 k.1) (λ rest l.
      step _ (d.statement (in_loop a) rest) _ (g.statement (in_loop a) n rest l) (λ body m.
      ((is, k.0, m.0), m.1, refl, m.3))))

  var_by_reads : (a : Around) (p q : Place) (o : Option Declared) (xs : List Declared) → OfOption IsDeclared o → AreSome IsDeclared xs → ReadsOther a (for_var_by end d a p q o xs)
  var_by_reads a p q (Some x) xs is are n ts h = in_reads a p (target_declared x.name (optional_of x.value)) (is.0, option_is x.value is.1) n (rest_of ts) (rest_short n ts h)
  var_by_reads a p q None xs is are n ts h = from_reads a p (start_var q (declarations_of xs)) (some_declared xs are.0, every_declared xs are.1) n ts h

  for_var_reads : (a : Around) (p q : Place) → ReadsOther a (for_var end d a p q)
  unfolding for_var
  for_var_reads a p q n ts h =
      step _ (row (a_declared end d NoIn) ts) _ (some_declared_read end d g NoIn n ts h) (λ names k.
      var_by_reads a p q (before_in (next_keyword names.1) names.0) names.0 (before_in_is (next_keyword names.1) names.0 k.0.1) k.0 n names.1 k.1)

  value_by_reads : (a : Around) (p : Place) (k : Option Keyword) (e : ExpressionTree) → IsExpression e → ReadsOther a (for_value_by end d a p k e)
  value_by_reads a p (Some word.In) e is n ts h = chosen _ (is_target e) _ _ (λ target. in_reads a p (target_value e) (target, is) n (rest_of ts) (rest_short n ts h)) (λ no. tt)
  value_by_reads a p _ e is n ts h = from_reads a p (start_value e) is n ts h

  for_value_reads : (a : Around) (p : Place) → ReadsOther a (for_value end d a p)
  unfolding for_value
  for_value_reads a p n ts h = step _ (expression end d NoIn ts) _ (expression_reads end d g NoIn n ts h) (λ value k. value_by_reads a p (next_keyword value.1) value.0 k.0 n value.1 k.1)

  for_word_reads : (a : Around) (p : Place) (k : Option Keyword) → ReadsOther a (for_word end d a p k)
  for_word_reads a p (Some word.Var) n ts h = for_var_reads a p (place_at end ts) n (rest_of ts) (rest_short n ts h)
  for_word_reads a p _ n ts h = for_value_reads a p n ts h

  for_by_reads : (a : Around) (p : Place) (s : Option Sign) → ReadsOther a (for_by end d a p s)
  for_by_reads a p (Some sign.Semicolon) n ts h = from_reads a p no_start tt n ts h
  for_by_reads a p _ n ts h = for_word_reads a p (next_keyword ts) n ts h

  pub for_reads : (a : Around) (p : Place) → ReadsOther a (for_statement end d a p)
  unfolding for_statement
  for_reads a p n ts h = step _ (expect end sign.LeftParenthesis ts) _ (expect_short end sign.LeftParenthesis n ts h) (λ open_bracket k. for_by_reads a p (next_sign open_bracket) n open_bracket k)
