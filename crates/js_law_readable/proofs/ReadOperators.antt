-- What reading gives of expressions with operators: one lemma for each production.
use Rattle.std.proofs.Common.{◌≡◌, ℕ, zero, suc, ◌<◌, ◌≤◌, List, [], ◌∷◌, Option, Some, None, refl, arith}
use Rattle.js_tree.specs.declared.place.Place.{Place}
use Rattle.js_tree.specs.declared.token.Token.{Token}
use Rattle.js_tree.specs.declared.sign.Sign.{Sign}
use Rattle.js_tree.specs.declared.sign.Sign.TheVariants as sign
use Rattle.js_tree.specs.declared.operators.UpdateOp.{UpdateOp}
use Rattle.js_tree.specs.declared.operators.UnaryOp.{UnaryOp}
use Rattle.js_tree.specs.declared.operators.BinaryOp.{BinaryOp}
use Rattle.js_tree.specs.declared.operators.AssignOp.{AssignOp}
use Rattle.js_tree.specs.declared.expression.Operand.{Operand}
use Rattle.js_tree.specs.Tree.{ExpressionTree}
use Rattle.js_tree.specs.View.{operands_of}
use Rattle.js_grammar.specs.declared.form.Form.{Form}
use Rattle.js_grammar.specs.declared.form.LeftSide.TheVariants as side
use Rattle.js_grammar.specs.Readers.{Reader, row, rest_of, next_sign, expect}
use Rattle.js_grammar.specs.Operators.{next_unary, next_update, next_postfix, next_binary, at_level, next_assign, level_of, is_target}
use Rattle.js_grammar.specs.Expressions.{Deeper, suffixed, postfix, postfix_by, unary, unary_by, updated, an_operand, operand_by, chain, chained, level, conditional, conditional_by, assignment, assigned_by}
use Rattle.js_law_readable.specs.Readable.{IsExpression, AreOperands}
use Rattle.js_law_readable.proofs.Steps.{step, chosen, Reads, rest_short, Every, OfTurn, row_reads, level_is}
use Rattle.js_law_readable.proofs.ReadParts.{expect_short}
use Rattle.js_law_readable.proofs.ReadExpressions.{PartsRead, suffixed_reads}

abbrev IsOperand : ℕ → Operand → Type 0
IsOperand k o = (level_of o.op ≡ k) × IsExpression o.value

every_operand : (k : ℕ) (os : List Operand) → Every (IsOperand k) os → AreOperands k (operands_of os)
every_operand k [] h = tt
every_operand k (o ∷ os) h = (h.0.0, h.0.1, every_operand k os h.1)

chained_is : (p : Place) (k : ℕ) (e : ExpressionTree) (os : List Operand) → k < 10 → IsExpression e → Every (IsOperand k) os → IsExpression (chained p e os)
chained_is p k e [] less is h = is
chained_is p k e (o ∷ os) less is h = (is, refl, (k, less, every_operand k (o ∷ os) h))

module _ (end : Place) (d : Deeper) (g : PartsRead d) where
  -- ---- operators with one operand

  postfix_by_reads : (o : Option UpdateOp) (e : ExpressionTree) → IsExpression e → Reads IsExpression (postfix_by end o e)
  postfix_by_reads None e is n ts h = (is, h)
  postfix_by_reads (Some op) e is n ts h = chosen _ (is_target e) _ _ (λ target. ((target, is), rest_short n ts h)) (λ no. tt)

  postfix_reads : Reads IsExpression (postfix end d)
  unfolding postfix
  postfix_reads n ts h = step _ (suffixed end d side.Call ts) _ (suffixed_reads end d g side.Call n ts h) (λ target k. postfix_by_reads (next_postfix target.1) target.0 k.0 n target.1 k.1)

  updated_reads : (op : UpdateOp) (e : ExpressionTree) (ts : List Token) → IsExpression e → Reads IsExpression (updated end op e ts)
  updated_reads op e ts is n rest h = chosen _ (is_target e) _ _ (λ target. ((target, is), h)) (λ no. tt)

  unary_by_reads : (o : Option UnaryOp) (u : Option UpdateOp) → Reads IsExpression (unary_by end d o u)
  unary_by_reads (Some op) u n ts h = step _ (d.operand (rest_of ts)) _ (g.operand n (rest_of ts) (rest_short n ts h)) (λ of k. k)
  unary_by_reads None (Some op) n ts h = step _ (d.operand (rest_of ts)) _ (g.operand n (rest_of ts) (rest_short n ts h)) (λ of k. updated_reads op of.0 ts k.0 n of.1 k.1)
  unary_by_reads None None n ts h = postfix_reads n ts h

  pub unary_reads : Reads IsExpression (unary end d)
  unfolding unary
  unary_reads n ts h = unary_by_reads (next_unary ts) (next_update ts) n ts h

  -- ---- binary levels

  operand_by_reads : (k : ℕ) (next : Reader ExpressionTree) → Reads IsExpression next → (o : Option BinaryOp) → ((op : BinaryOp) → o ≡ Some op → level_of op ≡ k) → Reads (OfTurn (IsOperand k)) (operand_by end o next)
  operand_by_reads k next each None at n ts h = (tt, h)
  operand_by_reads k next each (Some op) at n ts h = step _ (next (rest_of ts)) _ (each n (rest_of ts) (rest_short n ts h)) (λ value l. ((at op refl, l.0), l.1))

  operand_reads : (form : Form) (k : ℕ) (next : Reader ExpressionTree) → Reads IsExpression next → Reads (OfTurn (IsOperand k)) (an_operand end form k next)
  unfolding an_operand
  operand_reads form k next each n ts h = operand_by_reads k next each (at_level k (next_binary form ts)) (λ op is. level_is k (next_binary form ts) op is) n ts h

  chain_reads : (form : Form) (k : ℕ) (next : Reader ExpressionTree) → k < 10 → Reads IsExpression next → Reads IsExpression (chain end form k next)
  unfolding chain
  chain_reads form k next less each n ts h =
      step _ (next ts) _ (each n ts h) (λ first l.
      step _ (row (an_operand end form k next) first.1) _ (row_reads (IsOperand k) (an_operand end form k next) (operand_reads form k next each) n first.1 l.1) (λ others m. (chained_is _ k first.0 others.0 less l.0 m.0, m.1)))

  level_reads : (form : Form) (k : ℕ) → k ≤ 10 → Reads IsExpression (level end d form k)
  unfolding level
  level_reads form zero le n ts h = unary_reads n ts h
  level_reads form (suc k) le n ts h = chain_reads form k (level end d form k) (omega arith) (level_reads form k (omega arith)) n ts h

  -- ---- `? :` and assignment

  conditional_by_reads : (form : Form) (s : Option Sign) (p : Place) (c : ExpressionTree) → IsExpression c → Reads IsExpression (conditional_by end d form s p c)
  conditional_by_reads form (Some sign.Question) p c is n ts h =
      step _ (d.value form (rest_of ts)) _ (g.value form n (rest_of ts) (rest_short n ts h)) (λ a k.
      step _ (expect end sign.Colon a.1) _ (expect_short end sign.Colon n a.1 k.1) (λ colon l.
      step _ (d.value form colon) _ (g.value form n colon l) (λ b m. ((is, k.0, m.0), m.1))))
  conditional_by_reads form _ p c is n ts h = (is, h)

  conditional_reads : (form : Form) → Reads IsExpression (conditional end d form)
  unfolding conditional
  conditional_reads form n ts h = step _ (level end d form 10 ts) _ (level_reads form 10 (omega arith) n ts h) (λ c k. conditional_by_reads form (next_sign c.1) _ c.0 k.0 n c.1 k.1)

  assigned_by_reads : (form : Form) (o : Option AssignOp) (e : ExpressionTree) → IsExpression e → Reads IsExpression (assigned_by end d form o e)
  assigned_by_reads form None e is n ts h = (is, h)
  assigned_by_reads form (Some op) e is n ts h = chosen _ (is_target e) _ _ (λ target. step _ (d.value form (rest_of ts)) _ (g.value form n (rest_of ts) (rest_short n ts h)) (λ value k. ((target, is, k.0), k.1))) (λ no. tt)

  pub assignment_reads : (form : Form) → Reads IsExpression (assignment end d form)
  unfolding assignment
  assignment_reads form n ts h = step _ (conditional end d form ts) _ (conditional_reads form n ts h) (λ target k. assigned_by_reads form (next_assign target.1) target.0 k.0 n target.1 k.1)
