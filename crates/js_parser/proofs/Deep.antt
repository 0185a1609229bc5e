-- What has room for one more nested part reads it with room for one less.
use Rattle.std.proofs.Common.{◌≡◌, ℕ, suc, ◌-◌, ◌<◌, List, Err, refl, ap, ◌∙◌, arith}
use Rattle.js_tree.specs.declared.place.Place.{Place}
use Rattle.js_tree.specs.declared.token.Token.{Token}
use Rattle.js_tree.specs.declared.refusal.ReadKind.TheVariants.{TooDeep}
use Rattle.js_grammar.specs.declared.form.Form.{Form}
use Rattle.js_grammar.specs.declared.form.LeftSide.TheVariants as side
use Rattle.js_grammar.specs.declared.around.Around.{Around}
use Rattle.js_grammar.specs.Readers.{place_at}
use Rattle.js_grammar.specs.Expressions.{assignment, unary, suffixed}
use Rattle.js_grammar.specs.Statements.{deeper, statement as statement_of, block as block_of}
use Rattle.js_parser.specs.declared.nested.ExpressionPart.{ExpressionPart}
use Rattle.js_parser.specs.declared.nested.ExpressionPart.TheVariants.{Value, Operand, Callee}
use Rattle.js_parser.specs.declared.nested.StatementPart.{StatementPart}
use Rattle.js_parser.specs.declared.nested.StatementPart.TheVariants.{Statement, Block}
use Rattle.js_parser.specs.Nested.{expression_part, statement_part}

module _ (end : Place) (n : ℕ) (ts : List Token) where
  no_expression : (part : ExpressionPart) → expression_part (deeper end 0) part ts ≡ Err (TooDeep, place_at end ts)
  unfolding deeper
  no_expression (Value form) = refl
  no_expression Operand = refl
  no_expression Callee = refl

  no_statement : (part : StatementPart) → statement_part (deeper end 0) part ts ≡ Err (TooDeep, place_at end ts)
  unfolding deeper
  no_statement (Statement around) = refl
  no_statement (Block around) = refl

  pub expression_too_deep : (part : ExpressionPart) → n ≡ 0 → expression_part (deeper end n) part ts ≡ Err (TooDeep, place_at end ts)
  expression_too_deep part e = ap (λ m. expression_part (deeper end m) part ts) e ∙ no_expression part

  pub statement_too_deep : (part : StatementPart) → n ≡ 0 → statement_part (deeper end n) part ts ≡ Err (TooDeep, place_at end ts)
  statement_too_deep part e = ap (λ m. statement_part (deeper end m) part ts) e ∙ no_statement part

  one_more : 0 < n → n ≡ suc (n - 1)
  one_more h = omega arith

  value_of : (m : ℕ) (form : Form) → (deeper end (suc m)).value form ts ≡ assignment end (deeper end m) form ts
  unfolding deeper
  value_of m form = refl

  operand_of : (m : ℕ) → (deeper end (suc m)).operand ts ≡ unary end (deeper end m) ts
  unfolding deeper
  operand_of m = refl

  callee_of : (m : ℕ) → (deeper end (suc m)).callee ts ≡ suffixed end (deeper end m) side.Member ts
  unfolding deeper
  callee_of m = refl

  nested_statement : (m : ℕ) (around : Around) → (deeper end (suc m)).statement around ts ≡ statement_of end (deeper end m) around ts
  unfolding deeper
  nested_statement m around = refl

  nested_block : (m : ℕ) (around : Around) → (deeper end (suc m)).block around ts ≡ block_of end (deeper end m) around ts
  unfolding deeper
  nested_block m around = refl

  module _ (some : 0 < n) where
    pub value : (form : Form) → (deeper end n).value form ts ≡ assignment end (deeper end (n - 1)) form ts
    value form = ap (λ m. (deeper end m).value form ts) (one_more some) ∙ value_of (n - 1) form

    pub operand : (deeper end n).operand ts ≡ unary end (deeper end (n - 1)) ts
    operand = ap (λ m. (deeper end m).operand ts) (one_more some) ∙ operand_of (n - 1)

    pub callee : (deeper end n).callee ts ≡ suffixed end (deeper end (n - 1)) side.Member ts
    callee = ap (λ m. (deeper end m).callee ts) (one_more some) ∙ callee_of (n - 1)

    pub statement : (around : Around) → (deeper end n).statement around ts ≡ statement_of end (deeper end (n - 1)) around ts
    statement around = ap (λ m. (deeper end m).statement around ts) (one_more some) ∙ nested_statement (n - 1) around

    pub block : (around : Around) → (deeper end n).block around ts ≡ block_of end (deeper end (n - 1)) around ts
    block around = ap (λ m. (deeper end m).block around ts) (one_more some) ∙ nested_block (n - 1) around
