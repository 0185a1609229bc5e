-- Reading a statement doesn't see whether a line ends before its first token: one lemma for each production that begins
-- with it.
use Rattle.std.proofs.Common.{◌≡◌, ℕ, zero, suc, List, ◌∷◌, length, Option, Some, None, Ok, Bool, true, false, refl, ap}
use Rattle.js_tree.specs.declared.place.Place.{Place}
use Rattle.js_tree.specs.declared.token.Token.{Token}
use Rattle.js_tree.specs.declared.token.TokenKind.{TokenKind}
use Rattle.js_tree.specs.declared.token.TokenKind.TheVariants as token
use Rattle.js_tree.specs.declared.sign.Sign.{Sign}
use Rattle.js_tree.specs.declared.sign.Sign.TheVariants as sign
use Rattle.js_tree.specs.declared.operators.UnaryOp.{UnaryOp}
use Rattle.js_tree.specs.declared.operators.UpdateOp.{UpdateOp}
use Rattle.js_tree.specs.Tree.{ExpressionTree, Evaluate}
use Rattle.js_grammar.specs.declared.turn.Turn.{Turn}
use Rattle.js_tree.specs.declared.keyword.Keyword.{Keyword}
use Rattle.js_tree.specs.declared.keyword.Keyword.TheVariants as word
use Rattle.js_grammar.specs.declared.form.Form.{Form}
use Rattle.js_grammar.specs.declared.form.Form.TheVariants.{Plain}
use Rattle.js_grammar.specs.declared.form.LeftSide.{LeftSide}
use Rattle.js_grammar.specs.declared.form.LeftSide.TheVariants as side
use Rattle.js_grammar.specs.declared.around.Around.{Around}
use Rattle.js_grammar.specs.Reading.{◌>>=◌}
use Rattle.js_grammar.specs.Words.{keyword_of}
use Rattle.js_grammar.specs.Readers.{Reader, row, row_of, turned, next_sign, is_sign, taken_if, expect, semicolon, parted}
use Rattle.js_grammar.specs.Operators.{next_unary, next_update, next_postfix, next_assign}
use Rattle.js_grammar.specs.Expressions.{Deeper, a_part, expression, joined, in_parentheses, sign_value, primary_by, primary, a_suffix, suffixed_by, suffixed, postfix_by, postfix, unary_by, unary, an_operand, chained, chain, level, conditional_by, conditional, assigned_by, assignment}
use Rattle.js_grammar.specs.Statements.{evaluated, unlabelled, word_statement, statement_by, statement, deeper}
use Rattle.js_law_places.specs.Laws.{FirstLineIsNotSeen}

-- a token behind a line's end
abbrev below : Token → Token
below t = record t { after_line = true }

-- a token on the line of those before it
abbrev beside : Token → Token
beside t = record t { after_line = false }

-- what a reader gives doesn't tell whether a line ends before its first token
abbrev Unseen : {A : Type 0} → Reader A → Type 0
Unseen reader = (t : Token) (ts : List Token) → reader (below t ∷ ts) ≡ reader (beside t ∷ ts)

row_unseen : {A : Type 0} (turn : Reader (Turn A)) → Unseen turn → Unseen (row turn)
unfolding row_of
row_unseen turn each t ts = ap (λ m. m >>= (λ one. turned one.0 one.1 (row_of turn (length (t ∷ ts)) one.1))) (each t ts)

module _ (end : Place) where
  -- ---- primary expressions

  taken_unseen : (b : Bool) (t : Token) (ts : List Token) → taken_if end b (below t ∷ ts) ≡ taken_if end b (beside t ∷ ts)
  taken_unseen true t ts = refl
  taken_unseen false t ts = refl

  expect_unseen : (s : Sign) (t : Token) (ts : List Token) → expect end s (below t ∷ ts) ≡ expect end s (beside t ∷ ts)
  unfolding expect
  expect_unseen s t ts = taken_unseen (is_sign s (next_sign (t ∷ ts))) t ts

  in_parentheses_unseen : (d : Deeper) → Unseen (in_parentheses end d)
  unfolding in_parentheses
  in_parentheses_unseen d t ts =
      ap (λ m. m >>= (λ open_bracket. expression end d Plain open_bracket >>= (λ inside. expect end sign.RightParenthesis inside.1 >>= (λ rest. Ok (inside.0, rest)))))
      (expect_unseen sign.LeftParenthesis t ts)

  sign_value_unseen : (d : Deeper) (s : Sign) (p : Place) (t : Token) (ts : List Token) → sign_value end d s p (below t ∷ ts) ts ≡ sign_value end d s p (beside t ∷ ts) ts
  sign_value_unseen d sign.LeftParenthesis p t ts = in_parentheses_unseen d t ts
  sign_value_unseen d sign.LeftBracket p t ts = refl
  sign_value_unseen d sign.LeftBrace p t ts = refl
  sign_value_unseen d _ p t ts = refl

  primary_by_unseen : (d : Deeper) (k : TokenKind) (p : Place) (t : Token) (ts : List Token) → primary_by end d k p (below t ∷ ts) ts ≡ primary_by end d k p (beside t ∷ ts) ts
  primary_by_unseen d (token.Number n) p t ts = refl
  primary_by_unseen d (token.Text x) p t ts = refl
  primary_by_unseen d (token.Pattern l) p t ts = refl
  primary_by_unseen d (token.Word w) p t ts = refl
  primary_by_unseen d (token.Sign s) p t ts = sign_value_unseen d s p t ts

  primary_unseen : (d : Deeper) → Unseen (primary end d)
  unfolding primary
  primary_unseen d t ts = primary_by_unseen d t.kind t.place t ts

  suffixed_unseen : (d : Deeper) (left : LeftSide) → Unseen (suffixed end d left)
  unfolding suffixed
  suffixed_unseen d left t ts =
      ap (λ m. m >>= (λ first. row (a_suffix end d left) first.1 >>= (λ others. Ok (suffixed_by t.place first.0 others.0, others.1))))
      (primary_unseen d t ts)

  -- ---- operators

  postfix_unseen : (d : Deeper) → Unseen (postfix end d)
  unfolding postfix
  postfix_unseen d t ts = ap (λ m. m >>= (λ target. postfix_by end (next_postfix target.1) target.0 target.1)) (suffixed_unseen d side.Call t ts)

  unary_by_unseen : (d : Deeper) (o : Option UnaryOp) (u : Option UpdateOp) → Unseen (unary_by end d o u)
  unary_by_unseen d (Some op) u t ts = refl
  unary_by_unseen d None (Some op) t ts = refl
  unary_by_unseen d None None t ts = postfix_unseen d t ts

  unary_unseen : (d : Deeper) → Unseen (unary end d)
  unfolding unary
  unary_unseen d t ts = unary_by_unseen d (next_unary (t ∷ ts)) (next_update (t ∷ ts)) t ts

  chain_unseen : (form : Form) (k : ℕ) (next : Reader ExpressionTree) → Unseen next → Unseen (chain end form k next)
  unfolding chain
  chain_unseen form k next each t ts =
      ap (λ m. m >>= (λ first. row (an_operand end form k next) first.1 >>= (λ others. Ok (chained t.place first.0 others.0, others.1))))
      (each t ts)

  level_unseen : (d : Deeper) (form : Form) (k : ℕ) → Unseen (level end d form k)
  unfolding level
  level_unseen d form zero t ts = unary_unseen d t ts
  level_unseen d form (suc k) t ts = chain_unseen form k (level end d form k) (level_unseen d form k) t ts

  conditional_unseen : (d : Deeper) (form : Form) → Unseen (conditional end d form)
  unfolding conditional
  conditional_unseen d form t ts =
      ap (λ m. m >>= (λ condition. conditional_by end d form (next_sign condition.1) t.place condition.0 condition.1))
      (level_unseen d form 10 t ts)

  assignment_unseen : (d : Deeper) (form : Form) → Unseen (assignment end d form)
  unfolding assignment
  assignment_unseen d form t ts =
      ap (λ m. m >>= (λ target. assigned_by end d form (next_assign target.1) target.0 target.1)) (conditional_unseen d form t ts)

  -- ---- expressions, and statements that are one

  value_unseen : (room : ℕ) (form : Form) → Unseen ((deeper end room).value form)
  unfolding deeper
  value_unseen zero form t ts = refl
  value_unseen (suc room) form t ts = assignment_unseen (deeper end room) form t ts

  a_part_unseen : (room : ℕ) (form : Form) → Unseen (a_part end (deeper end room) form)
  unfolding a_part
  a_part_unseen room form t ts = ap (λ m. m >>= (λ value. parted (next_sign value.1) value.0 value.1)) (value_unseen room form t ts)

  expression_unseen : (room : ℕ) (form : Form) → Unseen (expression end (deeper end room) form)
  unfolding expression
  expression_unseen room form t ts =
      ap (λ m. m >>= (λ all. Ok (joined t.place all.0, all.1))) (row_unseen (a_part end (deeper end room) form) (a_part_unseen room form) t ts)

  evaluated_unseen : (room : ℕ) → Unseen (evaluated end (deeper end room))
  unfolding evaluated
  evaluated_unseen room t ts =
      ap (λ m. m >>= (λ value. semicolon end value.1 >>= (λ rest. Ok (Evaluate t.place value.0, rest)))) (expression_unseen room Plain t ts)

  -- ---- statements

  unlabelled_unseen : (room : ℕ) (s : Option Sign) (p : Place) → Unseen (unlabelled end (deeper end room) s p)
  unlabelled_unseen room (Some sign.Colon) p t ts = refl
  unlabelled_unseen room _ p t ts = evaluated_unseen room t ts

  word_unseen : (room : ℕ) (around : Around) (o : Option Keyword) (p : Place) → Unseen (word_statement end (deeper end room) around o p)
  word_unseen room around None p t ts = unlabelled_unseen room (next_sign ts) p t ts
  word_unseen room around (Some word.Var) p t ts = refl
  word_unseen room around (Some word.If) p t ts = refl
  word_unseen room around (Some word.Do) p t ts = refl
  word_unseen room around (Some word.While) p t ts = refl
  word_unseen room around (Some word.For) p t ts = refl
  word_unseen room around (Some word.Continue) p t ts = refl
  word_unseen room around (Some word.Break) p t ts = refl
  word_unseen room around (Some word.Return) p t ts = refl
  word_unseen room around (Some word.Throw) p t ts = refl
  word_unseen room around (Some word.Switch) p t ts = refl
  word_unseen room around (Some word.Try) p t ts = refl
  word_unseen room around (Some word.Function) p t ts = refl
  word_unseen room around (Some word.Debugger) p t ts = refl
  word_unseen room around (Some word.Class) p t ts = refl
  word_unseen room around (Some word.Const) p t ts = refl
  word_unseen room around (Some word.Enum) p t ts = refl
  word_unseen room around (Some word.Export) p t ts = refl
  word_unseen room around (Some word.Extends) p t ts = refl
  word_unseen room around (Some word.Import) p t ts = refl
  word_unseen room around (Some word.Super) p t ts = refl
  word_unseen room around (Some word.With) p t ts = refl
  word_unseen room around (Some _) p t ts = evaluated_unseen room t ts

  statement_by_unseen : (room : ℕ) (around : Around) (k : TokenKind) (p : Place) (t : Token) (ts : List Token) → statement_by end (deeper end room) around k p (below t ∷ ts) ts ≡ statement_by end (deeper end room) around k p (beside t ∷ ts) ts
  statement_by_unseen room around (token.Word w) p t ts = word_unseen room around (keyword_of w) p t ts
  statement_by_unseen room around (token.Sign sign.LeftBrace) p t ts = refl
  statement_by_unseen room around (token.Sign sign.Semicolon) p t ts = refl
  statement_by_unseen room around _ p t ts = evaluated_unseen room t ts

  statement_unseen : (room : ℕ) (around : Around) → Unseen (statement end (deeper end room) around)
  unfolding statement
  statement_unseen room around t ts = statement_by_unseen room around t.kind t.place t ts

pub first_line : FirstLineIsNotSeen
first_line end room around t ts = statement_unseen end room around t ts
