-- Reading an operand, by what stands behind it.
use Rattle.std.proofs.Common.{◌≡◌, ℕ, zero, suc, ◌-◌, ◌<◌, List, [], ◌∷◌, ◌++◌, length, None, Ok, refl, ap, ◌∙◌, append_assoc, arith}
use Rattle.js_tree.specs.declared.place.Place.{Place}
use Rattle.js_tree.specs.declared.token.Token.{Token}
use Rattle.js_tree.specs.declared.sign.Sign.TheVariants as sign
use Rattle.js_tree.specs.Tree.{ExpressionTree}
use Rattle.js_grammar.specs.declared.turn.Turn.{Turn}
use Rattle.js_grammar.specs.declared.turn.Turn.TheVariants.{More, Last, End}
use Rattle.js_tree.specs.declared.keyword.Keyword.TheVariants as word
use Rattle.js_grammar.specs.declared.form.Form.{Form}
use Rattle.js_grammar.specs.declared.form.Form.TheVariants.{Plain, NoIn}
use Rattle.js_grammar.specs.declared.form.LeftSide.{LeftSide}
use Rattle.js_grammar.specs.declared.form.LeftSide.TheVariants as side
use Rattle.js_grammar.specs.Readers.{Reader, row_of, next_sign, parted, expect}
use Rattle.js_grammar.specs.Operators.{next_unary, next_update, next_postfix, next_binary, at_level, next_assign}
use Rattle.js_grammar.specs.Expressions.{Deeper, a_suffix, suffixed, primary, postfix, unary, an_operand, chain, level, conditional, conditional_by, assignment, a_part, expression, in_parentheses}
use Rattle.js_grammar.specs.Statements.{deeper}
use Rattle.js_grammar.specs.Printing.{sign_token, keyword_token, in_round}

-- ---- rows

pub row_more : {A : Type 0} (turn : Reader (Turn A)) (n : ℕ) (ts more rest : List Token) (x : A) (xs : List A) → turn ts ≡ Ok (More x, more) → row_of turn n more ≡ Ok (xs, rest) → row_of turn (suc n) ts ≡ Ok (x ∷ xs, rest)
unfolding row_of
row_more turn n ts more rest x xs t r = rw (t, r) refl

pub row_last : {A : Type 0} (turn : Reader (Turn A)) (n : ℕ) (ts rest : List Token) (x : A) → turn ts ≡ Ok (Last x, rest) → row_of turn (suc n) ts ≡ Ok (x ∷ [], rest)
unfolding row_of
row_last turn n ts rest x t = rw t refl

pub row_end : {A : Type 0} (turn : Reader (Turn A)) (n : ℕ) (ts rest : List Token) → turn ts ≡ Ok (End, rest) → row_of turn (suc n) ts ≡ Ok ([], rest)
unfolding row_of
row_end turn n ts rest t = rw t refl

-- ---- what stands behind a value

module _ (end : Place) where
  -- nothing of an expression goes on here
  pub record Stops (d : Deeper) (form : Form) (rest : List Token) : Type 0 where
    pub suffix : a_suffix end d side.Call rest ≡ Ok (End, rest)
    pub postfix : next_postfix rest ≡ None
    pub binary : next_binary form rest ≡ None
    pub question : (p : Place) (c : ExpressionTree) → conditional_by end d form (next_sign rest) p c rest ≡ Ok (c, rest)
    pub assign : next_assign rest ≡ None

  pub stops_parenthesis : (d : Deeper) (form : Form) (rest : List Token) → Stops d form (sign_token sign.RightParenthesis ∷ rest)
  unfolding a_suffix
  stops_parenthesis d form rest = record { suffix = refl; postfix = refl; binary = refl; question = λ p c. refl; assign = refl }

  pub stops_bracket : (d : Deeper) (form : Form) (rest : List Token) → Stops d form (sign_token sign.RightBracket ∷ rest)
  unfolding a_suffix
  stops_bracket d form rest = record { suffix = refl; postfix = refl; binary = refl; question = λ p c. refl; assign = refl }

  pub stops_brace : (d : Deeper) (form : Form) (rest : List Token) → Stops d form (sign_token sign.RightBrace ∷ rest)
  unfolding a_suffix
  stops_brace d form rest = record { suffix = refl; postfix = refl; binary = refl; question = λ p c. refl; assign = refl }

  pub stops_comma : (d : Deeper) (form : Form) (rest : List Token) → Stops d form (sign_token sign.Comma ∷ rest)
  unfolding a_suffix
  stops_comma d form rest = record { suffix = refl; postfix = refl; binary = refl; question = λ p c. refl; assign = refl }

  pub stops_colon : (d : Deeper) (form : Form) (rest : List Token) → Stops d form (sign_token sign.Colon ∷ rest)
  unfolding a_suffix
  stops_colon d form rest = record { suffix = refl; postfix = refl; binary = refl; question = λ p c. refl; assign = refl }

  pub stops_semicolon : (d : Deeper) (form : Form) (rest : List Token) → Stops d form (sign_token sign.Semicolon ∷ rest)
  unfolding a_suffix
  stops_semicolon d form rest = record { suffix = refl; postfix = refl; binary = refl; question = λ p c. refl; assign = refl }

  pub stops_in : (d : Deeper) (rest : List Token) → Stops d NoIn (keyword_token word.In ∷ rest)
  unfolding a_suffix
  stops_in d rest = record { suffix = refl; postfix = refl; binary = refl; question = λ p c. refl; assign = refl }

  -- ---- from a primary expression to a value

  pub suffixed_reads : (d : Deeper) (left : LeftSide) (ts rest : List Token) (e : ExpressionTree) → primary end d ts ≡ Ok (e, rest) → a_suffix end d left rest ≡ Ok (End, rest) → suffixed end d left ts ≡ Ok (e, rest)
  unfolding suffixed
  suffixed_reads d left ts rest e p s = rw (p, row_end (a_suffix end d left) (length rest) rest rest s) refl

  pub unary_reads : (d : Deeper) (ts rest : List Token) (e : ExpressionTree) → next_unary ts ≡ None → next_update ts ≡ None → primary end d ts ≡ Ok (e, rest) → a_suffix end d side.Call rest ≡ Ok (End, rest) → next_postfix rest ≡ None → unary end d ts ≡ Ok (e, rest)
  unfolding unary postfix
  unary_reads d ts rest e n u p s q = rw (n, u, suffixed_reads d side.Call ts rest e p s, q) refl

  pub level_next : (d : Deeper) (form : Form) (k : ℕ) (ts rest : List Token) (e : ExpressionTree) → level end d form k ts ≡ Ok (e, rest) → at_level k (next_binary form rest) ≡ None → level end d form (suc k) ts ≡ Ok (e, rest)
  unfolding level chain an_operand
  level_next d form k ts rest e l n =
      let ends : an_operand end form k (level end d form k) rest ≡ Ok (End, rest) = rw n refl in
      rw (l, row_end (an_operand end form k (level end d form k)) (length rest) rest rest ends) refl

  pub level_reads : (d : Deeper) (form : Form) (k : ℕ) (ts rest : List Token) (e : ExpressionTree) → unary end d ts ≡ Ok (e, rest) → ((j : ℕ) → j < k → at_level j (next_binary form rest) ≡ None) → level end d form k ts ≡ Ok (e, rest)
  unfolding level
  level_reads d form zero ts rest e u n = u
  level_reads d form (suc k) ts rest e u n = level_next d form k ts rest e (level_reads d form k ts rest e u (λ j h. n j (omega arith))) (n k (omega arith))

  -- a value from its row of the weakest level
  pub value_of_level : (d : Deeper) (form : Form) (ts rest : List Token) (e : ExpressionTree) → level end d form 10 ts ≡ Ok (e, rest) → Stops d form rest → assignment end d form ts ≡ Ok (e, rest)
  unfolding assignment conditional
  value_of_level d form ts rest e l stops = rw (l, stops.question, stops.assign) refl

  pub value_of_unary : (d : Deeper) (form : Form) (ts rest : List Token) (e : ExpressionTree) → unary end d ts ≡ Ok (e, rest) → Stops d form rest → assignment end d form ts ≡ Ok (e, rest)
  value_of_unary d form ts rest e u stops =
      value_of_level d form ts rest e (level_reads d form 10 ts rest e u (λ j h. rw stops.binary refl)) stops

  -- ---- less room for nesting

  pub value_at : (room : ℕ) (form : Form) (ts : List Token) → 0 < room → (deeper end room).value form ts ≡ assignment end (deeper end (room - 1)) form ts
  unfolding deeper
  value_at room form ts some =
      let one_more : room ≡ suc (room - 1) = omega arith in
      ap (λ n. (deeper end n).value form ts) one_more

  pub operand_at : (room : ℕ) (ts : List Token) → 0 < room → (deeper end room).operand ts ≡ unary end (deeper end (room - 1)) ts
  unfolding deeper
  operand_at room ts some =
      let one_more : room ≡ suc (room - 1) = omega arith in
      ap (λ n. (deeper end n).operand ts) one_more

  pub callee_at : (room : ℕ) (ts : List Token) → 0 < room → (deeper end room).callee ts ≡ suffixed end (deeper end (room - 1)) side.Member ts
  unfolding deeper
  callee_at room ts some =
      let one_more : room ≡ suc (room - 1) = omega arith in
      ap (λ n. (deeper end n).callee ts) one_more

  -- ---- brackets

  abbrev pub closed : List Token → List Token
  closed rest = sign_token sign.RightParenthesis ∷ rest

  pub expression_one : (d : Deeper) (form : Form) (ts rest : List Token) (e : ExpressionTree) → d.value form ts ≡ Ok (e, rest) → parted (next_sign rest) e rest ≡ Ok (Last e, rest) → expression end d form ts ≡ Ok (e, rest)
  unfolding expression a_part
  expression_one d form ts rest e v l =
      let turn : a_part end d form ts ≡ Ok (Last e, rest) = rw (v, l) refl in
      rw (row_last (a_part end d form) (length ts) ts rest e turn) refl

  pub round_reads : (d : Deeper) (inside rest : List Token) (e : ExpressionTree) → expression end d Plain (inside ++ closed rest) ≡ Ok (e, closed rest) → in_parentheses end d (in_round inside ++ rest) ≡ Ok (e, rest)
  unfolding in_parentheses expect
  round_reads d inside rest e x = rw (append_assoc inside (sign_token sign.RightParenthesis ∷ []) rest, x) refl

  pub primary_round : (d : Deeper) (inside rest : List Token) (e : ExpressionTree) → in_parentheses end d (in_round inside ++ rest) ≡ Ok (e, rest) → primary end d (in_round inside ++ rest) ≡ Ok (e, rest)
  unfolding primary
  primary_round d inside rest e x = x

  -- what stands in brackets is read through them
  pub brackets_at : (room : ℕ) (inside rest : List Token) (e : ExpressionTree) → 0 < room → assignment end (deeper end (room - 1)) Plain (inside ++ closed rest) ≡ Ok (e, closed rest) → primary end (deeper end room) (in_round inside ++ rest) ≡ Ok (e, rest)
  brackets_at room inside rest e some a =
      let d = deeper end room in
      let value : d.value Plain (inside ++ closed rest) ≡ Ok (e, closed rest) = value_at room Plain (inside ++ closed rest) some ∙ a in
      primary_round d inside rest e (round_reads d inside rest e (expression_one d Plain (inside ++ closed rest) (closed rest) e value refl))
