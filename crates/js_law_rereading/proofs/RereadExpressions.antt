-- Reading each kind of expression that was printed, from how its parts are read.
use Rattle.std.proofs.Common.{◌≡◌, ℕ, ◌-◌, ◌<◌, ◌≤◌, List, [], ◌∷◌, ◌++◌, length, Some, None, Ok, true, refl, sym, ap, ◌∙◌, append_assoc, length-append, arith}
use Rattle.js_tree.specs.declared.place.Place.{Place}
use Rattle.js_pattern_reader.specs.Literal.{Literal}
use Rattle.js_tree.specs.declared.token.Token.{Token}
use Rattle.js_tree.specs.declared.token.TokenKind.TheVariants as token
use Rattle.js_tree.specs.declared.sign.Sign.TheVariants as sign
use Rattle.js_tree.specs.declared.bound.BoundName.{BoundName}
use Rattle.js_tree.specs.declared.operators.UnaryOp.{UnaryOp}
use Rattle.js_tree.specs.declared.operators.UnaryOp.TheVariants as op1
use Rattle.js_tree.specs.declared.operators.UpdateForm.TheVariants.{Prefix, Postfix}
use Rattle.js_tree.specs.declared.operators.UpdateOp.{UpdateOp}
use Rattle.js_tree.specs.declared.operators.UpdateOp.TheVariants.{Increment, Decrement}
use Rattle.js_tree.specs.Tree.{ExpressionTree, Pattern, Name, Update, Unary}
use Rattle.js_grammar.specs.declared.turn.Turn.TheVariants.{Last, End}
use Rattle.js_grammar.specs.declared.form.Form.{Form}
use Rattle.js_grammar.specs.declared.form.Form.TheVariants.{Plain}
use Rattle.js_grammar.specs.declared.form.LeftSide.TheVariants as side
use Rattle.js_grammar.specs.Reading.{◌>>=◌}
use Rattle.js_grammar.specs.Readers.{row, next_sign, parted, listed, place_at}
use Rattle.js_grammar.specs.Operators.{next_unary, next_update, next_postfix, next_binary, at_level, is_target}
use Rattle.js_grammar.specs.Expressions.{Deeper, a_suffix, suffixed, primary, postfix, unary, level, expression, in_parentheses, arguments_by, an_argument, item_by, item_value}
use Rattle.js_grammar.specs.Statements.{deeper}
use Rattle.js_grammar.specs.Printing.{nowhere, printed, sign_token, word_token, unary_token, update_token, in_round, expression_tokens}
use Rattle.js_grammar.specs.Placeless.{placeless_expression}
use Rattle.js_law_readable.specs.Readable.{IsName, IsExpression}
use Rattle.js_law_rereading.proofs.Lists.{is_target_placeless}
use Rattle.js_law_rereading.proofs.RereadParts.{Stops, stops_parenthesis, suffixed_reads, unary_reads, level_reads, value_of_unary, value_at, operand_at, closed, expression_one, round_reads, brackets_at}

-- ---- how a printed expression begins

pub no_unary : (e : ExpressionTree) (rest : List Token) → IsExpression e → next_unary (expression_tokens e ++ rest) ≡ None
unfolding expression_tokens
no_unary (Name p x) rest h = rw h.0 refl
no_unary (Update p Prefix op e) rest h = refl
no_unary (Update p Postfix op e) rest h = refl
no_unary _ rest h = refl

pub no_update : (e : ExpressionTree) (rest : List Token) → next_update (expression_tokens e ++ rest) ≡ None
unfolding expression_tokens
no_update (Update p Prefix op e) rest = refl
no_update (Update p Postfix op e) rest = refl
no_update _ rest = refl

module _ (end : Place) where
  pub begins_nowhere : (e : ExpressionTree) (rest : List Token) → place_at end (expression_tokens e ++ rest) ≡ nowhere
  unfolding expression_tokens
  begins_nowhere (Update p Prefix op e) rest = refl
  begins_nowhere (Update p Postfix op e) rest = refl
  begins_nowhere _ rest = refl

  pub begins_argument : (d : Deeper) (e : ExpressionTree) (rest : List Token) → arguments_by end d (next_sign (expression_tokens e ++ rest)) (expression_tokens e ++ rest) ≡ row (an_argument end d) (expression_tokens e ++ rest)
  unfolding expression_tokens
  begins_argument d (Update p Prefix op e) rest = refl
  begins_argument d (Update p Postfix op e) rest = refl
  begins_argument d _ rest = refl

  pub begins_item : (d : Deeper) (e : ExpressionTree) (rest : List Token) → item_by end d (next_sign (expression_tokens e ++ rest)) (expression_tokens e ++ rest) ≡ (d.value Plain (expression_tokens e ++ rest) >>= λ value. listed end sign.RightBracket (Some value.0) value.1)
  unfolding expression_tokens item_value
  begins_item d (Update p Prefix op e) rest = refl
  begins_item d (Update p Postfix op e) rest = refl
  begins_item d _ rest = refl

  -- an expression is read again, whatever follows it
  abbrev pub Rereads : ExpressionTree → Type 0
  Rereads e = (room : ℕ) (rest : List Token) → length (expression_tokens e) ≤ room → primary end (deeper end room) (expression_tokens e ++ rest) ≡ Ok (placeless_expression e, rest)

  pub unary_again : (e : ExpressionTree) (room : ℕ) (rest : List Token) → IsExpression e → Rereads e → length (expression_tokens e) ≤ room → a_suffix end (deeper end room) side.Call rest ≡ Ok (End, rest) → next_postfix rest ≡ None → unary end (deeper end room) (expression_tokens e ++ rest) ≡ Ok (placeless_expression e, rest)
  unary_again e room rest is again fits s q =
      unary_reads end (deeper end room) (expression_tokens e ++ rest) rest (placeless_expression e) (no_unary e rest is) (no_update e rest) (again room rest fits) s q

  pub value_again : (e : ExpressionTree) (room : ℕ) (form : Form) (rest : List Token) → IsExpression e → Rereads e → length (expression_tokens e) < room → Stops end (deeper end (room - 1)) form rest → (deeper end room).value form (expression_tokens e ++ rest) ≡ Ok (placeless_expression e, rest)
  value_again e room form rest is again fits stops =
      value_at end room form (expression_tokens e ++ rest) (omega arith) ∙ value_of_unary end (deeper end (room - 1)) form (expression_tokens e ++ rest) rest (placeless_expression e) (unary_again e (room - 1) rest is again (omega arith) stops.suffix stops.postfix) stops

  pub level_again : (e : ExpressionTree) (room k : ℕ) (form : Form) (rest : List Token) → IsExpression e → Rereads e → length (expression_tokens e) ≤ room → a_suffix end (deeper end room) side.Call rest ≡ Ok (End, rest) → next_postfix rest ≡ None → ((j : ℕ) → j < k → at_level j (next_binary form rest) ≡ None) → level end (deeper end room) form k (expression_tokens e ++ rest) ≡ Ok (placeless_expression e, rest)
  level_again e room k form rest is again fits s q n =
      level_reads end (deeper end room) form k (expression_tokens e ++ rest) rest (placeless_expression e) (unary_again e room rest is again fits s q) n

  -- an expression alone, before a sign that ends it
  pub expression_again : (e : ExpressionTree) (room : ℕ) (form : Form) (rest : List Token) → IsExpression e → Rereads e → length (expression_tokens e) < room → Stops end (deeper end (room - 1)) form rest → parted (next_sign rest) (placeless_expression e) rest ≡ Ok (Last (placeless_expression e), rest) → expression end (deeper end room) form (expression_tokens e ++ rest) ≡ Ok (placeless_expression e, rest)
  expression_again e room form rest is again fits stops last =
      expression_one end (deeper end room) form (expression_tokens e ++ rest) rest (placeless_expression e) (value_again e room form rest is again fits stops) last

  pub round_again : (e : ExpressionTree) (room : ℕ) (rest : List Token) → IsExpression e → Rereads e → length (expression_tokens e) < room → in_parentheses end (deeper end room) (in_round (expression_tokens e) ++ rest) ≡ Ok (placeless_expression e, rest)
  round_again e room rest is again fits =
      round_reads end (deeper end room) (expression_tokens e) rest (placeless_expression e) (expression_again e room Plain (closed end rest) is again fits (stops_parenthesis end (deeper end (room - 1)) Plain rest) refl)

  -- ---- pattern literals, names and prefix operators

  pattern_reads : (d : Deeper) (l : Literal) (rest : List Token) → primary end d (printed (token.Pattern l) ∷ rest) ≡ Ok (Pattern nowhere l, rest)
  unfolding primary
  pattern_reads d l rest = refl

  pub pattern_node : (l : Literal) (room : ℕ) (rest : List Token) → length (in_round (printed (token.Pattern l) ∷ [])) ≤ room → primary end (deeper end room) (in_round (printed (token.Pattern l) ∷ []) ++ rest) ≡ Ok (Pattern nowhere l, rest)
  pattern_node l room rest fits =
      let d = deeper end (room - 1) in
      let ts = printed (token.Pattern l) ∷ closed end rest in
      let stops = stops_parenthesis end d Plain rest in
      brackets_at end room (printed (token.Pattern l) ∷ []) rest (Pattern nowhere l) (omega arith)
      (value_of_unary end d Plain ts (closed end rest) (Pattern nowhere l) (unary_reads end d ts (closed end rest) (Pattern nowhere l) refl refl (pattern_reads d l (closed end rest)) stops.suffix stops.postfix) stops)

  pub name_again : (x : BoundName) (room : ℕ) (rest : List Token) → IsName x → primary end (deeper end room) (word_token x.name ∷ rest) ≡ Ok (Name nowhere x, rest)
  unfolding primary
  name_again x room rest h = rw h.0 (ap (λ (y : BoundName). Ok (Name nowhere y, rest)) (sym h.1))

  unary_prefix : (d : Deeper) (op : UnaryOp) (ts rest : List Token) (e : ExpressionTree) → d.operand ts ≡ Ok (e, rest) → unary end d (unary_token op ∷ ts) ≡ Ok (Unary nowhere op e, rest)
  unfolding unary
  unary_prefix d op1.Delete ts rest e h = rw h refl
  unary_prefix d op1.Void ts rest e h = rw h refl
  unary_prefix d op1.TypeOf ts rest e h = rw h refl
  unary_prefix d op1.Plus ts rest e h = rw h refl
  unary_prefix d op1.Minus ts rest e h = rw h refl
  unary_prefix d op1.BitNot ts rest e h = rw h refl
  unary_prefix d op1.Not ts rest e h = rw h refl

  operand_again : (e : ExpressionTree) (room : ℕ) (rest : List Token) → IsExpression e → Rereads e → length (expression_tokens e) < room → (deeper end room).operand (expression_tokens e ++ closed end rest) ≡ Ok (placeless_expression e, closed end rest)
  operand_again e room rest is again fits =
      let stops = stops_parenthesis end (deeper end (room - 1)) Plain rest in
      operand_at end room (expression_tokens e ++ closed end rest) (omega arith) ∙ unary_again e (room - 1) (closed end rest) is again (omega arith) stops.suffix stops.postfix

  pub unary_node : (op : UnaryOp) (e : ExpressionTree) (room : ℕ) (rest : List Token) → IsExpression e → Rereads e → length (in_round (unary_token op ∷ expression_tokens e)) ≤ room → primary end (deeper end room) (in_round (unary_token op ∷ expression_tokens e) ++ rest) ≡ Ok (Unary nowhere op (placeless_expression e), rest)
  unary_node op e room rest is again fits =
      let size = length-append (expression_tokens e) (sign_token sign.RightParenthesis ∷ []) in
      let d = deeper end (room - 1) in
      let ts = expression_tokens e ++ closed end rest in
      let read = unary_prefix d op ts (closed end rest) (placeless_expression e) (operand_again e (room - 1) rest is again (omega (arith, size))) in
      brackets_at end room (unary_token op ∷ expression_tokens e) rest (Unary nowhere op (placeless_expression e)) (omega arith)
      (value_of_unary end d Plain (unary_token op ∷ ts) (closed end rest) (Unary nowhere op (placeless_expression e)) read (stops_parenthesis end d Plain rest))

  update_prefix : (d : Deeper) (op : UpdateOp) (ts rest : List Token) (e : ExpressionTree) → is_target e ≡ true → d.operand ts ≡ Ok (e, rest) → unary end d (update_token op ∷ ts) ≡ Ok (Update nowhere Prefix op e, rest)
  unfolding unary
  update_prefix d Increment ts rest e t h = rw (h, t) refl
  update_prefix d Decrement ts rest e t h = rw (h, t) refl

  pub prefix_node : (op : UpdateOp) (e : ExpressionTree) (room : ℕ) (rest : List Token) → is_target e ≡ true → IsExpression e → Rereads e → length (in_round (update_token op ∷ expression_tokens e)) ≤ room → primary end (deeper end room) (in_round (update_token op ∷ expression_tokens e) ++ rest) ≡ Ok (Update nowhere Prefix op (placeless_expression e), rest)
  prefix_node op e room rest t is again fits =
      let size = length-append (expression_tokens e) (sign_token sign.RightParenthesis ∷ []) in
      let d = deeper end (room - 1) in
      let ts = expression_tokens e ++ closed end rest in
      let read = update_prefix d op ts (closed end rest) (placeless_expression e) (is_target_placeless e t) (operand_again e (room - 1) rest is again (omega (arith, size))) in
      brackets_at end room (update_token op ∷ expression_tokens e) rest (Update nowhere Prefix op (placeless_expression e)) (omega arith)
      (value_of_unary end d Plain (update_token op ∷ ts) (closed end rest) (Update nowhere Prefix op (placeless_expression e)) read (stops_parenthesis end d Plain rest))

  update_postfix : (d : Deeper) (op : UpdateOp) (ts rest : List Token) (e : ExpressionTree) → next_unary ts ≡ None → next_update ts ≡ None → is_target e ≡ true → suffixed end d side.Call ts ≡ Ok (e, update_token op ∷ rest) → unary end d ts ≡ Ok (Update nowhere Postfix op e, rest)
  unfolding unary postfix
  update_postfix d Increment ts rest e n u t h = rw (n, u, h, t) refl
  update_postfix d Decrement ts rest e n u t h = rw (n, u, h, t) refl

  no_suffix_at_update : (d : Deeper) (op : UpdateOp) (rest : List Token) → a_suffix end d side.Call (update_token op ∷ rest) ≡ Ok (End, update_token op ∷ rest)
  unfolding a_suffix
  no_suffix_at_update d Increment rest = refl
  no_suffix_at_update d Decrement rest = refl

  pub postfix_node : (op : UpdateOp) (e : ExpressionTree) (room : ℕ) (rest : List Token) → is_target e ≡ true → IsExpression e → Rereads e → length (in_round (expression_tokens e ++ update_token op ∷ [])) ≤ room → primary end (deeper end room) (in_round (expression_tokens e ++ update_token op ∷ []) ++ rest) ≡ Ok (Update nowhere Postfix op (placeless_expression e), rest)
  postfix_node op e room rest t is again fits =
      let size = length-append (expression_tokens e) (update_token op ∷ []) in
      let size2 = length-append (expression_tokens e ++ update_token op ∷ []) (sign_token sign.RightParenthesis ∷ []) in
      let d = deeper end (room - 1) in
      let behind = update_token op ∷ closed end rest in
      let ts = expression_tokens e ++ behind in
      let first : suffixed end d side.Call ts ≡ Ok (placeless_expression e, behind) = suffixed_reads end d side.Call ts behind (placeless_expression e) (again (room - 1) behind (omega (arith, size, size2))) (no_suffix_at_update d op (closed end rest)) in
      let read = update_postfix d op ts (closed end rest) (placeless_expression e) (no_unary e behind is) (no_update e behind) (is_target_placeless e t) first in
      brackets_at end room (expression_tokens e ++ update_token op ∷ []) rest (Update nowhere Postfix op (placeless_expression e)) (omega arith)
      (rw (append_assoc (expression_tokens e) (update_token op ∷ []) (closed end rest)) (value_of_unary end d Plain ts (closed end rest) (Update nowhere Postfix op (placeless_expression e)) read (stops_parenthesis end d Plain rest)))
