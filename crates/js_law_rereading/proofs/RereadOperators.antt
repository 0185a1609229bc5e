-- Reading expressions with binary operators, `? :` and assignments that were printed, from how their parts are read.
use Rattle.std.proofs.Common.{◌≡◌, ℕ, zero, suc, ◌+◌, ◌-◌, ◌<◌, ◌≤◌, List, [], ◌∷◌, ◌++◌, length, Some, None, Ok, true, refl, ap, ◌∙◌, subst, append_assoc, length-append, arith}
use Rattle.std.proofs.lemmas.Bool.Decides.{nat_tests}
use Rattle.js_tree.specs.declared.place.Place.{Place}
use Rattle.js_tree.specs.declared.token.Token.{Token}
use Rattle.js_tree.specs.declared.sign.Sign.TheVariants as sign
use Rattle.js_tree.specs.declared.operators.BinaryOp.{BinaryOp}
use Rattle.js_tree.specs.declared.operators.BinaryOp.TheVariants as op2
use Rattle.js_tree.specs.declared.operators.AssignOp.{AssignOp}
use Rattle.js_tree.specs.declared.operators.AssignOp.TheVariants as assign
use Rattle.js_tree.specs.declared.expression.Operand.{Operand}
use Rattle.js_tree.specs.Tree.{ExpressionTree, Chain, Conditional, Assign, Operands, no_operand, an_operand as operand_more}
use Rattle.js_grammar.specs.declared.turn.Turn.TheVariants.{More, End}
use Rattle.js_grammar.specs.declared.form.Form.{Form}
use Rattle.js_grammar.specs.declared.form.Form.TheVariants.{Plain}
use Rattle.js_grammar.specs.declared.form.LeftSide.TheVariants as side
use Rattle.js_grammar.specs.Readers.{Reader, row_of, row, next_sign, expect, place_at}
use Rattle.js_grammar.specs.Operators.{next_postfix, next_binary, at_level, next_assign, level_of, is_target}
use Rattle.js_grammar.specs.Expressions.{Deeper, a_suffix, primary, an_operand, chain, chained, level, conditional, conditional_by, assignment}
use Rattle.js_grammar.specs.Statements.{deeper}
use Rattle.js_grammar.specs.Printing.{nowhere, sign_token, binary_token, assign_token, in_round, expression_tokens, operands_tokens}
use Rattle.js_grammar.specs.Placeless.{placeless_expression, placeless_operands}
use Rattle.js_law_readable.specs.Readable.{IsExpression, AreOperands, has_operand}
use Rattle.js_law_rereading.proofs.Lists.{operand_list, operands_placeless, is_target_placeless}
use Rattle.js_law_rereading.proofs.RereadParts.{row_more, row_end, stops_parenthesis, stops_colon, level_next, value_of_level, closed, brackets_at}
use Rattle.js_law_rereading.proofs.RereadExpressions.{Rereads, begins_nowhere, value_again, level_again}

-- ---- what an operator ends

no_suffix_at_binary : (end : Place) (d : Deeper) (op : BinaryOp) (rest : List Token) → a_suffix end d side.Call (binary_token op ∷ rest) ≡ Ok (End, binary_token op ∷ rest)
unfolding a_suffix
no_suffix_at_binary end d op2.Or rest = refl
no_suffix_at_binary end d op2.And rest = refl
no_suffix_at_binary end d op2.BitOr rest = refl
no_suffix_at_binary end d op2.BitXor rest = refl
no_suffix_at_binary end d op2.BitAnd rest = refl
no_suffix_at_binary end d op2.Equal rest = refl
no_suffix_at_binary end d op2.NotEqual rest = refl
no_suffix_at_binary end d op2.StrictEqual rest = refl
no_suffix_at_binary end d op2.StrictNotEqual rest = refl
no_suffix_at_binary end d op2.Less rest = refl
no_suffix_at_binary end d op2.Greater rest = refl
no_suffix_at_binary end d op2.LessEqual rest = refl
no_suffix_at_binary end d op2.GreaterEqual rest = refl
no_suffix_at_binary end d op2.InstanceOf rest = refl
no_suffix_at_binary end d op2.In rest = refl
no_suffix_at_binary end d op2.ShiftLeft rest = refl
no_suffix_at_binary end d op2.ShiftRight rest = refl
no_suffix_at_binary end d op2.UnsignedShiftRight rest = refl
no_suffix_at_binary end d op2.Add rest = refl
no_suffix_at_binary end d op2.Subtract rest = refl
no_suffix_at_binary end d op2.Multiply rest = refl
no_suffix_at_binary end d op2.Divide rest = refl
no_suffix_at_binary end d op2.Remainder rest = refl

no_postfix_at_binary : (op : BinaryOp) (rest : List Token) → next_postfix (binary_token op ∷ rest) ≡ None
no_postfix_at_binary op2.Or rest = refl
no_postfix_at_binary op2.And rest = refl
no_postfix_at_binary op2.BitOr rest = refl
no_postfix_at_binary op2.BitXor rest = refl
no_postfix_at_binary op2.BitAnd rest = refl
no_postfix_at_binary op2.Equal rest = refl
no_postfix_at_binary op2.NotEqual rest = refl
no_postfix_at_binary op2.StrictEqual rest = refl
no_postfix_at_binary op2.StrictNotEqual rest = refl
no_postfix_at_binary op2.Less rest = refl
no_postfix_at_binary op2.Greater rest = refl
no_postfix_at_binary op2.LessEqual rest = refl
no_postfix_at_binary op2.GreaterEqual rest = refl
no_postfix_at_binary op2.InstanceOf rest = refl
no_postfix_at_binary op2.In rest = refl
no_postfix_at_binary op2.ShiftLeft rest = refl
no_postfix_at_binary op2.ShiftRight rest = refl
no_postfix_at_binary op2.UnsignedShiftRight rest = refl
no_postfix_at_binary op2.Add rest = refl
no_postfix_at_binary op2.Subtract rest = refl
no_postfix_at_binary op2.Multiply rest = refl
no_postfix_at_binary op2.Divide rest = refl
no_postfix_at_binary op2.Remainder rest = refl

binary_here : (op : BinaryOp) (rest : List Token) → next_binary Plain (binary_token op ∷ rest) ≡ Some op
binary_here op2.Or rest = refl
binary_here op2.And rest = refl
binary_here op2.BitOr rest = refl
binary_here op2.BitXor rest = refl
binary_here op2.BitAnd rest = refl
binary_here op2.Equal rest = refl
binary_here op2.NotEqual rest = refl
binary_here op2.StrictEqual rest = refl
binary_here op2.StrictNotEqual rest = refl
binary_here op2.Less rest = refl
binary_here op2.Greater rest = refl
binary_here op2.LessEqual rest = refl
binary_here op2.GreaterEqual rest = refl
binary_here op2.InstanceOf rest = refl
binary_here op2.In rest = refl
binary_here op2.ShiftLeft rest = refl
binary_here op2.ShiftRight rest = refl
binary_here op2.UnsignedShiftRight rest = refl
binary_here op2.Add rest = refl
binary_here op2.Subtract rest = refl
binary_here op2.Multiply rest = refl
binary_here op2.Divide rest = refl
binary_here op2.Remainder rest = refl

no_suffix_at_assign : (end : Place) (d : Deeper) (op : AssignOp) (rest : List Token) → a_suffix end d side.Call (assign_token op ∷ rest) ≡ Ok (End, assign_token op ∷ rest)
unfolding a_suffix
no_suffix_at_assign end d assign.Set rest = refl
no_suffix_at_assign end d assign.Add rest = refl
no_suffix_at_assign end d assign.Subtract rest = refl
no_suffix_at_assign end d assign.Multiply rest = refl
no_suffix_at_assign end d assign.Divide rest = refl
no_suffix_at_assign end d assign.Remainder rest = refl
no_suffix_at_assign end d assign.ShiftLeft rest = refl
no_suffix_at_assign end d assign.ShiftRight rest = refl
no_suffix_at_assign end d assign.UnsignedShiftRight rest = refl
no_suffix_at_assign end d assign.BitAnd rest = refl
no_suffix_at_assign end d assign.BitOr rest = refl
no_suffix_at_assign end d assign.BitXor rest = refl

no_postfix_at_assign : (op : AssignOp) (rest : List Token) → next_postfix (assign_token op ∷ rest) ≡ None
no_postfix_at_assign assign.Set rest = refl
no_postfix_at_assign assign.Add rest = refl
no_postfix_at_assign assign.Subtract rest = refl
no_postfix_at_assign assign.Multiply rest = refl
no_postfix_at_assign assign.Divide rest = refl
no_postfix_at_assign assign.Remainder rest = refl
no_postfix_at_assign assign.ShiftLeft rest = refl
no_postfix_at_assign assign.ShiftRight rest = refl
no_postfix_at_assign assign.UnsignedShiftRight rest = refl
no_postfix_at_assign assign.BitAnd rest = refl
no_postfix_at_assign assign.BitOr rest = refl
no_postfix_at_assign assign.BitXor rest = refl

no_binary_at_assign : (op : AssignOp) (rest : List Token) → next_binary Plain (assign_token op ∷ rest) ≡ None
no_binary_at_assign assign.Set rest = refl
no_binary_at_assign assign.Add rest = refl
no_binary_at_assign assign.Subtract rest = refl
no_binary_at_assign assign.Multiply rest = refl
no_binary_at_assign assign.Divide rest = refl
no_binary_at_assign assign.Remainder rest = refl
no_binary_at_assign assign.ShiftLeft rest = refl
no_binary_at_assign assign.ShiftRight rest = refl
no_binary_at_assign assign.UnsignedShiftRight rest = refl
no_binary_at_assign assign.BitAnd rest = refl
no_binary_at_assign assign.BitOr rest = refl
no_binary_at_assign assign.BitXor rest = refl

no_question_at_assign : (end : Place) (d : Deeper) (op : AssignOp) (rest : List Token) (p : Place) (c : ExpressionTree) → conditional_by end d Plain (next_sign (assign_token op ∷ rest)) p c (assign_token op ∷ rest) ≡ Ok (c, assign_token op ∷ rest)
no_question_at_assign end d assign.Set rest p c = refl
no_question_at_assign end d assign.Add rest p c = refl
no_question_at_assign end d assign.Subtract rest p c = refl
no_question_at_assign end d assign.Multiply rest p c = refl
no_question_at_assign end d assign.Divide rest p c = refl
no_question_at_assign end d assign.Remainder rest p c = refl
no_question_at_assign end d assign.ShiftLeft rest p c = refl
no_question_at_assign end d assign.ShiftRight rest p c = refl
no_question_at_assign end d assign.UnsignedShiftRight rest p c = refl
no_question_at_assign end d assign.BitAnd rest p c = refl
no_question_at_assign end d assign.BitOr rest p c = refl
no_question_at_assign end d assign.BitXor rest p c = refl

assign_here : (op : AssignOp) (rest : List Token) → next_assign (assign_token op ∷ rest) ≡ Some op
assign_here assign.Set rest = refl
assign_here assign.Add rest = refl
assign_here assign.Subtract rest = refl
assign_here assign.Multiply rest = refl
assign_here assign.Divide rest = refl
assign_here assign.Remainder rest = refl
assign_here assign.ShiftLeft rest = refl
assign_here assign.ShiftRight rest = refl
assign_here assign.UnsignedShiftRight rest = refl
assign_here assign.BitAnd rest = refl
assign_here assign.BitOr rest = refl
assign_here assign.BitXor rest = refl

other_level : (j k : ℕ) (op : BinaryOp) → j < k → level_of op ≡ k → at_level j (Some op) ≡ None
other_level j k op less is = grind (arith, nat_tests)

same_level : (k : ℕ) (op : BinaryOp) → level_of op ≡ k → at_level k (Some op) ≡ Some op
same_level k op is = grind (arith, nat_tests)

-- as many levels up
abbrev rise : ℕ → ℕ → ℕ
rise k zero = k
rise k (suc i) = suc (rise k i)

rise_is : (k i : ℕ) → rise k i ≡ k + i
rise_is k zero = omega arith
rise_is k (suc i) = omega (arith, rise_is k i)

module _ (end : Place) where
  level_rises : (d : Deeper) (k i : ℕ) (ts rest : List Token) (e : ExpressionTree) → level end d Plain k ts ≡ Ok (e, rest) → next_binary Plain rest ≡ None → level end d Plain (rise k i) ts ≡ Ok (e, rest)
  level_rises d k zero ts rest e l n = l
  level_rises d k (suc i) ts rest e l n = level_next end d Plain (rise k i) ts rest e (level_rises d k i ts rest e l n) (rw n refl)

  level_ten : (d : Deeper) (k : ℕ) (ts rest : List Token) (e : ExpressionTree) → k < 10 → level end d Plain (suc k) ts ≡ Ok (e, rest) → next_binary Plain rest ≡ None → level end d Plain 10 ts ≡ Ok (e, rest)
  level_ten d k ts rest e less l n =
      let ten : rise (suc k) (9 - k) ≡ 10 = omega (arith, rise_is (suc k) (9 - k)) in
      subst (λ j. level end d Plain j ts ≡ Ok (e, rest)) ten (level_rises d (suc k) (9 - k) ts rest e l n)

  -- ---- rows of operators

  abbrev pub RereadsOperands : ℕ → Operands → Type 0
  RereadsOperands k os = (room n : ℕ) (rest : List Token) → length (operands_tokens os) ≤ room → length (operands_tokens os) ≤ n → row_of (an_operand end Plain k (level end (deeper end room) Plain k)) (suc n) (operands_tokens os ++ closed end rest) ≡ Ok (operand_list os, closed end rest)

  pub no_operands : (k : ℕ) → RereadsOperands k no_operand
  unfolding expression_tokens an_operand
  no_operands k room n rest fits le = row_end (an_operand end Plain k (level end (deeper end room) Plain k)) n (closed end rest) (closed end rest) refl

  -- what stands behind an operand extends no operand of its level
  suffix_behind : (d : Deeper) (os : Operands) (rest : List Token) → a_suffix end d side.Call (operands_tokens os ++ closed end rest) ≡ Ok (End, operands_tokens os ++ closed end rest)
  unfolding expression_tokens
  suffix_behind d no_operand rest = (stops_parenthesis end d Plain rest).suffix
  suffix_behind d (operand_more p op e os) rest = no_suffix_at_binary end d op ((expression_tokens e ++ operands_tokens os) ++ closed end rest)

  postfix_behind : (os : Operands) (rest : List Token) → next_postfix (operands_tokens os ++ closed end rest) ≡ None
  unfolding expression_tokens
  postfix_behind no_operand rest = refl
  postfix_behind (operand_more p op e os) rest = no_postfix_at_binary op ((expression_tokens e ++ operands_tokens os) ++ closed end rest)

  lower_behind : (j k : ℕ) (os : Operands) (rest : List Token) → j < k → AreOperands k os → at_level j (next_binary Plain (operands_tokens os ++ closed end rest)) ≡ None
  unfolding expression_tokens
  lower_behind j k no_operand rest less is = refl
  lower_behind j k (operand_more p op e os) rest less is = rw (binary_here op ((expression_tokens e ++ operands_tokens os) ++ closed end rest)) (other_level j k op less is.0)

  operand_reads : (form : Form) (k : ℕ) (next : Reader ExpressionTree) (op : BinaryOp) (ts rest : List Token) (e : ExpressionTree) → at_level k (next_binary form (binary_token op ∷ ts)) ≡ Some op → next ts ≡ Ok (e, rest) → place_at end (binary_token op ∷ ts) ≡ nowhere → an_operand end form k next (binary_token op ∷ ts) ≡ Ok (More (record { place = nowhere; op = op; value = e }), rest)
  unfolding an_operand
  operand_reads form k next op ts rest e h l p = rw (h, l, p) refl

  operator_nowhere : (op : BinaryOp) (ts : List Token) → place_at end (binary_token op ∷ ts) ≡ nowhere
  operator_nowhere op2.Or ts = refl
  operator_nowhere op2.And ts = refl
  operator_nowhere op2.BitOr ts = refl
  operator_nowhere op2.BitXor ts = refl
  operator_nowhere op2.BitAnd ts = refl
  operator_nowhere op2.Equal ts = refl
  operator_nowhere op2.NotEqual ts = refl
  operator_nowhere op2.StrictEqual ts = refl
  operator_nowhere op2.StrictNotEqual ts = refl
  operator_nowhere op2.Less ts = refl
  operator_nowhere op2.Greater ts = refl
  operator_nowhere op2.LessEqual ts = refl
  operator_nowhere op2.GreaterEqual ts = refl
  operator_nowhere op2.InstanceOf ts = refl
  operator_nowhere op2.In ts = refl
  operator_nowhere op2.ShiftLeft ts = refl
  operator_nowhere op2.ShiftRight ts = refl
  operator_nowhere op2.UnsignedShiftRight ts = refl
  operator_nowhere op2.Add ts = refl
  operator_nowhere op2.Subtract ts = refl
  operator_nowhere op2.Multiply ts = refl
  operator_nowhere op2.Divide ts = refl
  operator_nowhere op2.Remainder ts = refl

  pub operand_row : (p : Place) (op : BinaryOp) (e : ExpressionTree) (os : Operands) (k : ℕ) → level_of op ≡ k → IsExpression e → Rereads end e → AreOperands k os → RereadsOperands k os → RereadsOperands k (operand_more p op e os)
  unfolding expression_tokens
  operand_row p op e os k is ex again are others room zero rest fits le = absurd (omega arith)
  operand_row p op e os k is ex again are others room (suc n) rest fits le =
      let size = length-append (expression_tokens e) (operands_tokens os) in
      let d = deeper end room in
      let next = level end d Plain k in
      let more = operands_tokens os ++ closed end rest in
      let ts = expression_tokens e ++ more in
      let here : at_level k (next_binary Plain (binary_token op ∷ ts)) ≡ Some op = rw (binary_here op ts) (same_level k op is) in
      let value : next ts ≡ Ok (placeless_expression e, more) = level_again end e room k Plain more ex again (omega (arith, size)) (suffix_behind d os rest) (postfix_behind os rest) (λ j less. lower_behind j k os rest less are) in
      rw (append_assoc (expression_tokens e) (operands_tokens os) (closed end rest)) (row_more (an_operand end Plain k next) (suc n) (binary_token op ∷ ts) more (closed end rest) (record { place = nowhere; op = op; value = placeless_expression e }) (operand_list os) (operand_reads Plain k next op ts more (placeless_expression e) here value (operator_nowhere op ts)) (others room n rest (omega (arith, size)) (omega (arith, size))))

  level_chain : (d : Deeper) (k : ℕ) (ts more rest : List Token) (e : ExpressionTree) (os : List Operand) → level end d Plain k ts ≡ Ok (e, more) → row (an_operand end Plain k (level end d Plain k)) more ≡ Ok (os, rest) → level end d Plain (suc k) ts ≡ Ok (chained (place_at end ts) e os, rest)
  unfolding level chain
  level_chain d k ts more rest e os l r = rw (l, r) refl

  chained_placeless : (e : ExpressionTree) (os : Operands) → has_operand os ≡ true → chained nowhere (placeless_expression e) (operand_list os) ≡ Chain nowhere (placeless_expression e) (placeless_operands os)
  chained_placeless e no_operand h = cc
  chained_placeless e (operand_more p op v os) h = ap (λ (x : Operands). Chain nowhere (placeless_expression e) (operand_more nowhere op (placeless_expression v) x)) (operands_placeless os)

  pub chain_node : (e : ExpressionTree) (os : Operands) (k room : ℕ) (rest : List Token) → k < 10 → has_operand os ≡ true → AreOperands k os → IsExpression e → Rereads end e → RereadsOperands k os → length (in_round (expression_tokens e ++ operands_tokens os)) ≤ room → primary end (deeper end room) (in_round (expression_tokens e ++ operands_tokens os) ++ rest) ≡ Ok (Chain nowhere (placeless_expression e) (placeless_operands os), rest)
  chain_node e os k room rest less has are is again others fits =
      let size = length-append (expression_tokens e) (operands_tokens os) in
      let size2 = length-append (expression_tokens e ++ operands_tokens os) (sign_token sign.RightParenthesis ∷ []) in
      let d = deeper end (room - 1) in
      let more = operands_tokens os ++ closed end rest in
      let size3 = length-append (operands_tokens os) (closed end rest) in
      let ts = expression_tokens e ++ more in
      let first : level end d Plain k ts ≡ Ok (placeless_expression e, more) = level_again end e (room - 1) k Plain more is again (omega (arith, size, size2)) (suffix_behind d os rest) (postfix_behind os rest) (λ j h. lower_behind j k os rest h are) in
      let list : row (an_operand end Plain k (level end d Plain k)) more ≡ Ok (operand_list os, closed end rest) = others (room - 1) (length more) rest (omega (arith, size, size2)) (omega (arith, size3)) in
      let tree : chained (place_at end ts) (placeless_expression e) (operand_list os) ≡ Chain nowhere (placeless_expression e) (placeless_operands os) = rw (begins_nowhere end e more) (chained_placeless e os has) in
      let whole : level end d Plain (suc k) ts ≡ Ok (Chain nowhere (placeless_expression e) (placeless_operands os), closed end rest) = level_chain d k ts more (closed end rest) (placeless_expression e) (operand_list os) first list ∙ ap (λ (x : ExpressionTree). Ok (x, closed end rest)) tree in
      let stops = stops_parenthesis end d Plain rest in
      brackets_at end room (expression_tokens e ++ operands_tokens os) rest (Chain nowhere (placeless_expression e) (placeless_operands os)) (omega arith)
      (rw (append_assoc (expression_tokens e) (operands_tokens os) (closed end rest)) (value_of_level end d Plain ts (closed end rest) (Chain nowhere (placeless_expression e) (placeless_operands os)) (level_ten d k ts (closed end rest) (Chain nowhere (placeless_expression e) (placeless_operands os)) less whole stops.binary) stops))

  -- ---- `? :` and assignment

  conditional_reads : (d : Deeper) (ts us vs rest : List Token) (c a b : ExpressionTree) → level end d Plain 10 ts ≡ Ok (c, sign_token sign.Question ∷ us) → d.value Plain us ≡ Ok (a, sign_token sign.Colon ∷ vs) → d.value Plain vs ≡ Ok (b, closed end rest) → assignment end d Plain ts ≡ Ok (Conditional (place_at end ts) c a b, closed end rest)
  unfolding assignment conditional expect
  conditional_reads d ts us vs rest c a b l x y = rw (l, x, y) refl

  pub conditional_node : (c a b : ExpressionTree) (room : ℕ) (rest : List Token) → IsExpression c → IsExpression a → IsExpression b → Rereads end c → Rereads end a → Rereads end b → length (in_round (expression_tokens c ++ sign_token sign.Question ∷ (expression_tokens a ++ sign_token sign.Colon ∷ expression_tokens b))) ≤ room → primary end (deeper end room) (in_round (expression_tokens c ++ sign_token sign.Question ∷ (expression_tokens a ++ sign_token sign.Colon ∷ expression_tokens b)) ++ rest) ≡ Ok (Conditional nowhere (placeless_expression c) (placeless_expression a) (placeless_expression b), rest)
  unfolding a_suffix
  conditional_node c a b room rest is_c is_a is_b again_c again_a again_b fits =
      let tail = sign_token sign.Colon ∷ expression_tokens b in
      let middle = sign_token sign.Question ∷ (expression_tokens a ++ tail) in
      let size = length-append (expression_tokens a) tail in
      let size2 = length-append (expression_tokens c) middle in
      let size3 = length-append (expression_tokens c ++ middle) (sign_token sign.RightParenthesis ∷ []) in
      let d = deeper end (room - 1) in
      let vs = expression_tokens b ++ closed end rest in
      let us = expression_tokens a ++ sign_token sign.Colon ∷ vs in
      let ts = expression_tokens c ++ sign_token sign.Question ∷ us in
      let first : level end d Plain 10 ts ≡ Ok (placeless_expression c, sign_token sign.Question ∷ us) = level_again end c (room - 1) 10 Plain (sign_token sign.Question ∷ us) is_c again_c (omega (arith, size2, size3)) refl refl (λ j h. refl) in
      let second = value_again end a (room - 1) Plain (sign_token sign.Colon ∷ vs) is_a again_a (omega (arith, size, size2, size3)) (stops_colon end (deeper end (room - 1 - 1)) Plain vs) in
      let third = value_again end b (room - 1) Plain (closed end rest) is_b again_b (omega (arith, size, size2, size3)) (stops_parenthesis end (deeper end (room - 1 - 1)) Plain rest) in
      let read : assignment end d Plain ts ≡ Ok (Conditional nowhere (placeless_expression c) (placeless_expression a) (placeless_expression b), closed end rest) = conditional_reads d ts us vs rest (placeless_expression c) (placeless_expression a) (placeless_expression b) first second third ∙ ap (λ (p : Place). Ok (Conditional p (placeless_expression c) (placeless_expression a) (placeless_expression b), closed end rest)) (begins_nowhere end c (sign_token sign.Question ∷ us)) in
      brackets_at end room (expression_tokens c ++ middle) rest (Conditional nowhere (placeless_expression c) (placeless_expression a) (placeless_expression b)) (omega arith)
      (rw (append_assoc (expression_tokens c) middle (closed end rest), append_assoc (expression_tokens a) tail (closed end rest)) read)

  assigned_reads : (d : Deeper) (op : AssignOp) (ts us rest : List Token) (e v : ExpressionTree) → level end d Plain 10 ts ≡ Ok (e, assign_token op ∷ us) → is_target e ≡ true → d.value Plain us ≡ Ok (v, rest) → assignment end d Plain ts ≡ Ok (Assign (place_at end (assign_token op ∷ us)) e op v, rest)
  unfolding assignment conditional
  assigned_reads d op ts us rest e v l t h = rw (l, no_question_at_assign end d op us, assign_here op us, t, h) refl

  assign_nowhere : (op : AssignOp) (ts : List Token) → place_at end (assign_token op ∷ ts) ≡ nowhere
  assign_nowhere assign.Set ts = refl
  assign_nowhere assign.Add ts = refl
  assign_nowhere assign.Subtract ts = refl
  assign_nowhere assign.Multiply ts = refl
  assign_nowhere assign.Divide ts = refl
  assign_nowhere assign.Remainder ts = refl
  assign_nowhere assign.ShiftLeft ts = refl
  assign_nowhere assign.ShiftRight ts = refl
  assign_nowhere assign.UnsignedShiftRight ts = refl
  assign_nowhere assign.BitAnd ts = refl
  assign_nowhere assign.BitOr ts = refl
  assign_nowhere assign.BitXor ts = refl

  pub assign_node : (e : ExpressionTree) (op : AssignOp) (v : ExpressionTree) (room : ℕ) (rest : List Token) → is_target e ≡ true → IsExpression e → IsExpression v → Rereads end e → Rereads end v → length (in_round (expression_tokens e ++ assign_token op ∷ expression_tokens v)) ≤ room → primary end (deeper end room) (in_round (expression_tokens e ++ assign_token op ∷ expression_tokens v) ++ rest) ≡ Ok (Assign nowhere (placeless_expression e) op (placeless_expression v), rest)
  assign_node e op v room rest target is_e is_v again_e again_v fits =
      let tail = assign_token op ∷ expression_tokens v in
      let size = length-append (expression_tokens e) tail in
      let size2 = length-append (expression_tokens e ++ tail) (sign_token sign.RightParenthesis ∷ []) in
      let d = deeper end (room - 1) in
      let us = expression_tokens v ++ closed end rest in
      let ts = expression_tokens e ++ assign_token op ∷ us in
      let first : level end d Plain 10 ts ≡ Ok (placeless_expression e, assign_token op ∷ us) = level_again end e (room - 1) 10 Plain (assign_token op ∷ us) is_e again_e (omega (arith, size, size2)) (no_suffix_at_assign end d op us) (no_postfix_at_assign op us) (λ j h. rw (no_binary_at_assign op us) refl) in
      let value = value_again end v (room - 1) Plain (closed end rest) is_v again_v (omega (arith, size, size2)) (stops_parenthesis end (deeper end (room - 1 - 1)) Plain rest) in
      let read : assignment end d Plain ts ≡ Ok (Assign nowhere (placeless_expression e) op (placeless_expression v), closed end rest) = assigned_reads d op ts us (closed end rest) (placeless_expression e) (placeless_expression v) first (is_target_placeless e target) value ∙ ap (λ (p : Place). Ok (Assign p (placeless_expression e) op (placeless_expression v), closed end rest)) (assign_nowhere op us) in
      brackets_at end room (expression_tokens e ++ tail) rest (Assign nowhere (placeless_expression e) op (placeless_expression v)) (omega arith)
      (rw (append_assoc (expression_tokens e) tail (closed end rest)) read)
