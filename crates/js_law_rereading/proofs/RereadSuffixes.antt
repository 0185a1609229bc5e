-- Reading members, indexes, calls and `new` that were printed, from how their parts are read.
use Rattle.std.proofs.Common.{◌≡◌, ℕ, zero, suc, ◌-◌, ◌<◌, ◌≤◌, List, [], ◌∷◌, ◌++◌, length, None, Ok, true, refl, ap, ◌∙◌, append_assoc, length-append, arith}
use Rattle.js_tree.specs.declared.place.Place.{Place}
use Rattle.js_tree.specs.declared.token.Token.{Token}
use Rattle.js_tree.specs.declared.sign.Sign.TheVariants as sign
use Rattle.js_tree.specs.declared.expression.Suffix.{Suffix}
use Rattle.js_tree.specs.Tree.{ExpressionTree, Suffixed, New, Expressions, SuffixTree, a_member, an_index, a_call, Suffixes, no_suffix, a_suffix as suffix_more, expressions_of}
use Rattle.js_grammar.specs.declared.turn.Turn.TheVariants.{More}
use Rattle.js_tree.specs.declared.keyword.Keyword.TheVariants as word
use Rattle.js_grammar.specs.declared.form.Form.TheVariants.{Plain}
use Rattle.js_grammar.specs.declared.form.LeftSide.TheVariants as side
use Rattle.js_grammar.specs.Readers.{row_of, row, expect, any_word, place_at}
use Rattle.js_grammar.specs.Operators.{next_unary, next_update, next_postfix}
use Rattle.js_grammar.specs.Expressions.{Deeper, a_suffix, suffixed, suffixed_by, primary, postfix, unary, arguments, new_expression, new_arguments}
use Rattle.js_grammar.specs.Statements.{deeper}
use Rattle.js_grammar.specs.Printing.{nowhere, sign_token, keyword_token, in_round, expression_tokens, expressions_tokens, suffix_tokens, suffixes_tokens}
use Rattle.js_grammar.specs.Placeless.{placeless_expression, placeless_suffixes, placeless_expressions}
use Rattle.js_law_readable.specs.Readable.{IsExpression, has_suffix}
use Rattle.js_law_rereading.proofs.Lists.{expression_list, suffix_record, suffix_list, expressions_placeless, suffixes_placeless}
use Rattle.js_law_rereading.proofs.RereadParts.{row_more, row_end, stops_parenthesis, stops_bracket, suffixed_reads, unary_reads, value_of_unary, callee_at, closed, brackets_at}
use Rattle.js_law_rereading.proofs.RereadExpressions.{Rereads, begins_nowhere, no_unary, no_update, expression_again}
use Rattle.js_law_rereading.proofs.RereadRows.{RereadsArguments, arguments_again}

module _ (end : Place) where
  -- ---- suffixes

  abbrev pub RereadsSuffix : SuffixTree → Type 0
  RereadsSuffix s = (room : ℕ) (rest : List Token) → length (suffix_tokens s) ≤ room → a_suffix end (deeper end room) side.Call (suffix_tokens s ++ rest) ≡ Ok (More (suffix_record s), rest)

  pub member_again : (p : Place) (x : List ℕ) → RereadsSuffix (a_member p x)
  unfolding expression_tokens a_suffix any_word
  member_again p x room rest fits = refl

  pub index_again : (p : Place) (e : ExpressionTree) → IsExpression e → Rereads end e → RereadsSuffix (an_index p e)
  unfolding expression_tokens a_suffix expect
  index_again p e is again room rest fits =
      let size = length-append (expression_tokens e) (sign_token sign.RightBracket ∷ []) in
      rw (append_assoc (expression_tokens e) (sign_token sign.RightBracket ∷ []) rest, expression_again end e room Plain (sign_token sign.RightBracket ∷ rest) is again (omega (arith, size)) (stops_bracket end (deeper end (room - 1)) Plain rest) refl) refl

  pub call_again : (p : Place) (es : Expressions) → RereadsArguments end es → RereadsSuffix (a_call p es)
  unfolding expression_tokens a_suffix
  call_again p es again room rest fits =
      let size = length-append (expressions_tokens es) (sign_token sign.RightParenthesis ∷ []) in
      rw (append_assoc (expressions_tokens es) (sign_token sign.RightParenthesis ∷ []) rest, arguments_again end es room rest again (omega (arith, size))) refl

  abbrev pub RereadsSuffixes : Suffixes → Type 0
  RereadsSuffixes ss = (room n : ℕ) (rest : List Token) → length (suffixes_tokens ss) ≤ room → length (suffixes_tokens ss) ≤ n → row_of (a_suffix end (deeper end room) side.Call) (suc n) (suffixes_tokens ss ++ closed end rest) ≡ Ok (suffix_list ss, closed end rest)

  pub no_suffixes : RereadsSuffixes no_suffix
  unfolding expression_tokens
  no_suffixes room n rest fits le = row_end (a_suffix end (deeper end room) side.Call) n (closed end rest) (closed end rest) (stops_parenthesis end (deeper end room) Plain rest).suffix

  suffix_some : (s : SuffixTree) → 0 < length (suffix_tokens s)
  unfolding expression_tokens
  suffix_some (a_member p x) = omega arith
  suffix_some (an_index p e) = omega arith
  suffix_some (a_call p es) = omega arith

  pub suffix_row : (s : SuffixTree) (ss : Suffixes) → RereadsSuffix s → RereadsSuffixes ss → RereadsSuffixes (suffix_more s ss)
  unfolding expression_tokens
  suffix_row s ss one others room zero rest fits le = absurd (omega (arith, suffix_some s, length-append (suffix_tokens s) (suffixes_tokens ss)))
  suffix_row s ss one others room (suc n) rest fits le =
      let size = length-append (suffix_tokens s) (suffixes_tokens ss) in
      let more = suffixes_tokens ss ++ closed end rest in
      rw (append_assoc (suffix_tokens s) (suffixes_tokens ss) (closed end rest)) (row_more (a_suffix end (deeper end room) side.Call) (suc n) (suffix_tokens s ++ more) more (closed end rest) (suffix_record s) (suffix_list ss) (one room more (omega (arith, size))) (others room n rest (omega (arith, size)) (omega (arith, size, suffix_some s))))

  -- what stands behind the first part of a row of suffixes: a suffix, so no row of another kind
  suffixed_placeless : (e : ExpressionTree) (ss : Suffixes) → has_suffix ss ≡ true → suffixed_by nowhere (placeless_expression e) (suffix_list ss) ≡ Suffixed nowhere (placeless_expression e) (placeless_suffixes ss)
  suffixed_placeless e no_suffix h = cc
  suffixed_placeless e (suffix_more s ss) h = ap (Suffixed nowhere (placeless_expression e)) (suffixes_placeless (suffix_more s ss))

  suffixed_row : (d : Deeper) (ts more rest : List Token) (e : ExpressionTree) (ss : List Suffix) → primary end d ts ≡ Ok (e, more) → row (a_suffix end d side.Call) more ≡ Ok (ss, rest) → suffixed end d side.Call ts ≡ Ok (suffixed_by (place_at end ts) e ss, rest)
  unfolding suffixed
  suffixed_row d ts more rest e ss p r = rw (p, r) refl

  unary_of_suffixed : (d : Deeper) (ts rest : List Token) (e : ExpressionTree) → next_unary ts ≡ None → next_update ts ≡ None → suffixed end d side.Call ts ≡ Ok (e, rest) → next_postfix rest ≡ None → unary end d ts ≡ Ok (e, rest)
  unfolding unary postfix
  unary_of_suffixed d ts rest e n u s q = rw (n, u, s, q) refl

  pub suffixed_node : (e : ExpressionTree) (ss : Suffixes) (room : ℕ) (rest : List Token) → has_suffix ss ≡ true → IsExpression e → Rereads end e → RereadsSuffixes ss → length (in_round (expression_tokens e ++ suffixes_tokens ss)) ≤ room → primary end (deeper end room) (in_round (expression_tokens e ++ suffixes_tokens ss) ++ rest) ≡ Ok (Suffixed nowhere (placeless_expression e) (placeless_suffixes ss), rest)
  suffixed_node e ss room rest has is again others fits =
      let size = length-append (expression_tokens e) (suffixes_tokens ss) in
      let size2 = length-append (expression_tokens e ++ suffixes_tokens ss) (sign_token sign.RightParenthesis ∷ []) in
      let d = deeper end (room - 1) in
      let more = suffixes_tokens ss ++ closed end rest in
      let size3 = length-append (suffixes_tokens ss) (closed end rest) in
      let ts = expression_tokens e ++ more in
      let list : row (a_suffix end d side.Call) more ≡ Ok (suffix_list ss, closed end rest) = others (room - 1) (length more) rest (omega (arith, size, size2)) (omega (arith, size3)) in
      let tree : suffixed_by (place_at end ts) (placeless_expression e) (suffix_list ss) ≡ Suffixed nowhere (placeless_expression e) (placeless_suffixes ss) = rw (begins_nowhere end e more) (suffixed_placeless e ss has) in
      let whole : suffixed end d side.Call ts ≡ Ok (Suffixed nowhere (placeless_expression e) (placeless_suffixes ss), closed end rest) = suffixed_row d ts more (closed end rest) (placeless_expression e) (suffix_list ss) (again (room - 1) more (omega (arith, size, size2))) list ∙ ap (λ (x : ExpressionTree). Ok (x, closed end rest)) tree in
      let stops = stops_parenthesis end d Plain rest in
      brackets_at end room (expression_tokens e ++ suffixes_tokens ss) rest (Suffixed nowhere (placeless_expression e) (placeless_suffixes ss)) (omega arith)
      (rw (append_assoc (expression_tokens e) (suffixes_tokens ss) (closed end rest)) (value_of_unary end d Plain ts (closed end rest) (Suffixed nowhere (placeless_expression e) (placeless_suffixes ss)) (unary_of_suffixed d ts (closed end rest) (Suffixed nowhere (placeless_expression e) (placeless_suffixes ss)) (no_unary e more is) (no_update e more) whole stops.postfix) stops))

  -- ---- `new`

  new_reads : (d : Deeper) (es : Expressions) (ts us rest : List Token) (e : ExpressionTree) → d.callee ts ≡ Ok (e, sign_token sign.LeftParenthesis ∷ us) → arguments end d us ≡ Ok (expression_list es, rest) → primary end d (keyword_token word.New ∷ ts) ≡ Ok (New nowhere e (expressions_of (expression_list es)), rest)
  unfolding primary new_expression new_arguments
  new_reads d es ts us rest e c a = rw (c, a) refl

  pub new_node : (e : ExpressionTree) (es : Expressions) (room : ℕ) (rest : List Token) → Rereads end e → RereadsArguments end es → length (in_round (keyword_token word.New ∷ (expression_tokens e ++ in_round (expressions_tokens es)))) ≤ room → primary end (deeper end room) (in_round (keyword_token word.New ∷ (expression_tokens e ++ in_round (expressions_tokens es))) ++ rest) ≡ Ok (New nowhere (placeless_expression e) (placeless_expressions es), rest)
  unfolding a_suffix
  new_node e es room rest again others fits =
      let size = length-append (expressions_tokens es) (sign_token sign.RightParenthesis ∷ []) in
      let size2 = length-append (expression_tokens e) (in_round (expressions_tokens es)) in
      let size3 = length-append (expression_tokens e ++ in_round (expressions_tokens es)) (sign_token sign.RightParenthesis ∷ []) in
      let d = deeper end (room - 1) in
      let us = expressions_tokens es ++ closed end (closed end rest) in
      let behind = sign_token sign.LeftParenthesis ∷ us in
      let ts = expression_tokens e ++ behind in
      let callee : d.callee ts ≡ Ok (placeless_expression e, behind) = callee_at end (room - 1) ts (omega (arith, size, size2, size3)) ∙ suffixed_reads end (deeper end (room - 1 - 1)) side.Member ts behind (placeless_expression e) (again (room - 1 - 1) behind (omega (arith, size, size2, size3))) refl in
      let given = arguments_again end es (room - 1) (closed end rest) others (omega (arith, size, size2, size3)) in
      let read : primary end d (keyword_token word.New ∷ ts) ≡ Ok (New nowhere (placeless_expression e) (placeless_expressions es), closed end rest) = new_reads d es ts us (closed end rest) (placeless_expression e) callee given ∙ ap (λ (x : Expressions). Ok (New nowhere (placeless_expression e) x, closed end rest)) (expressions_placeless es) in
      let stops = stops_parenthesis end d Plain rest in
      brackets_at end room (keyword_token word.New ∷ (expression_tokens e ++ in_round (expressions_tokens es))) rest (New nowhere (placeless_expression e) (placeless_expressions es)) (omega arith)
      (rw (append_assoc (expression_tokens e) (in_round (expressions_tokens es)) (closed end rest), append_assoc (expressions_tokens es) (sign_token sign.RightParenthesis ∷ []) (closed end rest)) (value_of_unary end d Plain (keyword_token word.New ∷ ts) (closed end rest) (New nowhere (placeless_expression e) (placeless_expressions es)) (unary_reads end d (keyword_token word.New ∷ ts) (closed end rest) (New nowhere (placeless_expression e) (placeless_expressions es)) refl refl read stops.suffix stops.postfix) stops))
