-- Reading expressions in rows that were printed, from how their parts are read.
use Rattle.std.proofs.Common.{◌≡◌, ℕ, zero, suc, ◌-◌, ◌<◌, ◌≤◌, List, [], ◌∷◌, ◌++◌, length, Some, None, Ok, true, refl, ap, ◌∙◌, append_assoc, length-append, arith}
use Rattle.js_tree.specs.declared.place.Place.{Place}
use Rattle.js_tree.specs.declared.token.Token.{Token}
use Rattle.js_tree.specs.declared.token.TokenKind.TheVariants as token
use Rattle.js_tree.specs.declared.sign.Sign.TheVariants as sign
use Rattle.js_tree.specs.Tree.{ExpressionTree, Array, Object, Comma, Expressions, no_expression, an_expression, Items, no_item, an_item, absent, present, Properties, no_property, a_property}
use Rattle.js_grammar.specs.declared.turn.Turn.TheVariants.{More, Last}
use Rattle.js_grammar.specs.declared.form.Form.TheVariants.{Plain}
use Rattle.js_grammar.specs.Readers.{row_of, row, expect, place_at}
use Rattle.js_grammar.specs.Expressions.{Deeper, primary, a_part, expression, arguments, an_argument, an_item as item_turn, a_property as property_turn, named_property}
use Rattle.js_grammar.specs.Statements.{deeper}
use Rattle.js_grammar.specs.Printing.{nowhere, printed, sign_token, in_round, in_square, in_braces, comma_if, more_expressions, expression_tokens, expressions_tokens, items_tokens, properties_tokens}
use Rattle.js_grammar.specs.Placeless.{placeless_expression, placeless_expressions, placeless_items, placeless_properties}
use Rattle.js_law_readable.specs.Readable.{IsExpression, has_two}
use Rattle.js_law_rereading.proofs.Lists.{expression_list, item_list, property_list, expressions_placeless, items_placeless, properties_placeless}
use Rattle.js_law_rereading.proofs.RereadParts.{row_more, row_last, stops_parenthesis, stops_bracket, stops_brace, stops_comma, unary_reads, value_of_unary, closed, round_reads, primary_round, brackets_at}
use Rattle.js_law_rereading.proofs.RereadExpressions.{Rereads, begins_nowhere, begins_argument, begins_item, value_again}

module _ (end : Place) where
  -- ---- arguments and what commas part

  -- the rest of a row of arguments
  abbrev pub RereadsArguments : Expressions → Type 0
  RereadsArguments es = (room n : ℕ) (rest : List Token) → length (expressions_tokens es) < room → length (expressions_tokens es) ≤ n → more_expressions es ≡ true → row_of (an_argument end (deeper end room)) (suc n) (expressions_tokens es ++ closed end rest) ≡ Ok (expression_list es, rest)

  pub no_arguments : RereadsArguments no_expression
  no_arguments room n rest fits le some = cc

  last_argument : (room : ℕ) (e : ExpressionTree) (rest : List Token) → IsExpression e → Rereads end e → length (expression_tokens e) < room → an_argument end (deeper end room) (expression_tokens e ++ closed end rest) ≡ Ok (Last (placeless_expression e), rest)
  unfolding an_argument expect
  last_argument room e rest is again fits = rw (value_again end e room Plain (closed end rest) is again fits (stops_parenthesis end (deeper end (room - 1)) Plain rest)) refl

  more_argument : (room : ℕ) (e : ExpressionTree) (rest : List Token) → IsExpression e → Rereads end e → length (expression_tokens e) < room → an_argument end (deeper end room) (expression_tokens e ++ sign_token sign.Comma ∷ rest) ≡ Ok (More (placeless_expression e), rest)
  unfolding an_argument
  more_argument room e rest is again fits = rw (value_again end e room Plain (sign_token sign.Comma ∷ rest) is again fits (stops_comma end (deeper end (room - 1)) Plain rest)) refl

  pub arguments_row : (e : ExpressionTree) (es : Expressions) → IsExpression e → Rereads end e → RereadsArguments es → RereadsArguments (an_expression e es)
  unfolding expression_tokens
  arguments_row e no_expression is again others room n rest fits le h =
      let size = length-append (expression_tokens e) [] in
      rw (append_assoc (expression_tokens e) [] (closed end rest)) (row_last (an_argument end (deeper end room)) n (expression_tokens e ++ closed end rest) rest (placeless_expression e) (last_argument room e rest is again (omega (arith, size))))
  arguments_row e (an_expression f es) is again others room zero rest fits le h = absurd (omega (arith, length-append (expression_tokens e) (sign_token sign.Comma ∷ expressions_tokens (an_expression f es))))
  arguments_row e (an_expression f es) is again others room (suc n) rest fits le h =
      let more = expressions_tokens (an_expression f es) in
      let size = length-append (expression_tokens e) (sign_token sign.Comma ∷ more) in
      rw (append_assoc (expression_tokens e) (sign_token sign.Comma ∷ more) (closed end rest)) (row_more (an_argument end (deeper end room)) (suc n) (expression_tokens e ++ sign_token sign.Comma ∷ (more ++ closed end rest)) (more ++ closed end rest) rest (placeless_expression e) (expression_list (an_expression f es)) (more_argument room e (more ++ closed end rest) is again (omega (arith, size))) (others room n rest (omega (arith, size)) (omega (arith, size)) refl))

  pub arguments_again : (es : Expressions) (room : ℕ) (rest : List Token) → RereadsArguments es → length (expressions_tokens es) < room → arguments end (deeper end room) (expressions_tokens es ++ closed end rest) ≡ Ok (expression_list es, rest)
  unfolding expression_tokens arguments
  arguments_again no_expression room rest again fits = refl
  arguments_again (an_expression e es) room rest again fits =
      let ts = expressions_tokens (an_expression e es) ++ closed end rest in
      let more = comma_if (more_expressions es) ++ expressions_tokens es in
      let begins : ts ≡ expression_tokens e ++ (more ++ closed end rest) = append_assoc (expression_tokens e) more (closed end rest) in
      let size = length-append (expressions_tokens (an_expression e es)) (closed end rest) in
      rw begins (begins_argument end (deeper end room) e (more ++ closed end rest) ∙ rw (← begins) (again room (length ts) rest fits (omega (arith, size)) refl))

  -- ---- what commas part, in brackets

  abbrev pub RereadsParts : Expressions → Type 0
  RereadsParts es = (room n : ℕ) (rest : List Token) → length (expressions_tokens es) < room → length (expressions_tokens es) ≤ n → more_expressions es ≡ true → row_of (a_part end (deeper end room) Plain) (suc n) (expressions_tokens es ++ closed end rest) ≡ Ok (expression_list es, closed end rest)

  pub no_parts : RereadsParts no_expression
  no_parts room n rest fits le some = cc

  last_part : (room : ℕ) (e : ExpressionTree) (rest : List Token) → IsExpression e → Rereads end e → length (expression_tokens e) < room → a_part end (deeper end room) Plain (expression_tokens e ++ closed end rest) ≡ Ok (Last (placeless_expression e), closed end rest)
  unfolding a_part
  last_part room e rest is again fits = rw (value_again end e room Plain (closed end rest) is again fits (stops_parenthesis end (deeper end (room - 1)) Plain rest)) refl

  more_part : (room : ℕ) (e : ExpressionTree) (rest : List Token) → IsExpression e → Rereads end e → length (expression_tokens e) < room → a_part end (deeper end room) Plain (expression_tokens e ++ sign_token sign.Comma ∷ rest) ≡ Ok (More (placeless_expression e), rest)
  unfolding a_part
  more_part room e rest is again fits = rw (value_again end e room Plain (sign_token sign.Comma ∷ rest) is again fits (stops_comma end (deeper end (room - 1)) Plain rest)) refl

  pub parts_row : (e : ExpressionTree) (es : Expressions) → IsExpression e → Rereads end e → RereadsParts es → RereadsParts (an_expression e es)
  unfolding expression_tokens
  parts_row e no_expression is again others room n rest fits le h =
      let size = length-append (expression_tokens e) [] in
      rw (append_assoc (expression_tokens e) [] (closed end rest)) (row_last (a_part end (deeper end room) Plain) n (expression_tokens e ++ closed end rest) (closed end rest) (placeless_expression e) (last_part room e rest is again (omega (arith, size))))
  parts_row e (an_expression f es) is again others room zero rest fits le h = absurd (omega (arith, length-append (expression_tokens e) (sign_token sign.Comma ∷ expressions_tokens (an_expression f es))))
  parts_row e (an_expression f es) is again others room (suc n) rest fits le h =
      let more = expressions_tokens (an_expression f es) in
      let size = length-append (expression_tokens e) (sign_token sign.Comma ∷ more) in
      rw (append_assoc (expression_tokens e) (sign_token sign.Comma ∷ more) (closed end rest)) (row_more (a_part end (deeper end room) Plain) (suc n) (expression_tokens e ++ sign_token sign.Comma ∷ (more ++ closed end rest)) (more ++ closed end rest) (closed end rest) (placeless_expression e) (expression_list (an_expression f es)) (more_part room e (more ++ closed end rest) is again (omega (arith, size))) (others room n rest (omega (arith, size)) (omega (arith, size)) refl))

  begins_expressions : (e : ExpressionTree) (es : Expressions) (rest : List Token) → place_at end (expressions_tokens (an_expression e es) ++ rest) ≡ nowhere
  unfolding expression_tokens
  begins_expressions e es rest = rw (append_assoc (expression_tokens e) (comma_if (more_expressions es) ++ expressions_tokens es) rest) (begins_nowhere end e ((comma_if (more_expressions es) ++ expressions_tokens es) ++ rest))

  pub comma_node : (es : Expressions) (room : ℕ) (rest : List Token) → has_two es ≡ true → RereadsParts es → length (in_round (expressions_tokens es)) ≤ room → primary end (deeper end room) (in_round (expressions_tokens es) ++ rest) ≡ Ok (Comma nowhere (placeless_expressions es), rest)
  unfolding expression
  comma_node no_expression room rest two again fits = cc
  comma_node (an_expression e no_expression) room rest two again fits = cc
  comma_node (an_expression e (an_expression f es)) room rest two again fits =
      let all = an_expression e (an_expression f es) in
      let size = length-append (expressions_tokens all) (sign_token sign.RightParenthesis ∷ []) in
      let ts = expressions_tokens all ++ closed end rest in
      let size2 = length-append (expressions_tokens all) (closed end rest) in
      let list : row (a_part end (deeper end room) Plain) ts ≡ Ok (expression_list all, closed end rest) = again room (length ts) rest (omega (arith, size)) (omega (arith, size2)) refl in
      let read : expression end (deeper end room) Plain ts ≡ Ok (Comma nowhere (placeless_expressions all), closed end rest) = rw (list, begins_expressions e (an_expression f es) (closed end rest)) (ap (λ (x : Expressions). Ok (Comma nowhere x, closed end rest)) (expressions_placeless all)) in
      primary_round end (deeper end room) (expressions_tokens all) rest (Comma nowhere (placeless_expressions all)) (round_reads end (deeper end room) (expressions_tokens all) rest (Comma nowhere (placeless_expressions all)) read)

  -- ---- array literals

  abbrev pub RereadsItems : Items → Type 0
  RereadsItems os = (room n : ℕ) (rest : List Token) → length (items_tokens os) < room → length (items_tokens os) ≤ n → row_of (item_turn end (deeper end room)) (suc n) (items_tokens os ++ sign_token sign.RightBracket ∷ rest) ≡ Ok (item_list os, rest)

  pub no_items : RereadsItems no_item
  unfolding expression_tokens item_turn row_of
  no_items room n rest fits le = refl

  pub hole_row : (os : Items) → RereadsItems os → RereadsItems (an_item absent os)
  unfolding expression_tokens item_turn
  hole_row os others room zero rest fits le = absurd (omega arith)
  hole_row os others room (suc n) rest fits le = row_more (item_turn end (deeper end room)) (suc n) (sign_token sign.Comma ∷ (items_tokens os ++ sign_token sign.RightBracket ∷ rest)) (items_tokens os ++ sign_token sign.RightBracket ∷ rest) rest None (item_list os) refl (others room n rest (omega arith) (omega arith))

  last_item : (room : ℕ) (e : ExpressionTree) (rest : List Token) → IsExpression e → Rereads end e → length (expression_tokens e) < room → item_turn end (deeper end room) (expression_tokens e ++ sign_token sign.RightBracket ∷ rest) ≡ Ok (Last (Some (placeless_expression e)), rest)
  unfolding item_turn expect
  last_item room e rest is again fits = begins_item end (deeper end room) e (sign_token sign.RightBracket ∷ rest) ∙ (rw (value_again end e room Plain (sign_token sign.RightBracket ∷ rest) is again fits (stops_bracket end (deeper end (room - 1)) Plain rest)) refl)

  more_item : (room : ℕ) (e : ExpressionTree) (rest : List Token) → IsExpression e → Rereads end e → length (expression_tokens e) < room → item_turn end (deeper end room) (expression_tokens e ++ sign_token sign.Comma ∷ rest) ≡ Ok (More (Some (placeless_expression e)), rest)
  unfolding item_turn
  more_item room e rest is again fits = begins_item end (deeper end room) e (sign_token sign.Comma ∷ rest) ∙ (rw (value_again end e room Plain (sign_token sign.Comma ∷ rest) is again fits (stops_comma end (deeper end (room - 1)) Plain rest)) refl)

  pub item_row : (e : ExpressionTree) (os : Items) → IsExpression e → Rereads end e → RereadsItems os → RereadsItems (an_item (present e) os)
  unfolding expression_tokens
  item_row e no_item is again others room n rest fits le =
      let size = length-append (expression_tokens e) [] in
      let behind = sign_token sign.RightBracket ∷ rest in
      let size2 = length-append (expression_tokens e ++ []) [] in
      rw (append_assoc (expression_tokens e ++ []) [] behind, append_assoc (expression_tokens e) [] behind) (row_last (item_turn end (deeper end room)) n (expression_tokens e ++ behind) rest (Some (placeless_expression e)) (last_item room e rest is again (omega (arith, size, size2))))
  item_row e (an_item o os) is again others room zero rest fits le = absurd (omega (arith, length-append (expression_tokens e) (sign_token sign.Comma ∷ []), length-append (expression_tokens e ++ sign_token sign.Comma ∷ []) (items_tokens (an_item o os))))
  item_row e (an_item o os) is again others room (suc n) rest fits le =
      let more = items_tokens (an_item o os) in
      let behind = sign_token sign.RightBracket ∷ rest in
      let size = length-append (expression_tokens e) (sign_token sign.Comma ∷ []) in
      let size2 = length-append (expression_tokens e ++ sign_token sign.Comma ∷ []) more in
      rw (append_assoc (expression_tokens e ++ sign_token sign.Comma ∷ []) more behind, append_assoc (expression_tokens e) (sign_token sign.Comma ∷ []) (more ++ behind)) (row_more (item_turn end (deeper end room)) (suc n) (expression_tokens e ++ sign_token sign.Comma ∷ (more ++ behind)) (more ++ behind) rest (Some (placeless_expression e)) (item_list (an_item o os)) (more_item room e (more ++ behind) is again (omega (arith, size, size2))) (others room n rest (omega (arith, size, size2)) (omega (arith, size, size2))))

  pub array_node : (os : Items) (room : ℕ) (rest : List Token) → RereadsItems os → length (in_square (items_tokens os)) ≤ room → primary end (deeper end room) (in_square (items_tokens os) ++ rest) ≡ Ok (Array nowhere (placeless_items os), rest)
  unfolding primary
  array_node os room rest again fits =
      let size = length-append (items_tokens os) (sign_token sign.RightBracket ∷ []) in
      let behind = sign_token sign.RightBracket ∷ rest in
      let ts = items_tokens os ++ behind in
      let size2 = length-append (items_tokens os) behind in
      let list : row (item_turn end (deeper end room)) ts ≡ Ok (item_list os, rest) = again room (length ts) rest (omega (arith, size)) (omega (arith, size2)) in
      rw (append_assoc (items_tokens os) (sign_token sign.RightBracket ∷ []) rest, list) (ap (λ (x : Items). Ok (Array nowhere x, rest)) (items_placeless os))

  -- ---- object literals

  abbrev pub RereadsProperties : Properties → Type 0
  RereadsProperties ps = (room n : ℕ) (rest : List Token) → length (properties_tokens ps) < room → length (properties_tokens ps) ≤ n → row_of (property_turn end (deeper end room)) (suc n) (properties_tokens ps ++ sign_token sign.RightBrace ∷ rest) ≡ Ok (property_list ps, rest)

  pub no_properties : RereadsProperties no_property
  unfolding expression_tokens property_turn row_of
  no_properties room n rest fits le = refl

  last_property : (room : ℕ) (x : List ℕ) (e : ExpressionTree) (rest : List Token) → IsExpression e → Rereads end e → length (expression_tokens e) < room → property_turn end (deeper end room) (printed (token.Text x) ∷ (sign_token sign.Colon ∷ (expression_tokens e ++ sign_token sign.RightBrace ∷ rest))) ≡ Ok (Last (record { name = x; value = placeless_expression e }), rest)
  unfolding property_turn expect named_property
  last_property room x e rest is again fits = rw (value_again end e room Plain (sign_token sign.RightBrace ∷ rest) is again fits (stops_brace end (deeper end (room - 1)) Plain rest)) refl

  more_property : (room : ℕ) (x : List ℕ) (e : ExpressionTree) (rest : List Token) → IsExpression e → Rereads end e → length (expression_tokens e) < room → property_turn end (deeper end room) (printed (token.Text x) ∷ (sign_token sign.Colon ∷ (expression_tokens e ++ sign_token sign.Comma ∷ rest))) ≡ Ok (More (record { name = x; value = placeless_expression e }), rest)
  unfolding property_turn expect named_property
  more_property room x e rest is again fits = rw (value_again end e room Plain (sign_token sign.Comma ∷ rest) is again fits (stops_comma end (deeper end (room - 1)) Plain rest)) refl

  pub property_row : (x : List ℕ) (e : ExpressionTree) (ps : Properties) → IsExpression e → Rereads end e → RereadsProperties ps → RereadsProperties (a_property x e ps)
  unfolding expression_tokens
  property_row x e ps is again others room zero rest fits le = absurd (omega arith)
  property_row x e no_property is again others room (suc n) rest fits le =
      let size = length-append (expression_tokens e) [] in
      let behind = sign_token sign.RightBrace ∷ rest in
      rw (append_assoc (expression_tokens e) [] behind) (row_last (property_turn end (deeper end room)) (suc n) (printed (token.Text x) ∷ (sign_token sign.Colon ∷ (expression_tokens e ++ behind))) rest (record { name = x; value = placeless_expression e }) (last_property room x e rest is again (omega (arith, size))))
  property_row x e (a_property y f ps) is again others room (suc n) rest fits le =
      let more = properties_tokens (a_property y f ps) in
      let behind = sign_token sign.RightBrace ∷ rest in
      let size = length-append (expression_tokens e) (sign_token sign.Comma ∷ more) in
      rw (append_assoc (expression_tokens e) (sign_token sign.Comma ∷ more) behind) (row_more (property_turn end (deeper end room)) (suc n) (printed (token.Text x) ∷ (sign_token sign.Colon ∷ (expression_tokens e ++ sign_token sign.Comma ∷ (more ++ behind)))) (more ++ behind) rest (record { name = x; value = placeless_expression e }) (property_list (a_property y f ps)) (more_property room x e (more ++ behind) is again (omega (arith, size))) (others room n rest (omega (arith, size)) (omega (arith, size))))

  object_reads : (d : Deeper) (ps : Properties) (rest : List Token) → row (property_turn end d) (properties_tokens ps ++ sign_token sign.RightBrace ∷ rest) ≡ Ok (property_list ps, rest) → primary end d (in_braces (properties_tokens ps) ++ rest) ≡ Ok (Object nowhere (placeless_properties ps), rest)
  unfolding primary
  object_reads d ps rest list = rw (append_assoc (properties_tokens ps) (sign_token sign.RightBrace ∷ []) rest, list) (ap (λ (x : Properties). Ok (Object nowhere x, rest)) (properties_placeless ps))

  pub object_node : (ps : Properties) (room : ℕ) (rest : List Token) → RereadsProperties ps → length (in_round (in_braces (properties_tokens ps))) ≤ room → primary end (deeper end room) (in_round (in_braces (properties_tokens ps)) ++ rest) ≡ Ok (Object nowhere (placeless_properties ps), rest)
  object_node ps room rest again fits =
      let size = length-append (properties_tokens ps) (sign_token sign.RightBrace ∷ []) in
      let size2 = length-append (properties_tokens ps ++ sign_token sign.RightBrace ∷ []) (sign_token sign.RightParenthesis ∷ []) in
      let d = deeper end (room - 1) in
      let behind = sign_token sign.RightBrace ∷ closed end rest in
      let ts = properties_tokens ps ++ behind in
      let size3 = length-append (properties_tokens ps) behind in
      let list : row (property_turn end d) ts ≡ Ok (property_list ps, closed end rest) = again (room - 1) (length ts) (closed end rest) (omega (arith, size, size2)) (omega (arith, size3)) in
      let stops = stops_parenthesis end d Plain rest in
      let read = object_reads d ps (closed end rest) list in
      brackets_at end room (in_braces (properties_tokens ps)) rest (Object nowhere (placeless_properties ps)) (omega arith)
      (value_of_unary end d Plain (in_braces (properties_tokens ps) ++ closed end rest) (closed end rest) (Object nowhere (placeless_properties ps)) (unary_reads end d (in_braces (properties_tokens ps) ++ closed end rest) (closed end rest) (Object nowhere (placeless_properties ps)) refl refl read stops.suffix stops.postfix) stops)
