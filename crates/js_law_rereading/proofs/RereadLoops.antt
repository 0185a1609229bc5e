-- Reading `for` loops that were printed, from how their parts are read.
use Rattle.std.proofs.Common.{◌≡◌, ℕ, ◌-◌, ◌<◌, List, [], ◌∷◌, ◌++◌, length, Ok, true, false, refl, ap, ◌∙◌, append_assoc, length-append, arith}
use Rattle.js_tree.specs.declared.place.Place.{Place}
use Rattle.js_tree.specs.declared.token.Token.{Token}
use Rattle.js_tree.specs.declared.sign.Sign.TheVariants as sign
use Rattle.js_tree.specs.declared.bound.BoundName.{BoundName}
use Rattle.js_tree.specs.declared.operators.UpdateForm.TheVariants.{Prefix, Postfix}
use Rattle.js_tree.specs.declared.statement.Declared.{Declared}
use Rattle.js_tree.specs.Tree.{ExpressionTree, Name, Update, OptionalExpression, absent, present, StatementTree, For, ForIn, Declarations, StartTree, no_start, start_var, start_value, TargetTree, target_value, target_declared, optional_of}
use Rattle.js_tree.specs.View.{declarations_of}
use Rattle.js_grammar.specs.declared.turn.Turn.TheVariants.{Last}
use Rattle.js_tree.specs.declared.keyword.Keyword.TheVariants as word
use Rattle.js_grammar.specs.declared.form.Form.TheVariants.{NoIn}
use Rattle.js_grammar.specs.declared.around.Around.{Around}
use Rattle.js_grammar.specs.Readers.{row, is_sign, next_sign, expect}
use Rattle.js_grammar.specs.Operators.{is_target}
use Rattle.js_grammar.specs.Expressions.{Deeper, expression}
use Rattle.js_grammar.specs.Statements.{deeper, statement, in_loop, a_declared as declared_turn, optional_expression, for_from, for_in_from, for_by, for_var, for_value, for_statement}
use Rattle.js_grammar.specs.Printing.{nowhere, sign_token, word_token, keyword_token, in_round, more_declared, expression_tokens, optional_tokens, statement_tokens, first_value_tokens, declarations_tokens}
use Rattle.js_grammar.specs.Placeless.{placeless_expression, placeless_optional, placeless_statement, placeless_declarations}
use Rattle.js_law_readable.specs.Readable.{IsName, IsExpression, IsOptional, ends_open}
use Rattle.js_law_rereading.proofs.Lists.{option_of, declared_list, option_placeless, declarations_placeless, is_target_placeless}
use Rattle.js_law_rereading.proofs.RereadParts.{row_last, stops_parenthesis, stops_semicolon, stops_in, closed}
use Rattle.js_law_rereading.proofs.RereadExpressions.{Rereads, expression_again}
use Rattle.js_law_rereading.proofs.RereadStatements.{IsFree, RereadsStatement, nested_again, name_reads}
use Rattle.js_law_rereading.proofs.RereadKinds.{RereadsOptional, RereadsDeclared, ends_semicolon, ends_in, first_again}

-- ---- how the parts of a header begin

not_semicolon : (e : ExpressionTree) (rest : List Token) → is_sign sign.Semicolon (next_sign (expression_tokens e ++ rest)) ≡ false
unfolding expression_tokens
not_semicolon (Update p Prefix op e) rest = refl
not_semicolon (Update p Postfix op e) rest = refl
not_semicolon _ rest = refl

not_closed : (e : ExpressionTree) (rest : List Token) → is_sign sign.RightParenthesis (next_sign (expression_tokens e ++ rest)) ≡ false
unfolding expression_tokens
not_closed (Update p Prefix op e) rest = refl
not_closed (Update p Postfix op e) rest = refl
not_closed _ rest = refl

module _ (end : Place) where
  -- ---- `for`

  -- an expression or none, before the sign that closes it
  optional_semicolon : (o : OptionalExpression) (room : ℕ) (rest : List Token) → IsOptional o → RereadsOptional end o → length (optional_tokens o) < room → optional_expression end (deeper end room) sign.Semicolon (optional_tokens o ++ sign_token sign.Semicolon ∷ rest) ≡ Ok (option_of o, rest)
  unfolding expression_tokens optional_expression expect
  optional_semicolon absent room rest is again fits = refl
  optional_semicolon (present e) room rest is again fits = rw (not_semicolon e (sign_token sign.Semicolon ∷ rest), expression_again end e room NoIn (sign_token sign.Semicolon ∷ rest) is again fits (stops_semicolon end (deeper end (room - 1)) NoIn rest) refl) refl

  optional_closed : (o : OptionalExpression) (room : ℕ) (rest : List Token) → IsOptional o → RereadsOptional end o → length (optional_tokens o) < room → optional_expression end (deeper end room) sign.RightParenthesis (optional_tokens o ++ closed end rest) ≡ Ok (option_of o, rest)
  unfolding expression_tokens optional_expression expect
  optional_closed absent room rest is again fits = refl
  optional_closed (present e) room rest is again fits = rw (not_closed e (closed end rest), expression_again end e room NoIn (closed end rest) is again fits (stops_parenthesis end (deeper end (room - 1)) NoIn rest) refl) refl

  -- from the first semicolon on
  for_reads : (a : Around) (start : StartTree) (c e : OptionalExpression) (s : StatementTree) (room : ℕ) (rest : List Token) → IsOptional c → IsOptional e → RereadsOptional end c → RereadsOptional end e → RereadsStatement end (in_loop a) s → length (optional_tokens c) < room → length (optional_tokens e) < room → length (statement_tokens s) < room → IsFree (ends_open s) rest → for_from end (deeper end room) a nowhere start (sign_token sign.Semicolon ∷ (optional_tokens c ++ sign_token sign.Semicolon ∷ (optional_tokens e ++ closed end (statement_tokens s ++ rest)))) ≡ Ok (For nowhere start (placeless_optional c) (placeless_optional e) (placeless_statement s), rest)
  unfolding for_from expect
  for_reads a start c e s room rest is_c is_e again_c again_e again_s fits_c fits_e fits_s free =
      rw (optional_semicolon c room (optional_tokens e ++ closed end (statement_tokens s ++ rest)) is_c again_c fits_c, optional_closed e room (statement_tokens s ++ rest) is_e again_e fits_e, nested_again end (in_loop a) s room rest again_s fits_s free, option_placeless c, option_placeless e) refl

  begins_header : (d : Deeper) (a : Around) (e : ExpressionTree) (rest : List Token) → IsExpression e → for_by end d a nowhere (next_sign (expression_tokens e ++ rest)) (expression_tokens e ++ rest) ≡ for_value end d a nowhere (expression_tokens e ++ rest)
  unfolding expression_tokens
  begins_header d a (Name p x) rest h = rw h.0 refl
  begins_header d a (Update p Prefix op e) rest h = refl
  begins_header d a (Update p Postfix op e) rest h = refl
  begins_header d a _ rest h = refl

  header : (d : Deeper) (a : Around) (ts rest : List Token) (s : StatementTree) → for_by end d a nowhere (next_sign ts) ts ≡ Ok (s, rest) → statement end d a (keyword_token word.For ∷ (sign_token sign.LeftParenthesis ∷ ts)) ≡ Ok (s, rest)
  unfolding statement for_statement expect
  header d a ts rest s h = h

  -- a `for` whose header begins with nothing, a `var` or an expression
  pub for_nothing : (p : Place) (a : Around) (c e : OptionalExpression) (s : StatementTree) → IsOptional c → IsOptional e → RereadsOptional end c → RereadsOptional end e → RereadsStatement end (in_loop a) s → RereadsStatement end a (For p no_start c e s)
  unfolding expression_tokens
  for_nothing p a c e s is_c is_e again_c again_e again_s room rest fits free =
      let tail = sign_token sign.Semicolon ∷ optional_tokens e in
      let inside_round = sign_token sign.Semicolon ∷ (optional_tokens c ++ tail) in
      let size = length-append (optional_tokens c) tail in
      let size2 = length-append inside_round (sign_token sign.RightParenthesis ∷ []) in
      let size3 = length-append (in_round inside_round) (statement_tokens s) in
      let ts = sign_token sign.Semicolon ∷ (optional_tokens c ++ sign_token sign.Semicolon ∷ (optional_tokens e ++ closed end (statement_tokens s ++ rest))) in
      let read = for_reads a no_start c e s room rest is_c is_e again_c again_e again_s (omega (arith, size, size2, size3)) (omega (arith, size, size2, size3)) (omega (arith, size, size2, size3)) free in
      rw (append_assoc (in_round inside_round) (statement_tokens s) rest, append_assoc inside_round (sign_token sign.RightParenthesis ∷ []) (statement_tokens s ++ rest), append_assoc (optional_tokens c) tail (closed end (statement_tokens s ++ rest))) (header (deeper end room) a ts rest (For nowhere no_start (placeless_optional c) (placeless_optional e) (placeless_statement s)) read)

  value_start : (d : Deeper) (a : Around) (ts us rest : List Token) (e : ExpressionTree) (s : StatementTree) → expression end d NoIn ts ≡ Ok (e, sign_token sign.Semicolon ∷ us) → for_from end d a nowhere (start_value e) (sign_token sign.Semicolon ∷ us) ≡ Ok (s, rest) → for_value end d a nowhere ts ≡ Ok (s, rest)
  unfolding for_value
  value_start d a ts us rest e s x f = rw x f

  pub for_expression : (p : Place) (a : Around) (v : ExpressionTree) (c e : OptionalExpression) (s : StatementTree) → IsExpression v → Rereads end v → IsOptional c → IsOptional e → RereadsOptional end c → RereadsOptional end e → RereadsStatement end (in_loop a) s → RereadsStatement end a (For p (start_value v) c e s)
  unfolding expression_tokens
  for_expression p a v c e s is_v again_v is_c is_e again_c again_e again_s room rest fits free =
      let tail = sign_token sign.Semicolon ∷ optional_tokens e in
      let middle = sign_token sign.Semicolon ∷ (optional_tokens c ++ tail) in
      let inside_round = expression_tokens v ++ middle in
      let size = length-append (optional_tokens c) tail in
      let size2 = length-append (expression_tokens v) middle in
      let size3 = length-append inside_round (sign_token sign.RightParenthesis ∷ []) in
      let size4 = length-append (in_round inside_round) (statement_tokens s) in
      let us = optional_tokens c ++ sign_token sign.Semicolon ∷ (optional_tokens e ++ closed end (statement_tokens s ++ rest)) in
      let behind = sign_token sign.Semicolon ∷ us in
      let ts = expression_tokens v ++ behind in
      let d = deeper end room in
      let tree = For nowhere (start_value (placeless_expression v)) (placeless_optional c) (placeless_optional e) (placeless_statement s) in
      let read = for_reads a (start_value (placeless_expression v)) c e s room rest is_c is_e again_c again_e again_s (omega (arith, size, size2, size3, size4)) (omega (arith, size, size2, size3, size4)) (omega (arith, size, size2, size3, size4)) free in
      let first = expression_again end v room NoIn behind is_v again_v (omega (arith, size, size2, size3, size4)) (stops_semicolon end (deeper end (room - 1)) NoIn us) refl in
      let whole : for_by end d a nowhere (next_sign ts) ts ≡ Ok (tree, rest) = begins_header d a v behind is_v ∙ value_start d a ts us rest (placeless_expression v) tree first read in
      rw (append_assoc (in_round inside_round) (statement_tokens s) rest, append_assoc inside_round (sign_token sign.RightParenthesis ∷ []) (statement_tokens s ++ rest), append_assoc (expression_tokens v) middle (closed end (statement_tokens s ++ rest)), append_assoc (optional_tokens c) tail (closed end (statement_tokens s ++ rest))) (header d a ts rest tree whole)

  var_start : (d : Deeper) (a : Around) (ts us rest : List Token) (ds : List Declared) (s : StatementTree) → row (declared_turn end d NoIn) ts ≡ Ok (ds, sign_token sign.Semicolon ∷ us) → for_from end d a nowhere (start_var nowhere (declarations_of ds)) (sign_token sign.Semicolon ∷ us) ≡ Ok (s, rest) → for_by end d a nowhere (next_sign (keyword_token word.Var ∷ ts)) (keyword_token word.Var ∷ ts) ≡ Ok (s, rest)
  unfolding for_var
  var_start d a ts us rest ds s x f = rw x f

  pub for_declared : (p q : Place) (a : Around) (ds : Declarations) (c e : OptionalExpression) (s : StatementTree) → more_declared ds ≡ true → RereadsDeclared end ds → IsOptional c → IsOptional e → RereadsOptional end c → RereadsOptional end e → RereadsStatement end (in_loop a) s → RereadsStatement end a (For p (start_var q ds) c e s)
  unfolding expression_tokens
  for_declared p q a ds c e s some again_d is_c is_e again_c again_e again_s room rest fits free =
      let tail = sign_token sign.Semicolon ∷ optional_tokens e in
      let middle = sign_token sign.Semicolon ∷ (optional_tokens c ++ tail) in
      let names = declarations_tokens ds ++ middle in
      let inside_round = keyword_token word.Var ∷ names in
      let size = length-append (optional_tokens c) tail in
      let size2 = length-append (declarations_tokens ds) middle in
      let size3 = length-append names (sign_token sign.RightParenthesis ∷ []) in
      let size4 = length-append (in_round inside_round) (statement_tokens s) in
      let us = optional_tokens c ++ sign_token sign.Semicolon ∷ (optional_tokens e ++ closed end (statement_tokens s ++ rest)) in
      let behind = sign_token sign.Semicolon ∷ us in
      let ts = declarations_tokens ds ++ behind in
      let size5 = length-append (declarations_tokens ds) behind in
      let d = deeper end room in
      let tree = For nowhere (start_var nowhere (placeless_declarations ds)) (placeless_optional c) (placeless_optional e) (placeless_statement s) in
      let list : row (declared_turn end d NoIn) ts ≡ Ok (declared_list ds, behind) = again_d room (length ts) NoIn behind (omega (arith, size, size2, size3, size4)) (omega (arith, size5)) some (ends_semicolon end (deeper end (room - 1)) NoIn us) in
      let read : for_from end d a nowhere (start_var nowhere (declarations_of (declared_list ds))) behind ≡ Ok (tree, rest) = for_reads a (start_var nowhere (declarations_of (declared_list ds))) c e s room rest is_c is_e again_c again_e again_s (omega (arith, size, size2, size3, size4)) (omega (arith, size, size2, size3, size4)) (omega (arith, size, size2, size3, size4)) free ∙ ap (λ (x : Declarations). Ok (For nowhere (start_var nowhere x) (placeless_optional c) (placeless_optional e) (placeless_statement s), rest)) (declarations_placeless ds) in
      let whole = var_start d a ts us rest (declared_list ds) tree list read in
      rw (append_assoc (in_round inside_round) (statement_tokens s) rest, append_assoc names (sign_token sign.RightParenthesis ∷ []) (statement_tokens s ++ rest), append_assoc (declarations_tokens ds) middle (closed end (statement_tokens s ++ rest)), append_assoc (optional_tokens c) tail (closed end (statement_tokens s ++ rest))) (header d a (keyword_token word.Var ∷ ts) rest tree whole)

  -- ---- `for`-`in`

  in_reads : (a : Around) (t : TargetTree) (e : ExpressionTree) (s : StatementTree) (room : ℕ) (rest : List Token) → IsExpression e → Rereads end e → RereadsStatement end (in_loop a) s → length (expression_tokens e) < room → length (statement_tokens s) < room → IsFree (ends_open s) rest → for_in_from end (deeper end room) a nowhere t (expression_tokens e ++ closed end (statement_tokens s ++ rest)) ≡ Ok (ForIn nowhere t (placeless_expression e) (placeless_statement s), rest)
  unfolding for_in_from expect
  in_reads a t e s room rest is again_e again_s fits_e fits_s free = rw (expression_again end e room NoIn (closed end (statement_tokens s ++ rest)) is again_e fits_e (stops_parenthesis end (deeper end (room - 1)) NoIn (statement_tokens s ++ rest)) refl, nested_again end (in_loop a) s room rest again_s fits_s free) refl

  value_target : (d : Deeper) (a : Around) (ts us rest : List Token) (e : ExpressionTree) (s : StatementTree) → expression end d NoIn ts ≡ Ok (e, keyword_token word.In ∷ us) → is_target e ≡ true → for_in_from end d a nowhere (target_value e) us ≡ Ok (s, rest) → for_value end d a nowhere ts ≡ Ok (s, rest)
  unfolding for_value
  value_target d a ts us rest e s x t f = rw (x, t) f

  pub in_value : (p : Place) (a : Around) (t e : ExpressionTree) (s : StatementTree) → is_target t ≡ true → IsExpression t → Rereads end t → IsExpression e → Rereads end e → RereadsStatement end (in_loop a) s → RereadsStatement end a (ForIn p (target_value t) e s)
  unfolding expression_tokens
  in_value p a t e s target is_t again_t is_e again_e again_s room rest fits free =
      let middle = keyword_token word.In ∷ expression_tokens e in
      let inside_round = expression_tokens t ++ middle in
      let size = length-append (expression_tokens t) middle in
      let size2 = length-append inside_round (sign_token sign.RightParenthesis ∷ []) in
      let size3 = length-append (in_round inside_round) (statement_tokens s) in
      let us = expression_tokens e ++ closed end (statement_tokens s ++ rest) in
      let behind = keyword_token word.In ∷ us in
      let ts = expression_tokens t ++ behind in
      let d = deeper end room in
      let tree = ForIn nowhere (target_value (placeless_expression t)) (placeless_expression e) (placeless_statement s) in
      let first = expression_again end t room NoIn behind is_t again_t (omega (arith, size, size2, size3)) (stops_in end (deeper end (room - 1)) us) refl in
      let read = in_reads a (target_value (placeless_expression t)) e s room rest is_e again_e again_s (omega (arith, size, size2, size3)) (omega (arith, size, size2, size3)) free in
      let whole : for_by end d a nowhere (next_sign ts) ts ≡ Ok (tree, rest) = begins_header d a t behind is_t ∙ value_target d a ts us rest (placeless_expression t) tree first (is_target_placeless t target) read in
      rw (append_assoc (in_round inside_round) (statement_tokens s) rest, append_assoc inside_round (sign_token sign.RightParenthesis ∷ []) (statement_tokens s ++ rest), append_assoc (expression_tokens t) middle (closed end (statement_tokens s ++ rest))) (header d a ts rest tree whole)

  var_target : (d : Deeper) (a : Around) (ts us rest : List Token) (x : Declared) (s : StatementTree) → row (declared_turn end d NoIn) ts ≡ Ok (x ∷ [], keyword_token word.In ∷ us) → for_in_from end d a nowhere (target_declared x.name (optional_of x.value)) us ≡ Ok (s, rest) → for_by end d a nowhere (next_sign (keyword_token word.Var ∷ ts)) (keyword_token word.Var ∷ ts) ≡ Ok (s, rest)
  unfolding for_var
  var_target d a ts us rest x s r f = rw r f

  pub in_declared : (p : Place) (a : Around) (x : BoundName) (o : OptionalExpression) (e : ExpressionTree) (s : StatementTree) → IsName x → IsOptional o → RereadsOptional end o → IsExpression e → Rereads end e → RereadsStatement end (in_loop a) s → RereadsStatement end a (ForIn p (target_declared x o) e s)
  unfolding expression_tokens declared_turn
  in_declared p a x o e s is is_o again_o is_e again_e again_s room rest fits free =
      let middle = keyword_token word.In ∷ expression_tokens e in
      let names = word_token x.name ∷ (first_value_tokens o ++ middle) in
      let inside_round = keyword_token word.Var ∷ names in
      let size = length-append (first_value_tokens o) middle in
      let size2 = length-append names (sign_token sign.RightParenthesis ∷ []) in
      let size3 = length-append (in_round inside_round) (statement_tokens s) in
      let us = expression_tokens e ++ closed end (statement_tokens s ++ rest) in
      let behind = keyword_token word.In ∷ us in
      let ts = word_token x.name ∷ (first_value_tokens o ++ behind) in
      let d = deeper end room in
      let tree = ForIn nowhere (target_declared x (placeless_optional o)) (placeless_expression e) (placeless_statement s) in
      let at_end = ends_in end (deeper end (room - 1)) us in
      let turn : declared_turn end d NoIn ts ≡ Ok (Last (record { name = x; value = option_of o }), behind) = rw (name_reads end x (first_value_tokens o ++ behind) is, first_again end o room NoIn behind is_o again_o (omega (arith, size, size2, size3)) at_end.stops (at_end.none d)) (at_end.last (record { name = x; value = option_of o })) in
      let list : row (declared_turn end d NoIn) ts ≡ Ok (record { name = x; value = option_of o } ∷ [], behind) = row_last (declared_turn end d NoIn) (length ts) ts behind (record { name = x; value = option_of o }) turn in
      let read : for_in_from end d a nowhere (target_declared x (optional_of (option_of o))) us ≡ Ok (tree, rest) = in_reads a (target_declared x (optional_of (option_of o))) e s room rest is_e again_e again_s (omega (arith, size, size2, size3)) (omega (arith, size, size2, size3)) free ∙ ap (λ (y : OptionalExpression). Ok (ForIn nowhere (target_declared x y) (placeless_expression e) (placeless_statement s), rest)) (option_placeless o) in
      let whole = var_target d a ts us rest (record { name = x; value = option_of o }) tree list read in
      rw (append_assoc (in_round inside_round) (statement_tokens s) rest, append_assoc names (sign_token sign.RightParenthesis ∷ []) (statement_tokens s ++ rest), append_assoc (first_value_tokens o) middle (closed end (statement_tokens s ++ rest))) (header d a (keyword_token word.Var ∷ ts) rest tree whole)
