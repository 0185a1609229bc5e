-- Reading `if`, `switch` and `try` statements that were printed, from how their parts are read.
use Rattle.std.proofs.Common.{◌≡◌, ℕ, zero, suc, ◌+◌, ◌-◌, ◌<◌, ◌≤◌, List, [], ◌∷◌, ◌++◌, length, drop, Option, Some, None, Ok, Bool, true, false, refl, sym, ap, ◌∙◌, append_assoc, length-append, arith}
use Rattle.std.specs.Prelude.{◌||◌}
use Rattle.std.proofs.lemmas.List.{append-nil}
use Rattle.js_tree.specs.declared.place.Place.{Place}
use Rattle.js_tree.specs.declared.token.Token.{Token}
use Rattle.js_tree.specs.declared.sign.Sign.TheVariants as sign
use Rattle.js_tree.specs.declared.statement.Branch.{Branch}
use Rattle.js_tree.specs.declared.statement.Clause.{Clause}
use Rattle.js_tree.specs.declared.statement.Catch.{Catch}
use Rattle.js_tree.specs.Tree.{ExpressionTree, absent, present, StatementTree, If, Switch, Try, OptionalStatement, omitted, given, Statements, Branches, no_branch, a_branch, Clauses, no_clause, a_clause, CatchTree, no_catch, a_catch}
use Rattle.js_tree.specs.View.{branches_of}
use Rattle.js_grammar.specs.declared.turn.Turn.TheVariants.{More, Last}
use Rattle.js_tree.specs.declared.keyword.Keyword.{Keyword}
use Rattle.js_tree.specs.declared.keyword.Keyword.TheVariants as word
use Rattle.js_grammar.specs.declared.form.Form.TheVariants.{Plain}
use Rattle.js_grammar.specs.declared.around.Around.{Around}
use Rattle.js_grammar.specs.Readers.{row_of, row, rest_of, next_keyword, expect}
use Rattle.js_grammar.specs.Expressions.{Deeper, a_statement as statement_turn, closes}
use Rattle.js_grammar.specs.Statements.{deeper, statement, inside, in_switch, one_branch, a_branch as branch_turn, branch_by, otherwise, if_statement, default_by, has_part, catch_by, finally_by, clause_from, a_case, clauses, switch_statement, catch_part, finally_part, try_statement}
use Rattle.js_tree.specs.Parts.{statement_or_none, catch_or_none}
use Rattle.js_grammar.specs.Printing.{nowhere, sign_token, keyword_token, in_round, in_braces, else_if, more_branches, expression_tokens, statement_tokens, statements_tokens, finally_tokens, branches_tokens, clauses_tokens, catch_tokens}
use Rattle.js_grammar.specs.Placeless.{placeless_expression, placeless_statement, placeless_optional_statement, placeless_catch}
use Rattle.js_law_readable.specs.Readable.{IsName, IsExpression, IsStatement, IsClosedBefore, ends_open, is_if, is_given, is_caught}
use Rattle.js_law_rereading.proofs.Lists.{statement_list, branch_list, clause_list, branches_placeless, clauses_placeless}
use Rattle.js_law_rereading.proofs.RereadParts.{row_more, row_last, row_end, stops_colon, closed}
use Rattle.js_law_rereading.proofs.RereadExpressions.{Rereads, expression_again, round_again}
use Rattle.js_law_rereading.proofs.RereadStatements.{is_handler_word, begins_handler, no_handler, begins_part, no_if_statement, IsFree, free_always, free_closed, RereadsStatement, block_at, nested_again, RereadsStatements, name_reads}
use Rattle.js_law_rereading.proofs.RereadKinds.{RereadsBlock, no_otherwise, last_branch, branch_before_else}

-- ---- words behind a block

no_catch_word : (end : Place) (d : Deeper) (a : Around) (k : Option Keyword) (ts : List Token) → is_handler_word k ≡ false → catch_by end d a k ts ≡ Ok (None, ts)
no_catch_word end d a (Some word.Catch) ts h = cc
no_catch_word end d a _ ts h = refl

no_finally_word : (end : Place) (d : Deeper) (a : Around) (k : Option Keyword) (ts : List Token) → is_handler_word k ≡ false → finally_by end d a k ts ≡ Ok (None, ts)
no_finally_word end d a (Some word.Finally) ts h = cc
no_finally_word end d a _ ts h = refl

module _ (end : Place) where
  -- ---- `if`

  -- what stands behind the last branch
  pub record EndsBranches (last : Bool) (rest : List Token) : Type 0 where
    pub branch : (b : Branch) → branch_by end (next_keyword rest) (next_keyword (rest_of rest)) b rest ≡ Ok (Last b, rest)
    pub free : last ≡ false → begins_part rest ≡ false
    pub calm : begins_handler rest ≡ false

  abbrev pub RereadsBranches : Around → Bool → Branches → Type 0
  RereadsBranches a last bs = (room n : ℕ) (rest : List Token) → length (branches_tokens bs) ≤ room → length (branches_tokens bs) ≤ n + 1 → more_branches bs ≡ true → EndsBranches last rest → row_of (branch_turn end (deeper end room) a) (suc n) (drop 1 (branches_tokens bs) ++ rest) ≡ Ok (branch_list bs, rest)

  pub no_branches : (a : Around) (last : Bool) → RereadsBranches a last no_branch
  no_branches a last room n rest fits le some at_end = cc

  one_reads : (a : Around) (c : ExpressionTree) (s : StatementTree) (room : ℕ) (rest : List Token) → IsExpression c → Rereads end c → RereadsStatement end (inside a) s → length (expression_tokens c) < room → length (statement_tokens s) < room → IsFree (ends_open s) rest → one_branch end (deeper end room) a (in_round (expression_tokens c) ++ (statement_tokens s ++ rest)) ≡ Ok (record { condition = placeless_expression c; body = placeless_statement s }, rest)
  unfolding one_branch
  one_reads a c s room rest is again_c again_s fits_c fits_s free = rw (round_again end c room (statement_tokens s ++ rest) is again_c fits_c, nested_again end (inside a) s room rest again_s fits_s free) refl

  closed_free : (last : Bool) (s : StatementTree) (rest : List Token) → IsClosedBefore last s → EndsBranches last rest → IsFree (ends_open s) rest
  closed_free true s rest h at_end = free_closed (ends_open s) rest h at_end.calm
  closed_free false s rest h at_end = free_always (ends_open s) rest (at_end.free refl)

  pub branch_row : (a : Around) (last : Bool) (c : ExpressionTree) (s : StatementTree) (bs : Branches) → IsExpression c → Rereads end c → IsClosedBefore (more_branches bs || last) s → RereadsStatement end (inside a) s → RereadsBranches a last bs → RereadsBranches a last (a_branch c s bs)
  unfolding expression_tokens branch_turn
  branch_row a last c s bs is again_c shut again_s others room zero rest fits le some at_end = absurd (omega (arith, length-append (in_round (expression_tokens c)) (statement_tokens s ++ (else_if (more_branches bs) ++ branches_tokens bs))))
  branch_row a last c s no_branch is again_c shut again_s others room (suc n) rest fits le some at_end =
      let size = length-append (expression_tokens c) (sign_token sign.RightParenthesis ∷ []) in
      let size2 = length-append (statement_tokens s) [] in
      let size3 = length-append (in_round (expression_tokens c)) (statement_tokens s ++ []) in
      let d = deeper end room in
      let ts = in_round (expression_tokens c) ++ (statement_tokens s ++ rest) in
      let b : Branch = record { condition = placeless_expression c; body = placeless_statement s } in
      let one = one_reads a c s room rest is again_c again_s (omega (arith, size, size2, size3)) (omega (arith, size, size2, size3)) (closed_free last s rest shut at_end) in
      let turn : branch_turn end d a ts ≡ Ok (Last b, rest) = rw one (at_end.branch b) in
      rw (append_assoc (in_round (expression_tokens c)) (statement_tokens s ++ []) rest, append_assoc (statement_tokens s) [] rest) (row_last (branch_turn end d a) (suc n) ts rest b turn)
  branch_row a last c s (a_branch e t bs) is again_c shut again_s others room (suc n) rest fits le some at_end =
      let tail = branches_tokens (a_branch e t bs) in
      let size = length-append (expression_tokens c) (sign_token sign.RightParenthesis ∷ []) in
      let size2 = length-append (statement_tokens s) (keyword_token word.Else ∷ tail) in
      let size3 = length-append (in_round (expression_tokens c)) (statement_tokens s ++ keyword_token word.Else ∷ tail) in
      let d = deeper end room in
      let more = drop 1 tail ++ rest in
      let behind = keyword_token word.Else ∷ (tail ++ rest) in
      let ts = in_round (expression_tokens c) ++ (statement_tokens s ++ behind) in
      let b : Branch = record { condition = placeless_expression c; body = placeless_statement s } in
      let one = one_reads a c s room behind is again_c again_s (omega (arith, size, size2, size3)) (omega (arith, size, size2, size3)) (free_closed (ends_open s) behind shut refl) in
      let turn : branch_turn end d a ts ≡ Ok (More b, more) = rw one refl in
      rw (append_assoc (in_round (expression_tokens c)) (statement_tokens s ++ keyword_token word.Else ∷ tail) rest, append_assoc (statement_tokens s) (keyword_token word.Else ∷ tail) rest) (row_more (branch_turn end d a) (suc n) ts more rest b (branch_list (a_branch e t bs)) turn (others room n rest (omega (arith, size, size2, size3)) (omega (arith, size, size2, size3)) refl at_end))

  if_reads : (d : Deeper) (a : Around) (ts us rest : List Token) (bs : List Branch) (o : Option StatementTree) → row (branch_turn end d a) ts ≡ Ok (bs, us) → otherwise end d a us ≡ Ok (o, rest) → statement end d a (keyword_token word.If ∷ ts) ≡ Ok (If nowhere (branches_of bs) (statement_or_none o), rest)
  unfolding statement if_statement
  if_reads d a ts us rest bs o r h = rw (r, h) refl

  first_if : (bs : Branches) (rest : List Token) → more_branches bs ≡ true → branches_tokens bs ++ rest ≡ keyword_token word.If ∷ (drop 1 (branches_tokens bs) ++ rest)
  unfolding expression_tokens
  first_if no_branch rest h = cc
  first_if (a_branch c s bs) rest h = refl

  if_size : (bs : Branches) (rest : List Token) → length (branches_tokens bs) ≤ length (drop 1 (branches_tokens bs) ++ rest) + 1
  if_size bs rest = by_tokens (branches_tokens bs)
    where
      by_tokens : (ts : List Token) → length ts ≤ length (drop 1 ts ++ rest) + 1
      by_tokens [] = omega arith
      by_tokens (t ∷ ts) = omega (arith, length-append ts rest)

  pub if_node : (p : Place) (a : Around) (bs : Branches) → more_branches bs ≡ true → RereadsBranches a false bs → RereadsStatement end a (If p bs omitted)
  unfolding expression_tokens otherwise
  if_node p a bs some again room rest fits free =
      let size = length-append (branches_tokens bs) [] in
      let d = deeper end room in
      let ts = drop 1 (branches_tokens bs) ++ rest in
      let at_end : EndsBranches false rest = record { branch = λ b. last_branch end (next_keyword rest) (next_keyword (rest_of rest)) b rest free; free = λ h. free; calm = no_handler (next_keyword rest) free } in
      let list : row (branch_turn end d a) ts ≡ Ok (branch_list bs, rest) = again room (length ts) rest (omega (arith, size)) (if_size bs rest) some at_end in
      let none : otherwise end d a rest ≡ Ok (None, rest) = no_otherwise end d a (next_keyword rest) rest free in
      rw (append_assoc (branches_tokens bs) [] rest, first_if bs rest some) (if_reads d a ts rest rest (branch_list bs) None list none ∙ ap (λ (x : Branches). Ok (If nowhere x omitted, rest)) (branches_placeless bs))

  pub if_else_node : (p : Place) (a : Around) (bs : Branches) (s : StatementTree) → more_branches bs ≡ true → is_if s ≡ false → IsStatement (inside a) s → RereadsBranches a true bs → RereadsStatement end (inside a) s → RereadsStatement end a (If p bs (given s))
  unfolding expression_tokens otherwise
  if_else_node p a bs s some other is again again_s room rest fits free =
      let tail = keyword_token word.Else ∷ statement_tokens s in
      let size = length-append (branches_tokens bs) tail in
      let d = deeper end room in
      let behind = keyword_token word.Else ∷ (statement_tokens s ++ rest) in
      let ts = drop 1 (branches_tokens bs) ++ behind in
      let no_if = no_if_statement (inside a) s rest other is in
      let at_end : EndsBranches true behind = record { branch = λ b. branch_before_else end (next_keyword (statement_tokens s ++ rest)) b behind no_if; free = λ h. cc; calm = refl } in
      let list : row (branch_turn end d a) ts ≡ Ok (branch_list bs, behind) = again room (length ts) behind (omega (arith, size)) (if_size bs behind) some at_end in
      let last : otherwise end d a behind ≡ Ok (Some (placeless_statement s), rest) = rw (nested_again end (inside a) s room rest again_s (omega (arith, size)) free) refl in
      rw (append_assoc (branches_tokens bs) tail rest, first_if bs behind some) (if_reads d a ts behind rest (branch_list bs) (Some (placeless_statement s)) list last ∙ ap (λ (x : Branches). Ok (If nowhere x (given (placeless_statement s)), rest)) (branches_placeless bs))

  -- ---- `switch`

  -- the clauses before the `default`, and those from it on
  abbrev pub leading : Clauses → List Clause
  leading (a_clause (present e) ss cs) = record { test = Some (placeless_expression e); body = statement_list ss } ∷ leading cs
  leading _ = []

  abbrev pub following : Clauses → Clauses
  following (a_clause (present e) ss cs) = following cs
  following cs = cs

  abbrev pub IsFollowing : Clauses → Type 0
  IsFollowing no_clause = Unit {0}
  IsFollowing (a_clause absent ss cs) = Unit {0}
  IsFollowing (a_clause (present e) ss cs) = ⊥

  following_default : (cs : Clauses) → IsFollowing (following cs)
  following_default no_clause = tt
  following_default (a_clause absent ss cs) = tt
  following_default (a_clause (present e) ss cs) = following_default cs

  leading_all : (cs : Clauses) → clause_list cs ≡ leading cs ++ clause_list (following cs)
  leading_all no_clause = refl
  leading_all (a_clause absent ss cs) = refl
  leading_all (a_clause (present e) ss cs) = ap (λ (xs : List Clause). record { test = Some (placeless_expression e); body = statement_list ss } ∷ xs) (leading_all cs)

  abbrev pub braced : List Token → List Token
  braced rest = sign_token sign.RightBrace ∷ rest

  closes_clauses : (cs : Clauses) (rest : List Token) → closes (clauses_tokens cs ++ braced rest) ≡ true
  unfolding expression_tokens
  closes_clauses no_clause rest = refl
  closes_clauses (a_clause absent ss cs) rest = refl
  closes_clauses (a_clause (present e) ss cs) rest = refl

  no_part_clauses : (cs : Clauses) (rest : List Token) → begins_part (clauses_tokens cs ++ braced rest) ≡ false
  unfolding expression_tokens
  no_part_clauses no_clause rest = refl
  no_part_clauses (a_clause absent ss cs) rest = refl
  no_part_clauses (a_clause (present e) ss cs) rest = refl

  body_reads : (a : Around) (test : Option ExpressionTree) (ss : Statements) (cs : Clauses) (room : ℕ) (rest : List Token) → RereadsStatements end a ss → length (statements_tokens ss) < room → clause_from end (deeper end room) a test (sign_token sign.Colon ∷ (statements_tokens ss ++ (clauses_tokens cs ++ braced rest))) ≡ Ok (record { test = test; body = statement_list ss }, clauses_tokens cs ++ braced rest)
  unfolding clause_from expect
  body_reads a test ss cs room rest again fits =
      let behind = clauses_tokens cs ++ braced rest in
      let ts = statements_tokens ss ++ behind in
      let size = length-append (statements_tokens ss) behind in
      let list : row (statement_turn (deeper end room) a) ts ≡ Ok (statement_list ss, behind) = again room (length ts) behind fits (omega (arith, size)) (closes_clauses cs rest) (no_part_clauses cs rest) in
      rw list refl

  abbrev pub RereadsCases : Around → Clauses → Type 0
  RereadsCases a cs = (room n : ℕ) (rest : List Token) → length (clauses_tokens cs) ≤ room → length (clauses_tokens cs) ≤ n → row_of (a_case end (deeper end room) a) (suc n) (clauses_tokens cs ++ braced rest) ≡ Ok (leading cs, clauses_tokens (following cs) ++ braced rest)

  pub no_cases : (a : Around) → RereadsCases a no_clause
  unfolding expression_tokens a_case
  no_cases a room n rest fits le = row_end (a_case end (deeper end room) a) n (braced rest) (braced rest) refl

  pub default_ends : (a : Around) (ss : Statements) (cs : Clauses) → RereadsCases a (a_clause absent ss cs)
  unfolding expression_tokens a_case
  default_ends a ss cs room n rest fits le = row_end (a_case end (deeper end room) a) n (clauses_tokens (a_clause absent ss cs) ++ braced rest) (clauses_tokens (a_clause absent ss cs) ++ braced rest) refl

  pub case_row : (a : Around) (e : ExpressionTree) (ss : Statements) (cs : Clauses) → IsExpression e → Rereads end e → RereadsStatements end a ss → RereadsCases a cs → RereadsCases a (a_clause (present e) ss cs)
  unfolding expression_tokens a_case
  case_row a e ss cs is again_e again_s others room zero rest fits le = absurd (omega arith)
  case_row a e ss cs is again_e again_s others room (suc n) rest fits le =
      let colon = sign_token sign.Colon ∷ [] in
      let tail = statements_tokens ss ++ clauses_tokens cs in
      let size = length-append (expression_tokens e) colon in
      let size2 = length-append (statements_tokens ss) (clauses_tokens cs) in
      let size3 = length-append (expression_tokens e ++ colon) tail in
      let d = deeper end room in
      let more = clauses_tokens cs ++ braced rest in
      let us = sign_token sign.Colon ∷ (statements_tokens ss ++ more) in
      let ts = keyword_token word.Case ∷ (expression_tokens e ++ us) in
      let c : Clause = record { test = Some (placeless_expression e); body = statement_list ss } in
      let turn : a_case end d a ts ≡ Ok (More c, more) = rw (expression_again end e room Plain us is again_e (omega (arith, size, size2, size3)) (stops_colon end (deeper end (room - 1)) Plain (statements_tokens ss ++ more)) refl, body_reads a (Some (placeless_expression e)) ss cs room rest again_s (omega (arith, size, size2, size3))) refl in
      rw (append_assoc (expression_tokens e ++ colon) tail (braced rest), append_assoc (expression_tokens e) colon (tail ++ braced rest), append_assoc (statements_tokens ss) (clauses_tokens cs) (braced rest)) (row_more (a_case end d a) (suc n) ts more (clauses_tokens (following cs) ++ braced rest) c (leading cs) turn (others room n rest (omega (arith, size, size2, size3)) (omega (arith, size, size2, size3))))

  following_shorter : (cs : Clauses) → length (clauses_tokens (following cs)) ≤ length (clauses_tokens cs)
  unfolding expression_tokens
  following_shorter no_clause = omega arith
  following_shorter (a_clause absent ss cs) = omega arith
  following_shorter (a_clause (present e) ss cs) = omega (arith, following_shorter cs, length-append (expression_tokens e ++ sign_token sign.Colon ∷ []) (statements_tokens ss ++ clauses_tokens cs), length-append (statements_tokens ss) (clauses_tokens cs))

  -- from a `default` on
  abbrev pub RereadsDefault : Around → Clauses → Type 0
  RereadsDefault a no_clause = Unit {0}
  RereadsDefault a (a_clause absent ss cs) = RereadsStatements end a ss × RereadsCases a cs × (following cs ≡ no_clause)
  RereadsDefault a (a_clause (present e) ss cs) = Unit {0}

  default_reads : (a : Around) (before : List Clause) (cs : Clauses) (room : ℕ) (rest : List Token) → IsFollowing cs → RereadsDefault a cs → length (clauses_tokens cs) ≤ room → default_by end (deeper end room) a (next_keyword (clauses_tokens cs ++ braced rest)) before (clauses_tokens cs ++ braced rest) ≡ Ok (before ++ clause_list cs, braced rest)
  unfolding expression_tokens
  default_reads a before no_clause room rest is again fits = ap (λ (xs : List Clause). Ok (xs, braced rest)) (sym (append-nil before))
  default_reads a before (a_clause (present e) ss cs) room rest is again fits = absurd is
  default_reads a before (a_clause absent ss cs) room rest is again fits =
      let size = length-append (statements_tokens ss) (clauses_tokens cs) in
      let d = deeper end room in
      let more = clauses_tokens cs ++ braced rest in
      let size2 = length-append (clauses_tokens cs) (braced rest) in
      let first = body_reads a None ss cs room rest again.0 (omega (arith, size)) in
      let list : row (a_case end d a) more ≡ Ok (leading cs, clauses_tokens (following cs) ++ braced rest) = again.1 room (length more) rest (omega (arith, size)) (omega (arith, size2)) in
      let all : clause_list cs ≡ leading cs = leading_all cs ∙ ap (λ (x : Clauses). leading cs ++ clause_list x) again.2 ∙ append-nil (leading cs) in
      rw (append_assoc (statements_tokens ss) (clauses_tokens cs) (braced rest), first, list, again.2, all) refl

  clauses_end : (a : Around) (cs : Clauses) (room : ℕ) (rest : List Token) → RereadsCases a cs → RereadsDefault a (following cs) → length (clauses_tokens cs) ≤ room → length (clauses_tokens (following cs)) ≤ room → clauses end (deeper end room) a (clauses_tokens cs ++ braced rest) ≡ Ok (clause_list cs, braced rest)
  unfolding clauses
  clauses_end a cs room rest cases behind fits fits2 =
      let ts = clauses_tokens cs ++ braced rest in
      let size = length-append (clauses_tokens cs) (braced rest) in
      let list : row (a_case end (deeper end room) a) ts ≡ Ok (leading cs, clauses_tokens (following cs) ++ braced rest) = cases room (length ts) rest fits (omega (arith, size)) in
      rw (list, leading_all cs) (default_reads a (leading cs) (following cs) room rest (following_default cs) behind fits2)

  pub switch_node : (p : Place) (a : Around) (e : ExpressionTree) (cs : Clauses) → IsExpression e → Rereads end e → RereadsCases (in_switch a) cs → RereadsDefault (in_switch a) (following cs) → RereadsStatement end a (Switch p e cs)
  unfolding expression_tokens statement switch_statement expect
  switch_node p a e cs is again cases default room rest fits free =
      let inside_braces = in_braces (clauses_tokens cs) in
      let size = length-append (expression_tokens e) (sign_token sign.RightParenthesis ∷ []) in
      let size2 = length-append (clauses_tokens cs) (sign_token sign.RightBrace ∷ []) in
      let size3 = length-append (in_round (expression_tokens e)) inside_braces in
      let all = clauses_end (in_switch a) cs room rest cases default (omega (arith, size, size2, size3)) (omega (arith, size, size2, size3, following_shorter cs)) in
      rw (append_assoc (in_round (expression_tokens e)) inside_braces rest, round_again end e room (inside_braces ++ rest) is again (omega (arith, size, size2, size3)), append_assoc (clauses_tokens cs) (sign_token sign.RightBrace ∷ []) rest, all) (ap (λ (x : Clauses). Ok (Switch nowhere (placeless_expression e) x, rest)) (clauses_placeless cs))

  -- ---- `try`

  try_reads : (d : Deeper) (a : Around) (ts us vs rest : List Token) (s : StatementTree) (c : Option Catch) (f : Option StatementTree) → d.block (inside a) ts ≡ Ok (s, us) → catch_part end d a us ≡ Ok (c, vs) → finally_part end d a vs ≡ Ok (f, rest) → has_part c f ≡ true → statement end d a (keyword_token word.Try ∷ ts) ≡ Ok (Try nowhere s (catch_or_none c) (statement_or_none f), rest)
  unfolding statement try_statement
  try_reads d a ts us vs rest s c f b g h part = rw (b, g, h, part) refl

  try_blocks : (a : Around) (s t : StatementTree) (room : ℕ) (rest : List Token) → RereadsBlock end a s → length (statement_tokens s) < room → (deeper end room).block a (statement_tokens s ++ rest) ≡ Ok (placeless_statement s, rest)
  try_blocks a s t room rest again fits = block_at end room a (statement_tokens s ++ rest) (omega arith) ∙ again (room - 1) rest (omega arith)

  abbrev pub RereadsCatch : Around → CatchTree → Type 0
  RereadsCatch a no_catch = Unit {0}
  RereadsCatch a (a_catch x s) = IsName x × RereadsBlock end (inside a) s

  abbrev pub RereadsFinally : Around → OptionalStatement → Type 0
  RereadsFinally a omitted = Unit {0}
  RereadsFinally a (given s) = RereadsBlock end (inside a) s

  abbrev pub catch_record : CatchTree → Option Catch
  catch_record no_catch = None
  catch_record (a_catch x s) = Some (record { name = x; body = placeless_statement s })

  abbrev pub finally_record : OptionalStatement → Option StatementTree
  finally_record omitted = None
  finally_record (given s) = Some (placeless_statement s)

  -- a `catch` or none, before what begins no `catch`
  catch_again : (a : Around) (c : CatchTree) (room : ℕ) (rest : List Token) → RereadsCatch a c → length (catch_tokens c) ≤ room → catch_part end (deeper end room) a rest ≡ Ok (None, rest) → catch_part end (deeper end room) a (catch_tokens c ++ rest) ≡ Ok (catch_record c, rest)
  unfolding expression_tokens catch_part expect
  catch_again a no_catch room rest again fits none = none
  catch_again a (a_catch x s) room rest again fits none = rw (name_reads end x (closed end (statement_tokens s ++ rest)) again.0, try_blocks (inside a) s s room rest again.1 (omega arith)) refl

  finally_again : (a : Around) (f : OptionalStatement) (room : ℕ) (rest : List Token) → RereadsFinally a f → length (finally_tokens f) ≤ room → finally_part end (deeper end room) a rest ≡ Ok (None, rest) → finally_part end (deeper end room) a (finally_tokens f ++ rest) ≡ Ok (finally_record f, rest)
  unfolding expression_tokens finally_part
  finally_again a omitted room rest again fits none = none
  finally_again a (given s) room rest again fits none = rw (try_blocks (inside a) s s room rest again (omega arith)) refl

  no_catch_at : (d : Deeper) (a : Around) (f : OptionalStatement) (rest : List Token) → catch_part end d a rest ≡ Ok (None, rest) → catch_part end d a (finally_tokens f ++ rest) ≡ Ok (None, finally_tokens f ++ rest)
  unfolding expression_tokens catch_part
  no_catch_at d a omitted rest none = none
  no_catch_at d a (given s) rest none = refl

  has_caught : (c : CatchTree) (f : OptionalStatement) → (is_caught c || is_given f) ≡ true → has_part (catch_record c) (finally_record f) ≡ true
  has_caught no_catch omitted h = cc
  has_caught no_catch (given s) h = refl
  has_caught (a_catch x s) omitted h = refl
  has_caught (a_catch x s) (given t) h = refl

  catch_placeless : (c : CatchTree) → catch_or_none (catch_record c) ≡ placeless_catch c
  catch_placeless no_catch = refl
  catch_placeless (a_catch x s) = refl

  finally_placeless : (f : OptionalStatement) → statement_or_none (finally_record f) ≡ placeless_optional_statement f
  finally_placeless omitted = refl
  finally_placeless (given s) = refl

  pub try_node : (p : Place) (a : Around) (s : StatementTree) (c : CatchTree) (f : OptionalStatement) → (is_caught c || is_given f) ≡ true → RereadsBlock end (inside a) s → RereadsCatch a c → RereadsFinally a f → RereadsStatement end a (Try p s c f)
  unfolding expression_tokens catch_part finally_part
  try_node p a s c f has again again_c again_f room rest fits free =
      let tail = catch_tokens c ++ finally_tokens f in
      let size = length-append (catch_tokens c) (finally_tokens f) in
      let size2 = length-append (statement_tokens s) tail in
      let d = deeper end room in
      let vs = finally_tokens f ++ rest in
      let us = catch_tokens c ++ vs in
      let ts = statement_tokens s ++ us in
      let none_c = no_catch_at d a f rest (no_catch_word end d a (next_keyword rest) rest free) in
      let none_f = no_finally_word end d a (next_keyword rest) rest free in
      let block_read = try_blocks (inside a) s s room us again (omega (arith, size, size2)) in
      let catch_read = catch_again a c room vs again_c (omega (arith, size, size2)) none_c in
      let last_read = finally_again a f room rest again_f (omega (arith, size, size2)) none_f in
      rw (append_assoc (statement_tokens s) tail rest, append_assoc (catch_tokens c) (finally_tokens f) rest) (try_reads d a ts us vs rest (placeless_statement s) (catch_record c) (finally_record f) block_read catch_read last_read (has_caught c f has) ∙ ap (λ (x : CatchTree). Ok (Try nowhere (placeless_statement s) x (statement_or_none (finally_record f)), rest)) (catch_placeless c) ∙ ap (λ (x : OptionalStatement). Ok (Try nowhere (placeless_statement s) (placeless_catch c) x, rest)) (finally_placeless f))
