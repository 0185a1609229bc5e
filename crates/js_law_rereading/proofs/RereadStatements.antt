-- Reading functions and statements that were printed, from how their parts are read.
use Rattle.std.proofs.Common.{◌≡◌, ℕ, zero, suc, ◌-◌, ◌<◌, ◌≤◌, List, [], ◌∷◌, ◌++◌, length, Option, Some, Ok, Bool, true, false, refl, sym, ap, ◌∙◌, append_assoc, length-append, arith}
use Rattle.js_tree.specs.declared.place.Place.{Place}
use Rattle.js_tree.specs.declared.token.Token.{Token}
use Rattle.js_tree.specs.declared.sign.Sign.TheVariants as sign
use Rattle.js_tree.specs.declared.bound.BoundName.{BoundName}
use Rattle.js_tree.specs.declared.operators.UpdateForm.TheVariants.{Prefix, Postfix}
use Rattle.js_tree.specs.Tree.{ExpressionTree, Name, Update, FunctionTree, a_function, StatementTree, Evaluate, If, DeclareNumbered, Statements, no_statement, a_statement, no_branch, a_branch}
use Rattle.js_grammar.specs.declared.turn.Turn.TheVariants.{More, Last, End}
use Rattle.js_tree.specs.declared.keyword.Keyword.{Keyword}
use Rattle.js_tree.specs.declared.keyword.Keyword.TheVariants as word
use Rattle.js_grammar.specs.declared.around.Around.{Around}
use Rattle.js_grammar.specs.Readers.{row_of, row, next_keyword, expect, name, parameters, a_parameter}
use Rattle.js_grammar.specs.Expressions.{a_statement as statement_turn, closes, in_function, function_from}
use Rattle.js_grammar.specs.Statements.{deeper, statement, block}
use Rattle.js_grammar.specs.Printing.{sign_token, word_token, in_round, in_braces, more_names, parameters_tokens, expression_tokens, function_tokens, statement_tokens, statements_tokens}
use Rattle.js_grammar.specs.Placeless.{placeless_statement}
use Rattle.js_law_readable.specs.Readable.{IsName, AreNames, IsExpression, IsStatement, AreStatements, ends_open, is_if}
use Rattle.js_law_rereading.proofs.Lists.{statement_list, function_record}
use Rattle.js_law_rereading.proofs.RereadParts.{row_more, row_last, row_end, closed}

-- ---- how expressions and statements begin

-- a word that goes on with a statement before it
abbrev pub is_part_word : Option Keyword → Bool
is_part_word (Some word.Else) = true
is_part_word (Some word.Catch) = true
is_part_word (Some word.Finally) = true
is_part_word _ = false

abbrev pub is_handler_word : Option Keyword → Bool
is_handler_word (Some word.Catch) = true
is_handler_word (Some word.Finally) = true
is_handler_word _ = false

abbrev pub begins_handler : List Token → Bool
begins_handler ts = is_handler_word (next_keyword ts)

pub no_handler : (k : Option Keyword) → is_part_word k ≡ false → is_handler_word k ≡ false
no_handler (Some word.Catch) h = h
no_handler (Some word.Finally) h = h
no_handler _ h = refl

abbrev pub begins_part : List Token → Bool
begins_part ts = is_part_word (next_keyword ts)

abbrev pub is_if_word : Option Keyword → Bool
is_if_word (Some word.If) = true
is_if_word _ = false

pub opens_expression : (e : ExpressionTree) (rest : List Token) → IsExpression e → closes (expression_tokens e ++ rest) ≡ false
unfolding expression_tokens
opens_expression (Name p x) rest h = rw h.0 refl
opens_expression (Update p Prefix op e) rest h = refl
opens_expression (Update p Postfix op e) rest h = refl
opens_expression _ rest h = refl

pub no_part_expression : (e : ExpressionTree) (rest : List Token) → IsExpression e → begins_part (expression_tokens e ++ rest) ≡ false
unfolding expression_tokens
no_part_expression (Name p x) rest h = rw h.0 refl
no_part_expression (Update p Prefix op e) rest h = refl
no_part_expression (Update p Postfix op e) rest h = refl
no_part_expression _ rest h = refl

no_if_expression : (e : ExpressionTree) (rest : List Token) → IsExpression e → is_if_word (next_keyword (expression_tokens e ++ rest)) ≡ false
unfolding expression_tokens
no_if_expression (Name p x) rest h = rw h.0 refl
no_if_expression (Update p Prefix op e) rest h = refl
no_if_expression (Update p Postfix op e) rest h = refl
no_if_expression _ rest h = refl

pub opens_statement : (a : Around) (s : StatementTree) (rest : List Token) → IsStatement a s → closes (statement_tokens s ++ rest) ≡ false
unfolding expression_tokens
opens_statement a (Evaluate p e) rest h = rw (append_assoc (expression_tokens e) (sign_token sign.Semicolon ∷ []) rest) (opens_expression e (sign_token sign.Semicolon ∷ rest) h)
opens_statement a (If p no_branch s) rest h = cc (h.0)
opens_statement a (If p (a_branch c s bs) o) rest h = refl
opens_statement a (DeclareNumbered p x n) rest h = absurd h
opens_statement a _ rest h = refl

pub no_part_statement : (a : Around) (s : StatementTree) (rest : List Token) → IsStatement a s → begins_part (statement_tokens s ++ rest) ≡ false
unfolding expression_tokens
no_part_statement a (Evaluate p e) rest h = rw (append_assoc (expression_tokens e) (sign_token sign.Semicolon ∷ []) rest) (no_part_expression e (sign_token sign.Semicolon ∷ rest) h)
no_part_statement a (If p no_branch s) rest h = cc (h.0)
no_part_statement a (If p (a_branch c s bs) o) rest h = refl
no_part_statement a (DeclareNumbered p x n) rest h = absurd h
no_part_statement a _ rest h = refl

pub no_if_statement : (a : Around) (s : StatementTree) (rest : List Token) → is_if s ≡ false → IsStatement a s → is_if_word (next_keyword (statement_tokens s ++ rest)) ≡ false
unfolding expression_tokens
no_if_statement a (Evaluate p e) rest n h = rw (append_assoc (expression_tokens e) (sign_token sign.Semicolon ∷ []) rest) (no_if_expression e (sign_token sign.Semicolon ∷ rest) h)
no_if_statement a (If p bs s) rest n h = cc
no_if_statement a (DeclareNumbered p x n) rest i h = absurd h
no_if_statement a _ rest n h = refl

-- no `catch` or `finally` follows, nor an `else` where the statement would take it
abbrev pub IsFree : Bool → List Token → Type 0
IsFree true rest = begins_part rest ≡ false
IsFree false rest = begins_handler rest ≡ false

pub free_always : (b : Bool) (rest : List Token) → begins_part rest ≡ false → IsFree b rest
free_always true rest h = h
free_always false rest h = no_handler (next_keyword rest) h

pub free_closed : (b : Bool) (rest : List Token) → b ≡ false → begins_handler rest ≡ false → IsFree b rest
free_closed true rest h k = cc
free_closed false rest h k = k

module _ (end : Place) where
  -- a statement is read again, whatever follows it but what would go on with it
  abbrev pub RereadsStatement : Around → StatementTree → Type 0
  RereadsStatement a s = (room : ℕ) (rest : List Token) → length (statement_tokens s) ≤ room → IsFree (ends_open s) rest → statement end (deeper end room) a (statement_tokens s ++ rest) ≡ Ok (placeless_statement s, rest)

  -- ---- less room for nesting

  pub statement_at : (room : ℕ) (a : Around) (ts : List Token) → 0 < room → (deeper end room).statement a ts ≡ statement end (deeper end (room - 1)) a ts
  unfolding deeper
  statement_at room a ts some =
      let one_more : room ≡ suc (room - 1) = omega arith in
      ap (λ n. (deeper end n).statement a ts) one_more

  pub block_at : (room : ℕ) (a : Around) (ts : List Token) → 0 < room → (deeper end room).block a ts ≡ block end (deeper end (room - 1)) a ts
  unfolding deeper
  block_at room a ts some =
      let one_more : room ≡ suc (room - 1) = omega arith in
      ap (λ n. (deeper end n).block a ts) one_more

  pub nested_again : (a : Around) (s : StatementTree) (room : ℕ) (rest : List Token) → RereadsStatement a s → length (statement_tokens s) < room → IsFree (ends_open s) rest → (deeper end room).statement a (statement_tokens s ++ rest) ≡ Ok (placeless_statement s, rest)
  nested_again a s room rest again fits free = statement_at room a (statement_tokens s ++ rest) (omega arith) ∙ again (room - 1) rest (omega arith) free

  -- ---- statements in a row

  abbrev pub RereadsStatements : Around → Statements → Type 0
  RereadsStatements a ss = (room n : ℕ) (rest : List Token) → length (statements_tokens ss) < room → length (statements_tokens ss) ≤ n → closes rest ≡ true → begins_part rest ≡ false → row_of (statement_turn (deeper end room) a) (suc n) (statements_tokens ss ++ rest) ≡ Ok (statement_list ss, rest)

  pub no_statements : (a : Around) → RereadsStatements a no_statement
  unfolding expression_tokens statement_turn
  no_statements a room n rest fits le c e =
      let ends_here : statement_turn (deeper end room) a rest ≡ Ok (End, rest) = rw c refl in
      row_end (statement_turn (deeper end room) a) n rest rest ends_here

  statement_some : (a : Around) (s : StatementTree) → IsStatement a s → 0 < length (statement_tokens s)
  statement_some a s h = by_tokens (statement_tokens s) (opens_statement a s [] h)
    where
      by_tokens : (ts : List Token) → closes (ts ++ []) ≡ false → 0 < length ts
      by_tokens [] h = cc
      by_tokens (t ∷ ts) h = omega arith

  no_part_behind : (a : Around) (ss : Statements) (rest : List Token) → AreStatements a ss → begins_part rest ≡ false → begins_part (statements_tokens ss ++ rest) ≡ false
  unfolding expression_tokens
  no_part_behind a no_statement rest h e = e
  no_part_behind a (a_statement s ss) rest h e = rw (append_assoc (statement_tokens s) (statements_tokens ss) rest) (no_part_statement a s (statements_tokens ss ++ rest) h.0)

  pub statement_row : (a : Around) (s : StatementTree) (ss : Statements) → IsStatement a s → AreStatements a ss → RereadsStatement a s → RereadsStatements a ss → RereadsStatements a (a_statement s ss)
  unfolding expression_tokens statement_turn
  statement_row a s ss is are again others room zero rest fits le c e = absurd (omega (arith, statement_some a s is, length-append (statement_tokens s) (statements_tokens ss)))
  statement_row a s ss is are again others room (suc n) rest fits le c e =
      let size = length-append (statement_tokens s) (statements_tokens ss) in
      let more = statements_tokens ss ++ rest in
      let free = free_always (ends_open s) more (no_part_behind a ss rest are e) in
      let turn : statement_turn (deeper end room) a (statement_tokens s ++ more) ≡ Ok (More (placeless_statement s), more) = rw (opens_statement a s more is, nested_again a s room more again (omega (arith, size)) free) refl in
      rw (append_assoc (statement_tokens s) (statements_tokens ss) rest) (row_more (statement_turn (deeper end room) a) (suc n) (statement_tokens s ++ more) more rest (placeless_statement s) (statement_list ss) turn (others room n rest (omega (arith, size)) (omega (arith, size, statement_some a s is)) c e))

  -- ---- functions

  pub name_reads : (x : BoundName) (rest : List Token) → IsName x → name end (word_token x.name ∷ rest) ≡ Ok (x, rest)
  unfolding name
  name_reads x rest h = rw h.0 (ap (λ (y : BoundName). Ok (y, rest)) (sym h.1))

  last_parameter : (x : BoundName) (rest : List Token) → IsName x → a_parameter end (word_token x.name ∷ closed end rest) ≡ Ok (Last x, rest)
  unfolding a_parameter expect
  last_parameter x rest h = rw (name_reads x (closed end rest) h) refl

  more_parameter : (x : BoundName) (rest : List Token) → IsName x → a_parameter end (word_token x.name ∷ (sign_token sign.Comma ∷ rest)) ≡ Ok (More x, rest)
  unfolding a_parameter
  more_parameter x rest h = rw (name_reads x (sign_token sign.Comma ∷ rest) h) refl

  parameters_row : (xs : List BoundName) (n : ℕ) (rest : List Token) → AreNames xs → more_names xs ≡ true → length (parameters_tokens xs) ≤ n → row_of (a_parameter end) (suc n) (parameters_tokens xs ++ closed end rest) ≡ Ok (xs, rest)
  parameters_row [] n rest h some le = cc
  parameters_row (x ∷ xs) zero rest h some le = absurd (omega arith)
  parameters_row (x ∷ []) (suc n) rest h some le = row_last (a_parameter end) (suc n) (word_token x.name ∷ closed end rest) rest x (last_parameter x rest h.0)
  parameters_row (x ∷ y ∷ xs) (suc n) rest h some le = row_more (a_parameter end) (suc n) (word_token x.name ∷ (sign_token sign.Comma ∷ (parameters_tokens (y ∷ xs) ++ closed end rest))) (parameters_tokens (y ∷ xs) ++ closed end rest) rest x (y ∷ xs) (more_parameter x (parameters_tokens (y ∷ xs) ++ closed end rest) h.0) (parameters_row (y ∷ xs) n rest h.1 refl (omega arith))

  parameters_again : (xs : List BoundName) (rest : List Token) → AreNames xs → parameters end (parameters_tokens xs ++ closed end rest) ≡ Ok (xs, rest)
  unfolding parameters
  parameters_again [] rest h = refl
  parameters_again (x ∷ xs) rest h = parameters_row (x ∷ xs) (length (parameters_tokens (x ∷ xs) ++ closed end rest)) rest h refl (omega (arith, length-append (parameters_tokens (x ∷ xs)) (closed end rest)))

  -- a function from its parameters on
  abbrev pub RereadsFunction : FunctionTree → Type 0
  RereadsFunction f = (room : ℕ) (own : Option BoundName) (rest : List Token) → length (function_tokens f) ≤ room → function_from end (deeper end room) own (function_tokens f ++ rest) ≡ Ok (record (function_record f) { name = own }, rest)

  pub function_again : (own : Option BoundName) (xs : List BoundName) (names : List (List ℕ)) (body : Statements) → AreNames xs → RereadsStatements in_function body → RereadsFunction (a_function own xs names body)
  unfolding expression_tokens function_from expect
  function_again own xs names body are others room called rest fits =
      let inside_braces = in_braces (statements_tokens body) in
      let size = length-append (in_round (parameters_tokens xs)) inside_braces in
      let size2 = length-append (statements_tokens body) (sign_token sign.RightBrace ∷ []) in
      let size3 = length-append (parameters_tokens xs) (sign_token sign.RightParenthesis ∷ []) in
      let behind = sign_token sign.RightBrace ∷ rest in
      let ts = statements_tokens body ++ behind in
      let size4 = length-append (statements_tokens body) behind in
      let list : row (statement_turn (deeper end room) in_function) ts ≡ Ok (statement_list body, behind) = others room (length ts) behind (omega (arith, size, size2, size3)) (omega (arith, size4)) refl refl in
      rw (append_assoc (parameters_tokens xs ++ sign_token sign.RightParenthesis ∷ []) inside_braces rest, append_assoc (parameters_tokens xs) (sign_token sign.RightParenthesis ∷ []) (inside_braces ++ rest), parameters_again xs (inside_braces ++ rest) are, append_assoc (statements_tokens body) (sign_token sign.RightBrace ∷ []) rest, list) refl
