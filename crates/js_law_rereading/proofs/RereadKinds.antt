-- Reading each kind of statement that was printed, from how its parts are read.
use Rattle.std.proofs.Common.{◌≡◌, ℕ, zero, suc, ◌-◌, ◌<◌, ◌≤◌, List, [], ◌∷◌, ◌++◌, length, Option, Some, None, Ok, true, false, refl, sym, ap, ◌∙◌, append_assoc, length-append, arith}
use Rattle.js_tree.specs.declared.place.Place.{Place}
use Rattle.js_tree.specs.declared.token.Token.{Token}
use Rattle.js_tree.specs.declared.sign.Sign.TheVariants as sign
use Rattle.js_tree.specs.declared.bound.BoundName.{BoundName}
use Rattle.js_tree.specs.declared.operators.UpdateForm.TheVariants.{Prefix, Postfix}
use Rattle.js_tree.specs.declared.expression.Function.{Function as FunctionRecord}
use Rattle.js_tree.specs.declared.statement.Declared.{Declared}
use Rattle.js_tree.specs.declared.statement.Branch.{Branch}
use Rattle.js_tree.specs.Tree.{ExpressionTree, Name, Update, Function, OptionalExpression, absent, present, FunctionTree, a_function, StatementTree, Block, Empty, Evaluate, Debugger, Var, DoWhile, While, Continue, Break, Return, Throw, Declare, Statements, Declarations, no_declared, a_declared}
use Rattle.js_tree.specs.View.{function_of}
use Rattle.js_grammar.specs.declared.turn.Turn.TheVariants.{More, Last}
use Rattle.js_tree.specs.declared.keyword.Keyword.{Keyword}
use Rattle.js_tree.specs.declared.keyword.Keyword.TheVariants as word
use Rattle.js_grammar.specs.declared.form.Form.{Form}
use Rattle.js_grammar.specs.declared.form.Form.TheVariants.{Plain, NoIn}
use Rattle.js_grammar.specs.declared.around.Around.{Around}
use Rattle.js_grammar.specs.Readers.{row_of, row, next_sign, parted, expect, semicolon, place_at}
use Rattle.js_grammar.specs.Expressions.{Deeper, primary, expression, a_statement as statement_turn, function_from, function_expression}
use Rattle.js_grammar.specs.Statements.{deeper, statement, evaluated, block, block_from, inside, in_loop, var_statement, a_declared as declared_turn, first_value, first_value_by, branch_by, otherwise_by, do_statement, while_statement, return_statement, ends, throw_statement, begins_line, function_statement}
use Rattle.js_grammar.specs.Printing.{nowhere, sign_token, word_token, keyword_token, in_round, in_braces, more_declared, own_name_tokens, expression_tokens, function_tokens, statement_tokens, statements_tokens, first_value_tokens, declarations_tokens}
use Rattle.js_grammar.specs.Placeless.{placeless_expression, placeless_function, placeless_statement, placeless_statements}
use Rattle.js_law_readable.specs.Readable.{IsName, IsOwnName, IsExpression, IsOptional, ends_open}
use Rattle.js_law_rereading.proofs.Lists.{option_of, statement_list, declared_list, function_record, statements_placeless, declarations_placeless}
use Rattle.js_law_rereading.proofs.RereadParts.{row_more, row_last, Stops, stops_parenthesis, stops_comma, stops_semicolon, stops_in, value_of_unary, unary_reads, closed, brackets_at}
use Rattle.js_law_rereading.proofs.RereadExpressions.{Rereads, begins_nowhere, value_again, expression_again, round_again}
use Rattle.js_law_rereading.proofs.RereadStatements.{is_part_word, is_if_word, free_always, RereadsStatement, nested_again, RereadsStatements, name_reads, RereadsFunction}

abbrev pub own_of : FunctionTree → Option BoundName
own_of (a_function own xs names body) = own

-- ---- what a keyword decides

pub no_otherwise : (end : Place) (d : Deeper) (a : Around) (k : Option Keyword) (ts : List Token) → is_part_word k ≡ false → otherwise_by end d a k ts ≡ Ok (None, ts)
no_otherwise end d a (Some word.Else) ts h = cc
no_otherwise end d a _ ts h = refl

pub last_branch : (end : Place) (k j : Option Keyword) (b : Branch) (ts : List Token) → is_part_word k ≡ false → branch_by end k j b ts ≡ Ok (Last b, ts)
last_branch end (Some word.Else) j b ts h = cc
last_branch end _ j b ts h = refl

pub branch_before_else : (end : Place) (j : Option Keyword) (b : Branch) (ts : List Token) → is_if_word j ≡ false → branch_by end (Some word.Else) j b ts ≡ Ok (Last b, ts)
branch_before_else end (Some word.If) b ts h = cc
branch_before_else end _ b ts h = refl

module _ (end : Place) where
  abbrev pub RereadsOptional : OptionalExpression → Type 0
  RereadsOptional absent = Unit {0}
  RereadsOptional (present e) = Rereads end e

  -- ---- function expressions and declarations

  own_again : (d : Deeper) (f : FunctionTree) (rest : List Token) → IsOwnName (own_of f) → ((own : Option BoundName) → function_from end d own (function_tokens f ++ rest) ≡ Ok (record (function_record f) { name = own }, rest)) → function_expression end d (own_name_tokens f ++ (function_tokens f ++ rest)) ≡ Ok (function_record f, rest)
  unfolding expression_tokens function_expression
  own_again d (a_function None xs names body) rest is again = again None
  own_again d (a_function (Some x) xs names body) rest is again = rw (name_reads end x (function_tokens (a_function (Some x) xs names body) ++ rest) is) (again (Some x))

  function_reads : (d : Deeper) (f : FunctionTree) (ts rest : List Token) → function_of (function_record f) ≡ placeless_function f → function_expression end d ts ≡ Ok (function_record f, rest) → primary end d (keyword_token word.Function ∷ ts) ≡ Ok (Function nowhere (placeless_function f), rest)
  unfolding primary
  function_reads d f ts rest placeless h = rw h (ap (λ (g : FunctionTree). Ok (Function nowhere g, rest)) placeless)

  pub function_node : (f : FunctionTree) (room : ℕ) (rest : List Token) → IsOwnName (own_of f) → function_of (function_record f) ≡ placeless_function f → RereadsFunction end f → length (in_round (keyword_token word.Function ∷ (own_name_tokens f ++ function_tokens f))) ≤ room → primary end (deeper end room) (in_round (keyword_token word.Function ∷ (own_name_tokens f ++ function_tokens f)) ++ rest) ≡ Ok (Function nowhere (placeless_function f), rest)
  function_node f room rest is placeless again fits =
      let size = length-append (own_name_tokens f) (function_tokens f) in
      let size2 = length-append (own_name_tokens f ++ function_tokens f) (sign_token sign.RightParenthesis ∷ []) in
      let d = deeper end (room - 1) in
      let ts = own_name_tokens f ++ (function_tokens f ++ closed end rest) in
      let own = own_again d f (closed end rest) is (λ (own : Option BoundName). again (room - 1) own (closed end rest) (omega (arith, size, size2))) in
      let read = function_reads d f ts (closed end rest) placeless own in
      let stops = stops_parenthesis end d Plain rest in
      brackets_at end room (keyword_token word.Function ∷ (own_name_tokens f ++ function_tokens f)) rest (Function nowhere (placeless_function f)) (omega arith)
      (rw (append_assoc (own_name_tokens f) (function_tokens f) (closed end rest)) (value_of_unary end d Plain (keyword_token word.Function ∷ ts) (closed end rest) (Function nowhere (placeless_function f)) (unary_reads end d (keyword_token word.Function ∷ ts) (closed end rest) (Function nowhere (placeless_function f)) refl refl read stops.suffix stops.postfix) stops))

  pub declare_node : (p : Place) (a : Around) (x : BoundName) (f : FunctionTree) → a.direct ≡ true → IsName x → own_of f ≡ None → function_of (function_record f) ≡ placeless_function f → RereadsFunction end f → RereadsStatement end a (Declare p x f)
  unfolding expression_tokens statement function_statement
  declare_node p a x (a_function own xs names body) direct is anonymous placeless again room rest fits free =
      let f = a_function own xs names body in
      let record_is : record (function_record f) { name = None } ≡ function_record f = ap (λ (o : Option BoundName). record (function_record f) { name = o }) (sym anonymous) in
      rw (name_reads end x (function_tokens f ++ rest) is, direct, again room None rest (omega arith)) (ap (λ (r : FunctionRecord). Ok (Declare nowhere x (function_of r), rest)) record_is ∙ ap (λ (g : FunctionTree). Ok (Declare nowhere x g, rest)) placeless)

  -- ---- expression statements and blocks

  begins_evaluated : (d : Deeper) (a : Around) (e : ExpressionTree) (rest : List Token) → IsExpression e → statement end d a (expression_tokens e ++ sign_token sign.Semicolon ∷ rest) ≡ evaluated end d (expression_tokens e ++ sign_token sign.Semicolon ∷ rest)
  unfolding expression_tokens statement
  begins_evaluated d a (Name p x) rest h = rw h.0 refl
  begins_evaluated d a (Update p Prefix op e) rest h = refl
  begins_evaluated d a (Update p Postfix op e) rest h = refl
  begins_evaluated d a _ rest h = refl

  evaluated_reads : (d : Deeper) (ts rest : List Token) (e : ExpressionTree) → expression end d Plain ts ≡ Ok (e, sign_token sign.Semicolon ∷ rest) → evaluated end d ts ≡ Ok (Evaluate (place_at end ts) e, rest)
  unfolding evaluated semicolon
  evaluated_reads d ts rest e h = rw h refl

  pub evaluate_node : (p : Place) (a : Around) (e : ExpressionTree) → IsExpression e → Rereads end e → RereadsStatement end a (Evaluate p e)
  unfolding expression_tokens
  evaluate_node p a e is again room rest fits free =
      let size = length-append (expression_tokens e) (sign_token sign.Semicolon ∷ []) in
      let behind = sign_token sign.Semicolon ∷ rest in
      let d = deeper end room in
      let value = expression_again end e room Plain behind is again (omega (arith, size)) (stops_semicolon end (deeper end (room - 1)) Plain rest) refl in
      rw (append_assoc (expression_tokens e) (sign_token sign.Semicolon ∷ []) rest) (begins_evaluated d a e rest is ∙ evaluated_reads d (expression_tokens e ++ behind) rest (placeless_expression e) value ∙ ap (λ (q : Place). Ok (Evaluate q (placeless_expression e), rest)) (begins_nowhere end e behind))

  block_reads : (d : Deeper) (a : Around) (ts rest : List Token) (ss : Statements) → row (statement_turn d (inside a)) ts ≡ Ok (statement_list ss, sign_token sign.RightBrace ∷ rest) → block_from end d a nowhere ts ≡ Ok (Block nowhere (placeless_statements ss), rest)
  unfolding block_from expect
  block_reads d a ts rest ss list = rw list (ap (λ (x : Statements). Ok (Block nowhere x, rest)) (statements_placeless ss))

  block_inside : (a : Around) (ss : Statements) (room : ℕ) (rest : List Token) → RereadsStatements end (inside a) ss → length (in_braces (statements_tokens ss)) ≤ room → block_from end (deeper end room) a nowhere (statements_tokens ss ++ sign_token sign.RightBrace ∷ rest) ≡ Ok (Block nowhere (placeless_statements ss), rest)
  block_inside a ss room rest again fits =
      let size = length-append (statements_tokens ss) (sign_token sign.RightBrace ∷ []) in
      let behind = sign_token sign.RightBrace ∷ rest in
      let ts = statements_tokens ss ++ behind in
      let size2 = length-append (statements_tokens ss) behind in
      block_reads (deeper end room) a ts rest ss (again room (length ts) behind (omega (arith, size)) (omega (arith, size2)) refl refl)

  pub block_node : (p : Place) (a : Around) (ss : Statements) → RereadsStatements end (inside a) ss → RereadsStatement end a (Block p ss)
  unfolding expression_tokens statement
  block_node p a ss again room rest fits free = rw (append_assoc (statements_tokens ss) (sign_token sign.RightBrace ∷ []) rest) (block_inside a ss room rest again fits)

  -- a block that stands where only a block may
  abbrev pub RereadsBlock : Around → StatementTree → Type 0
  RereadsBlock a s = (room : ℕ) (rest : List Token) → length (statement_tokens s) ≤ room → block end (deeper end room) a (statement_tokens s ++ rest) ≡ Ok (placeless_statement s, rest)

  pub block_again : (p : Place) (a : Around) (ss : Statements) → RereadsStatements end (inside a) ss → RereadsBlock a (Block p ss)
  unfolding expression_tokens block expect
  block_again p a ss again room rest fits = rw (append_assoc (statements_tokens ss) (sign_token sign.RightBrace ∷ []) rest) (block_inside a ss room rest again fits)

  -- ---- words alone

  pub empty_node : (p : Place) (a : Around) → RereadsStatement end a (Empty p)
  unfolding expression_tokens statement
  empty_node p a room rest fits free = refl

  pub debugger_node : (p : Place) (a : Around) → RereadsStatement end a (Debugger p)
  unfolding expression_tokens statement semicolon
  debugger_node p a room rest fits free = refl

  pub continue_node : (p : Place) (a : Around) → a.in_loop ≡ true → RereadsStatement end a (Continue p)
  unfolding expression_tokens statement semicolon
  continue_node p a h room rest fits free = rw h refl

  pub break_node : (p : Place) (a : Around) → a.breakable ≡ true → RereadsStatement end a (Break p)
  unfolding expression_tokens statement semicolon
  break_node p a h room rest fits free = rw h refl

  -- ---- `return` and `throw`

  begins_here : (e : ExpressionTree) (rest : List Token) → ends (expression_tokens e ++ rest) ≡ false
  unfolding expression_tokens
  begins_here (Update p Prefix op e) rest = refl
  begins_here (Update p Postfix op e) rest = refl
  begins_here _ rest = refl

  on_this_line : (e : ExpressionTree) (rest : List Token) → begins_line (expression_tokens e ++ rest) ≡ false
  unfolding expression_tokens
  on_this_line (Update p Prefix op e) rest = refl
  on_this_line (Update p Postfix op e) rest = refl
  on_this_line _ rest = refl

  pub return_node : (p : Place) (a : Around) → a.in_function ≡ true → RereadsStatement end a (Return p absent)
  unfolding expression_tokens statement return_statement semicolon
  return_node p a h room rest fits free = rw h refl

  pub return_value_node : (p : Place) (a : Around) (e : ExpressionTree) → a.in_function ≡ true → IsExpression e → Rereads end e → RereadsStatement end a (Return p (present e))
  unfolding expression_tokens statement return_statement semicolon
  return_value_node p a e h is again room rest fits free =
      let size = length-append (expression_tokens e) (sign_token sign.Semicolon ∷ []) in
      let behind = sign_token sign.Semicolon ∷ rest in
      let value = expression_again end e room Plain behind is again (omega (arith, size)) (stops_semicolon end (deeper end (room - 1)) Plain rest) refl in
      rw (append_assoc (expression_tokens e) (sign_token sign.Semicolon ∷ []) rest, h, begins_here e behind, value) refl

  pub throw_node : (p : Place) (a : Around) (e : ExpressionTree) → IsExpression e → Rereads end e → RereadsStatement end a (Throw p e)
  unfolding expression_tokens statement throw_statement semicolon
  throw_node p a e is again room rest fits free =
      let size = length-append (expression_tokens e) (sign_token sign.Semicolon ∷ []) in
      let behind = sign_token sign.Semicolon ∷ rest in
      let value = expression_again end e room Plain behind is again (omega (arith, size)) (stops_semicolon end (deeper end (room - 1)) Plain rest) refl in
      rw (append_assoc (expression_tokens e) (sign_token sign.Semicolon ∷ []) rest, on_this_line e behind, value) refl

  -- ---- loops but `for`

  pub while_node : (p : Place) (a : Around) (c : ExpressionTree) (s : StatementTree) → IsExpression c → Rereads end c → RereadsStatement end (in_loop a) s → RereadsStatement end a (While p c s)
  unfolding expression_tokens statement while_statement
  while_node p a c s is again_c again_s room rest fits free =
      let size = length-append (expression_tokens c) (sign_token sign.RightParenthesis ∷ []) in
      let size2 = length-append (in_round (expression_tokens c)) (statement_tokens s) in
      let more = statement_tokens s ++ rest in
      rw (append_assoc (in_round (expression_tokens c)) (statement_tokens s) rest, round_again end c room more is again_c (omega (arith, size, size2)), nested_again end (in_loop a) s room rest again_s (omega (arith, size, size2)) free) refl

  pub do_node : (p : Place) (a : Around) (s : StatementTree) (c : ExpressionTree) → IsExpression c → Rereads end c → RereadsStatement end (in_loop a) s → RereadsStatement end a (DoWhile p s c)
  unfolding expression_tokens statement do_statement
  do_node p a s c is again_c again_s room rest fits free =
      let tail = in_round (expression_tokens c) ++ sign_token sign.Semicolon ∷ [] in
      let size = length-append (expression_tokens c) (sign_token sign.RightParenthesis ∷ []) in
      let size2 = length-append (in_round (expression_tokens c)) (sign_token sign.Semicolon ∷ []) in
      let size3 = length-append (statement_tokens s) (keyword_token word.While ∷ tail) in
      let behind = sign_token sign.Semicolon ∷ rest in
      let more = in_round (expression_tokens c) ++ behind in
      rw (append_assoc (statement_tokens s) (keyword_token word.While ∷ tail) rest, append_assoc (in_round (expression_tokens c)) (sign_token sign.Semicolon ∷ []) rest, nested_again end (in_loop a) s room (keyword_token word.While ∷ more) again_s (omega (arith, size, size2, size3)) (free_always (ends_open s) (keyword_token word.While ∷ more) refl), round_again end c room behind is again_c (omega (arith, size, size2, size3))) refl

  -- ---- declared names

  -- what stands behind the last one
  pub record EndsDeclared (d : Deeper) (form : Form) (rest : List Token) : Type 0 where
    pub stops : Stops end d form rest
    pub last : (x : Declared) → parted (next_sign rest) x rest ≡ Ok (Last x, rest)
    pub none : (e : Deeper) → first_value_by end e form (next_sign rest) rest ≡ Ok (None, rest)

  pub ends_semicolon : (d : Deeper) (form : Form) (rest : List Token) → EndsDeclared d form (sign_token sign.Semicolon ∷ rest)
  ends_semicolon d form rest = record { stops = stops_semicolon end d form rest; last = λ x. refl; none = λ e. refl }

  pub ends_in : (d : Deeper) (rest : List Token) → EndsDeclared d NoIn (keyword_token word.In ∷ rest)
  ends_in d rest = record { stops = stops_in end d rest; last = λ x. refl; none = λ e. refl }

  abbrev pub RereadsDeclared : Declarations → Type 0
  RereadsDeclared ds = (room n : ℕ) (form : Form) (rest : List Token) → length (declarations_tokens ds) < room → length (declarations_tokens ds) ≤ n → more_declared ds ≡ true → EndsDeclared (deeper end (room - 1)) form rest → row_of (declared_turn end (deeper end room) form) (suc n) (declarations_tokens ds ++ rest) ≡ Ok (declared_list ds, rest)

  pub nothing_declared : RereadsDeclared no_declared
  nothing_declared room n form rest fits le some at_end = cc

  -- an optional first value, and what stands behind it
  pub first_again : (o : OptionalExpression) (room : ℕ) (form : Form) (rest : List Token) → IsOptional o → RereadsOptional o → length (first_value_tokens o) < room → Stops end (deeper end (room - 1)) form rest → first_value_by end (deeper end room) form (next_sign rest) rest ≡ Ok (None, rest) → first_value end (deeper end room) form (first_value_tokens o ++ rest) ≡ Ok (option_of o, rest)
  unfolding expression_tokens first_value
  first_again absent room form rest is again fits stops none = none
  first_again (present e) room form rest is again fits stops none = rw (value_again end e room form rest is again (omega arith) stops) refl

  pub declared_row : (x : BoundName) (o : OptionalExpression) (ds : Declarations) → IsName x → IsOptional o → RereadsOptional o → RereadsDeclared ds → RereadsDeclared (a_declared x o ds)
  unfolding expression_tokens declared_turn
  declared_row x o ds is is_o again others room zero form rest fits le some at_end = absurd (omega arith)
  declared_row x o no_declared is is_o again others room (suc n) form rest fits le some at_end =
      let size = length-append (first_value_tokens o) [] in
      let d = deeper end room in
      let turn : declared_turn end d form (word_token x.name ∷ (first_value_tokens o ++ rest)) ≡ Ok (Last (record { name = x; value = option_of o }), rest) = rw (name_reads end x (first_value_tokens o ++ rest) is, first_again o room form rest is_o again (omega (arith, size)) at_end.stops (at_end.none d)) (at_end.last (record { name = x; value = option_of o })) in
      rw (append_assoc (first_value_tokens o) [] rest) (row_last (declared_turn end d form) (suc n) (word_token x.name ∷ (first_value_tokens o ++ rest)) rest (record { name = x; value = option_of o }) turn)
  declared_row x o (a_declared y q ds) is is_o again others room (suc n) form rest fits le some at_end =
      let tail = declarations_tokens (a_declared y q ds) in
      let size = length-append (first_value_tokens o) (sign_token sign.Comma ∷ tail) in
      let d = deeper end room in
      let more = tail ++ rest in
      let turn : declared_turn end d form (word_token x.name ∷ (first_value_tokens o ++ sign_token sign.Comma ∷ more)) ≡ Ok (More (record { name = x; value = option_of o }), more) = rw (name_reads end x (first_value_tokens o ++ sign_token sign.Comma ∷ more) is, first_again o room form (sign_token sign.Comma ∷ more) is_o again (omega (arith, size)) (stops_comma end (deeper end (room - 1)) form more) refl) refl in
      rw (append_assoc (first_value_tokens o) (sign_token sign.Comma ∷ tail) rest) (row_more (declared_turn end d form) (suc n) (word_token x.name ∷ (first_value_tokens o ++ sign_token sign.Comma ∷ more)) more rest (record { name = x; value = option_of o }) (declared_list (a_declared y q ds)) turn (others room n form rest (omega (arith, size)) (omega (arith, size)) refl at_end))

  pub var_node : (p : Place) (a : Around) (ds : Declarations) → more_declared ds ≡ true → RereadsDeclared ds → RereadsStatement end a (Var p ds)
  unfolding expression_tokens statement var_statement semicolon
  var_node p a ds some again room rest fits free =
      let size = length-append (declarations_tokens ds) (sign_token sign.Semicolon ∷ []) in
      let behind = sign_token sign.Semicolon ∷ rest in
      let ts = declarations_tokens ds ++ behind in
      let size2 = length-append (declarations_tokens ds) behind in
      let list : row (declared_turn end (deeper end room) Plain) ts ≡ Ok (declared_list ds, behind) = again room (length ts) Plain behind (omega (arith, size)) (omega (arith, size2)) some (ends_semicolon (deeper end (room - 1)) Plain rest) in
      rw (append_assoc (declarations_tokens ds) (sign_token sign.Semicolon ∷ []) rest, list) (ap (λ (x : Declarations). Ok (Var nowhere x, rest)) (declarations_placeless ds))
