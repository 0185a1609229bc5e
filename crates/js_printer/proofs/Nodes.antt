-- What is written of a tree is what is written of its parts, one behind another: an equation for each kind of node.
use Rattle.std.proofs.Common.{◌≡◌, ℕ, ℤ, List, [], ◌∷◌, Bool, Option, refl}
use Rattle.std.specs.Prelude.{pos}
use Rattle.js_pattern_reader.specs.Literal.{Literal}
use Rattle.js_tree.specs.declared.place.Place.{Place}
use Rattle.js_tree.specs.declared.token.Token.{Token}
use Rattle.js_tree.specs.declared.token.TokenKind.TheVariants as token
use Rattle.js_tree.specs.declared.sign.Sign.{Sign as SignName}
use Rattle.js_tree.specs.declared.sign.Sign.TheVariants as sign
use Rattle.js_tree.specs.declared.bound.BoundName.{BoundName}
use Rattle.js_tree.specs.declared.operators.UnaryOp.{UnaryOp}
use Rattle.js_tree.specs.declared.operators.UpdateForm.TheVariants.{Prefix, Postfix}
use Rattle.js_tree.specs.declared.operators.UpdateOp.{UpdateOp}
use Rattle.js_tree.specs.declared.operators.AssignOp.{AssignOp}
use Rattle.js_tree.specs.Tree.{ExpressionTree, Number, Characters, Pattern, True, False, Null, This, Name, Array, Object, Function, Numbered, Suffixed, New, Update, Unary, Chain, Conditional, Assign, Comma, OptionalExpression, absent, present, Expressions, Items, Properties, a_member, an_index, a_call, Suffixes, Operands, FunctionTree, a_function, StatementTree, Block, Empty, Evaluate, Debugger, Var, If, DoWhile, While, For, ForIn, Continue, Break, Return, Throw, Switch, Try, Declare, DeclareNumbered, OptionalStatement, omitted, given, Statements, Declarations, Branches, StartTree, no_start, start_var, start_value, TargetTree, target_value, target_declared, Clauses, CatchTree, no_catch, a_catch}
use Rattle.js_tree.specs.declared.keyword.Keyword.{Keyword}
use Rattle.js_tree.specs.declared.keyword.Keyword.TheVariants as word
use Rattle.js_grammar.specs.Printing.{printed, sign_token, word_token, keyword_token, unary_token, update_token, assign_token, comma_if, parameters_tokens, own_name_tokens, expression_tokens, optional_tokens, expressions_tokens, items_tokens, item_tokens, properties_tokens, suffix_tokens, suffixes_tokens, operands_tokens, function_tokens, statement_tokens, statements_tokens, otherwise_tokens, finally_tokens, first_value_tokens, declarations_tokens, branches_tokens, start_tokens, target_tokens, test_tokens, clauses_tokens, catch_tokens}
use Rattle.js_printer.specs.Written.{written}
use Rattle.js_printer.proofs.Tokens.{written_append}

-- one token more
abbrev plus : List ℕ → Token → List ℕ
plus out t = written out (t ∷ [])

abbrev plus_sign : List ℕ → SignName → List ℕ
plus_sign out s = written out (sign_token s ∷ [])

abbrev plus_word : List ℕ → Keyword → List ℕ
plus_word out k = written out (keyword_token k ∷ [])

abbrev plus_tree : List ℕ → ExpressionTree → List ℕ
plus_tree out e = written out (expression_tokens e)

abbrev plus_statement : List ℕ → StatementTree → List ℕ
plus_statement out s = written out (statement_tokens s)

abbrev round : List ℕ → List ℕ
round out = plus_sign out sign.LeftParenthesis

abbrev end_round : List ℕ → List ℕ
end_round out = plus_sign out sign.RightParenthesis

module _ (out : List ℕ) where
  pub nothing_written : written out [] ≡ out
  unfolding written
  nothing_written = refl

  -- ---- expressions

  pub number_written : (p : Place) (n : ℤ) → plus_tree out (Number p n) ≡ plus out (printed (token.Number n))
  unfolding expression_tokens
  number_written p n = refl

  pub characters_written : (p : Place) (x : List ℕ) → plus_tree out (Characters p x) ≡ plus out (printed (token.Text x))
  unfolding expression_tokens
  characters_written p x = refl

  pub pattern_written : (p : Place) (l : Literal)
      → plus_tree out (Pattern p l) ≡ end_round (plus (round out) (printed (token.Pattern l)))
  unfolding expression_tokens written
  pattern_written p l = refl

  pub true_written : (p : Place) → plus_tree out (True p) ≡ plus_word out word.True
  unfolding expression_tokens
  true_written p = refl

  pub false_written : (p : Place) → plus_tree out (False p) ≡ plus_word out word.False
  unfolding expression_tokens
  false_written p = refl

  pub null_written : (p : Place) → plus_tree out (Null p) ≡ plus_word out word.Null
  unfolding expression_tokens
  null_written p = refl

  pub this_written : (p : Place) → plus_tree out (This p) ≡ plus_word out word.This
  unfolding expression_tokens
  this_written p = refl

  pub name_written : (p : Place) (x : BoundName) → plus_tree out (Name p x) ≡ plus out (word_token x.name)
  unfolding expression_tokens
  name_written p x = refl

  pub array_written : (p : Place) (all : Items) → plus_tree out (Array p all) ≡ plus_sign (written (plus_sign out sign.LeftBracket) (items_tokens all)) sign.RightBracket
  unfolding expression_tokens written
  array_written p all = simp written_append

  pub object_written : (p : Place) (all : Properties) → plus_tree out (Object p all) ≡ end_round (plus_sign (written (plus_sign (round out) sign.LeftBrace) (properties_tokens all)) sign.RightBrace)
  unfolding expression_tokens written
  object_written p all = simp written_append

  pub function_written : (p : Place) (f : FunctionTree) → plus_tree out (Function p f) ≡ end_round (written (written (plus_word (round out) word.Function) (own_name_tokens f)) (function_tokens f))
  unfolding expression_tokens written
  function_written p f = simp written_append

  pub numbered_written : (p : Place) (n : ℕ) → plus_tree out (Numbered p n) ≡ end_round (plus (plus_word (round out) word.Function) (printed (token.Number (pos n))))
  unfolding expression_tokens written
  numbered_written p n = refl

  pub suffixed_written : (p : Place) (e : ExpressionTree) (all : Suffixes) → plus_tree out (Suffixed p e all) ≡ end_round (written (plus_tree (round out) e) (suffixes_tokens all))
  unfolding expression_tokens written
  suffixed_written p e all = simp written_append

  pub new_written : (p : Place) (e : ExpressionTree) (all : Expressions) → plus_tree out (New p e all) ≡ end_round (end_round (written (round (plus_tree (plus_word (round out) word.New) e)) (expressions_tokens all)))
  unfolding expression_tokens written
  new_written p e all = simp written_append

  pub prefix_written : (p : Place) (op : UpdateOp) (e : ExpressionTree) → plus_tree out (Update p Prefix op e) ≡ end_round (plus_tree (plus (round out) (update_token op)) e)
  unfolding expression_tokens written
  prefix_written p op e = simp written_append

  pub postfix_written : (p : Place) (op : UpdateOp) (e : ExpressionTree) → plus_tree out (Update p Postfix op e) ≡ end_round (plus (plus_tree (round out) e) (update_token op))
  unfolding expression_tokens written
  postfix_written p op e = simp written_append

  pub unary_written : (p : Place) (op : UnaryOp) (e : ExpressionTree) → plus_tree out (Unary p op e) ≡ end_round (plus_tree (plus (round out) (unary_token op)) e)
  unfolding expression_tokens written
  unary_written p op e = simp written_append

  pub chain_written : (p : Place) (e : ExpressionTree) (all : Operands) → plus_tree out (Chain p e all) ≡ end_round (written (plus_tree (round out) e) (operands_tokens all))
  unfolding expression_tokens written
  chain_written p e all = simp written_append

  pub conditional_written : (p : Place) (c a b : ExpressionTree) → plus_tree out (Conditional p c a b) ≡ end_round (plus_tree (plus_sign (plus_tree (plus_sign (plus_tree (round out) c) sign.Question) a) sign.Colon) b)
  unfolding expression_tokens written
  conditional_written p c a b = simp written_append

  pub assign_written : (p : Place) (e : ExpressionTree) (op : AssignOp) (v : ExpressionTree) → plus_tree out (Assign p e op v) ≡ end_round (plus_tree (plus (plus_tree (round out) e) (assign_token op)) v)
  unfolding expression_tokens written
  assign_written p e op v = simp written_append

  pub comma_written : (p : Place) (all : Expressions) → plus_tree out (Comma p all) ≡ end_round (written (round out) (expressions_tokens all))
  unfolding expression_tokens written
  comma_written p all = simp written_append

  pub absent_written : written out (optional_tokens absent) ≡ out
  unfolding expression_tokens written
  absent_written = refl

  pub present_written : (e : ExpressionTree) → written out (optional_tokens (present e)) ≡ plus_tree out e
  unfolding expression_tokens written
  present_written e = refl

  pub hole_written : (more : Bool) → written out (item_tokens absent more) ≡ plus_sign out sign.Comma
  unfolding expression_tokens written
  hole_written more = refl

  pub item_written : (e : ExpressionTree) (more : Bool) → written out (item_tokens (present e) more) ≡ written (plus_tree out e) (comma_if more)
  unfolding expression_tokens written
  item_written e more = simp written_append

  pub member_written : (p : Place) (x : List ℕ) → written out (suffix_tokens (a_member p x)) ≡ plus (plus_sign out sign.Dot) (word_token x)
  unfolding expression_tokens written
  member_written p x = refl

  pub index_written : (p : Place) (e : ExpressionTree) → written out (suffix_tokens (an_index p e)) ≡ plus_sign (plus_tree (plus_sign out sign.LeftBracket) e) sign.RightBracket
  unfolding expression_tokens written
  index_written p e = simp written_append

  pub call_written : (p : Place) (all : Expressions) → written out (suffix_tokens (a_call p all)) ≡ end_round (written (round out) (expressions_tokens all))
  unfolding expression_tokens written
  call_written p all = simp written_append

  pub whole_function_written : (own : Option BoundName) (parameters : List BoundName) (names : List (List ℕ)) (body : Statements) → written out (function_tokens (a_function own parameters names body)) ≡ plus_sign (written (plus_sign (end_round (written (round out) (parameters_tokens parameters))) sign.LeftBrace) (statements_tokens body)) sign.RightBrace
  unfolding expression_tokens written
  whole_function_written own parameters names body = simp written_append

  -- ---- statements

  pub block_written : (p : Place) (all : Statements) → plus_statement out (Block p all) ≡ plus_sign (written (plus_sign out sign.LeftBrace) (statements_tokens all)) sign.RightBrace
  unfolding expression_tokens written
  block_written p all = simp written_append

  pub empty_written : (p : Place) → plus_statement out (Empty p) ≡ plus_sign out sign.Semicolon
  unfolding expression_tokens written
  empty_written p = refl

  pub evaluate_written : (p : Place) (e : ExpressionTree) → plus_statement out (Evaluate p e) ≡ plus_sign (plus_tree out e) sign.Semicolon
  unfolding expression_tokens written
  evaluate_written p e = simp written_append

  pub debugger_written : (p : Place) → plus_statement out (Debugger p) ≡ plus_sign (plus_word out word.Debugger) sign.Semicolon
  unfolding expression_tokens written
  debugger_written p = refl

  pub var_written : (p : Place) (all : Declarations) → plus_statement out (Var p all) ≡ plus_sign (written (plus_word out word.Var) (declarations_tokens all)) sign.Semicolon
  unfolding expression_tokens written
  var_written p all = simp written_append

  pub if_written : (p : Place) (all : Branches) (o : OptionalStatement) → plus_statement out (If p all o) ≡ written (written out (branches_tokens all)) (otherwise_tokens o)
  unfolding expression_tokens written
  if_written p all o = simp written_append

  pub do_while_written : (p : Place) (s : StatementTree) (c : ExpressionTree) → plus_statement out (DoWhile p s c) ≡ plus_sign (end_round (plus_tree (round (plus_word (plus_statement (plus_word out word.Do) s) word.While)) c)) sign.Semicolon
  unfolding expression_tokens written
  do_while_written p s c = simp written_append

  pub while_written : (p : Place) (c : ExpressionTree) (s : StatementTree) → plus_statement out (While p c s) ≡ plus_statement (end_round (plus_tree (round (plus_word out word.While)) c)) s
  unfolding expression_tokens written
  while_written p c s = simp written_append

  pub for_written : (p : Place) (a : StartTree) (c e : OptionalExpression) (s : StatementTree) → plus_statement out (For p a c e s) ≡ plus_statement (end_round (written (plus_sign (written (plus_sign (written (round (plus_word out word.For)) (start_tokens a)) sign.Semicolon) (optional_tokens c)) sign.Semicolon) (optional_tokens e))) s
  unfolding expression_tokens written
  for_written p a c e s = simp written_append

  pub for_in_written : (p : Place) (target : TargetTree) (e : ExpressionTree) (s : StatementTree) → plus_statement out (ForIn p target e s) ≡ plus_statement (end_round (plus_tree (plus_word (written (round (plus_word out word.For)) (target_tokens target)) word.In) e)) s
  unfolding expression_tokens written
  for_in_written p target e s = simp written_append

  pub continue_written : (p : Place) → plus_statement out (Continue p) ≡ plus_sign (plus_word out word.Continue) sign.Semicolon
  unfolding expression_tokens written
  continue_written p = refl

  pub break_written : (p : Place) → plus_statement out (Break p) ≡ plus_sign (plus_word out word.Break) sign.Semicolon
  unfolding expression_tokens written
  break_written p = refl

  pub return_written : (p : Place) (o : OptionalExpression) → plus_statement out (Return p o) ≡ plus_sign (written (plus_word out word.Return) (optional_tokens o)) sign.Semicolon
  unfolding expression_tokens written
  return_written p o = simp written_append

  pub throw_written : (p : Place) (e : ExpressionTree) → plus_statement out (Throw p e) ≡ plus_sign (plus_tree (plus_word out word.Throw) e) sign.Semicolon
  unfolding expression_tokens written
  throw_written p e = simp written_append

  pub switch_written : (p : Place) (e : ExpressionTree) (all : Clauses) → plus_statement out (Switch p e all) ≡ plus_sign (written (plus_sign (end_round (plus_tree (round (plus_word out word.Switch)) e)) sign.LeftBrace) (clauses_tokens all)) sign.RightBrace
  unfolding expression_tokens written
  switch_written p e all = simp written_append

  pub try_written : (p : Place) (s : StatementTree) (c : CatchTree) (f : OptionalStatement) → plus_statement out (Try p s c f) ≡ written (written (plus_statement (plus_word out word.Try) s) (catch_tokens c)) (finally_tokens f)
  unfolding expression_tokens written
  try_written p s c f = simp written_append

  pub declare_written : (p : Place) (x : BoundName) (f : FunctionTree) → plus_statement out (Declare p x f) ≡ written (plus (plus_word out word.Function) (word_token x.name)) (function_tokens f)
  unfolding expression_tokens written
  declare_written p x f = refl

  pub declare_numbered_written : (p : Place) (x : BoundName) (n : ℕ) → plus_statement out (DeclareNumbered p x n) ≡ plus (plus (plus_word out word.Function) (word_token x.name)) (printed (token.Number (pos n)))
  unfolding expression_tokens written
  declare_numbered_written p x n = refl

  -- ---- parts of statements

  pub no_else_written : written out (otherwise_tokens omitted) ≡ out
  unfolding expression_tokens written
  no_else_written = refl

  pub else_written : (s : StatementTree) → written out (otherwise_tokens (given s)) ≡ plus_statement (plus_word out word.Else) s
  unfolding expression_tokens written
  else_written s = refl

  pub no_finally_written : written out (finally_tokens omitted) ≡ out
  unfolding expression_tokens written
  no_finally_written = refl

  pub finally_written : (s : StatementTree) → written out (finally_tokens (given s)) ≡ plus_statement (plus_word out word.Finally) s
  unfolding expression_tokens written
  finally_written s = refl

  pub no_value_written : written out (first_value_tokens absent) ≡ out
  unfolding expression_tokens written
  no_value_written = refl

  pub value_written : (e : ExpressionTree) → written out (first_value_tokens (present e)) ≡ plus_tree (plus_sign out sign.Assign) e
  unfolding expression_tokens written
  value_written e = refl

  pub no_start_written : written out (start_tokens no_start) ≡ out
  unfolding expression_tokens written
  no_start_written = refl

  pub start_var_written : (p : Place) (all : Declarations) → written out (start_tokens (start_var p all)) ≡ written (plus_word out word.Var) (declarations_tokens all)
  unfolding expression_tokens written
  start_var_written p all = refl

  pub start_value_written : (e : ExpressionTree) → written out (start_tokens (start_value e)) ≡ plus_tree out e
  unfolding expression_tokens written
  start_value_written e = refl

  pub target_value_written : (e : ExpressionTree) → written out (target_tokens (target_value e)) ≡ plus_tree out e
  unfolding expression_tokens written
  target_value_written e = refl

  pub target_declared_written : (x : BoundName) (o : OptionalExpression) → written out (target_tokens (target_declared x o)) ≡ written (plus (plus_word out word.Var) (word_token x.name)) (first_value_tokens o)
  unfolding expression_tokens written
  target_declared_written x o = refl

  pub default_written : written out (test_tokens absent) ≡ plus_sign (plus_word out word.Default) sign.Colon
  unfolding expression_tokens written
  default_written = refl

  pub case_written : (e : ExpressionTree) → written out (test_tokens (present e)) ≡ plus_sign (plus_tree (plus_word out word.Case) e) sign.Colon
  unfolding expression_tokens written
  case_written e = simp written_append

  pub no_catch_written : written out (catch_tokens no_catch) ≡ out
  unfolding expression_tokens written
  no_catch_written = refl

  pub catch_written : (x : BoundName) (s : StatementTree) → written out (catch_tokens (a_catch x s)) ≡ plus_statement (end_round (plus (round (plus_word out word.Catch)) (word_token x.name))) s
  unfolding expression_tokens written
  catch_written x s = simp written_append

pub ruleset nodes = (nothing_written, number_written, characters_written, pattern_written, true_written, false_written, null_written, this_written, name_written, array_written, object_written, function_written, numbered_written, suffixed_written, new_written, prefix_written, postfix_written, unary_written, chain_written, conditional_written, assign_written, comma_written, absent_written, present_written, hole_written, item_written, member_written, index_written, call_written, whole_function_written, block_written, empty_written, evaluate_written, debugger_written, var_written, if_written, do_while_written, while_written, for_written, for_in_written, continue_written, break_written, return_written, throw_written, switch_written, try_written, declare_written, declare_numbered_written, no_else_written, else_written, no_finally_written, finally_written, no_value_written, value_written, no_start_written, start_var_written, start_value_written, target_value_written, target_declared_written, default_written, case_written, no_catch_written, catch_written)
