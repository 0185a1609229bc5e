-- In the printed tokens of a readable tree each slash divides that begins no pattern literal.
use Rattle.std.proofs.Common.{ℕ, List, [], ◌∷◌, ◌++◌, Some, None, Bool, true, false, refl}
use Rattle.js_tree.specs.declared.token.Token.{Token}
use Rattle.js_tree.specs.declared.token.TokenKind.TheVariants as token
use Rattle.js_tree.specs.declared.sign.Sign.TheVariants as sign
use Rattle.js_tree.specs.declared.bound.BoundName.{BoundName}
use Rattle.js_tree.specs.declared.operators.UpdateForm.TheVariants.{Prefix, Postfix}
use Rattle.js_tree.specs.Tree.{ExpressionTree, Number, Characters, Pattern, True, False, Null, This, Name, Array, Object, Function, Numbered, Suffixed, New, Update, Unary, Chain, Conditional, Assign, Comma, OptionalExpression, absent, present, Expressions, no_expression, an_expression, Items, no_item, an_item, Properties, no_property, a_property, SuffixTree, a_member, an_index, a_call, Suffixes, no_suffix, a_suffix, Operands, no_operand, an_operand, FunctionTree, a_function, StatementTree, Block, Empty, Evaluate, Debugger, Var, If, DoWhile, While, For, ForIn, Continue, Break, Return, Throw, Switch, Try, Declare, DeclareNumbered, OptionalStatement, omitted, given, Statements, no_statement, a_statement, Declarations, no_declared, a_declared, Branches, no_branch, a_branch, StartTree, no_start, start_var, start_value, TargetTree, target_value, target_declared, Clauses, no_clause, a_clause, CatchTree, no_catch, a_catch}
use Rattle.js_grammar.specs.declared.around.Around.{Around}
use Rattle.js_grammar.specs.Expressions.{in_function}
use Rattle.js_grammar.specs.Statements.{inside, in_loop, in_switch}
use Rattle.js_grammar.specs.Printing.{else_if, more_names, more_expressions, more_items, more_properties, more_declared, more_branches, parameters_tokens, own_name_tokens, expression_tokens, optional_tokens, expressions_tokens, items_tokens, properties_tokens, suffix_tokens, suffixes_tokens, operands_tokens, function_tokens, statement_tokens, statements_tokens, otherwise_tokens, finally_tokens, first_value_tokens, declarations_tokens, branches_tokens, start_tokens, target_tokens, clauses_tokens, catch_tokens}
use Rattle.js_law_readable.specs.Readable.{IsExpression, IsOptional, AreExpressions, AreItems, AreProperties, IsSuffix, AreSuffixes, AreOperands, IsFunction, IsStatement, AreStatements, IsOtherwise, IsFinally, AreDeclared, AreBranches, IsStart, IsTarget, AreClauses, IsCatch, is_given}
use Rattle.js_law_spelling.proofs.Standing.{StandAnywhere, StandBehindValue, none_stand, token_stands, text_stands, sign_stands, word_stands, rows_stand, value_stands, round_stand, square_stand, braces_stand, semicolon_stands, comma_stands, comma_alone, pattern_stands}
use Rattle.js_law_spelling.proofs.Values.{expression_value, unary_stands, update_stands, binary_stands, assign_stands}

-- ---- names

parameters_stand : (xs : List BoundName) → StandAnywhere (parameters_tokens xs)
parameters_stand [] = none_stand
parameters_stand (x ∷ xs) = word_stands (comma_stands (more_names xs) (parameters_stand xs))

own_name_stands : (f : FunctionTree) → StandAnywhere (own_name_tokens f)
own_name_stands (a_function None parameters names body) = none_stand
own_name_stands (a_function (Some x) parameters names body) = word_stands none_stand

-- `else`, where branches follow
else_stands : {ts : List Token} (b : Bool) → StandAnywhere ts → StandAnywhere (else_if b ++ ts)
else_stands true h = word_stands h
else_stands false h = h

mutual
  unfolding expression_tokens

  expression_stands : (e : ExpressionTree) → IsExpression e → StandAnywhere (expression_tokens e)
  expression_stands (Number p n) is = token_stands (token.Number n) refl refl none_stand
  expression_stands (Characters p x) is = text_stands none_stand
  expression_stands (Pattern p l) is = pattern_stands l
  expression_stands (True p) is = word_stands none_stand
  expression_stands (False p) is = word_stands none_stand
  expression_stands (Null p) is = word_stands none_stand
  expression_stands (This p) is = word_stands none_stand
  expression_stands (Name p x) is = word_stands none_stand
  expression_stands (Array p all) is = square_stand (items_stand all is)
  expression_stands (Object p all) is = round_stand (braces_stand (properties_stand all is))
  expression_stands (Function p f) is = round_stand (word_stands (rows_stand (own_name_stands f) (function_stands f is)))
  expression_stands (Numbered p n) is = absurd is
  expression_stands (Suffixed p e all) is = round_stand (rows_stand (expression_stands e is.0) (suffixes_stand all is.2))
  expression_stands (New p e all) is = round_stand (word_stands (rows_stand (expression_stands e is.0) (round_stand (expressions_stand all is.1))))
  expression_stands (Update p Prefix op e) is = round_stand (update_stands op (expression_stands e is.1))
  expression_stands (Update p Postfix op e) is = round_stand (rows_stand (expression_stands e is.1) (update_stands op none_stand))
  expression_stands (Unary p op e) is = round_stand (unary_stands op (expression_stands e is))
  expression_stands (Chain p e all) is = round_stand (value_stands (expression_stands e is.0) (expression_value e is.0) (operands_stand is.2.0 all is.2.2))
  expression_stands (Conditional p c a b) is = round_stand (rows_stand (expression_stands c is.0) (sign_stands sign.Question refl (rows_stand (expression_stands a is.1) (sign_stands sign.Colon refl (expression_stands b is.2)))))
  expression_stands (Assign p e op v) is = round_stand (value_stands (expression_stands e is.1) (expression_value e is.1) (assign_stands op (expression_stands v is.2)))
  expression_stands (Comma p all) is = round_stand (expressions_stand all is.1)

  optional_stands : (o : OptionalExpression) → IsOptional o → StandAnywhere (optional_tokens o)
  optional_stands absent is = none_stand
  optional_stands (present e) is = expression_stands e is

  expressions_stand : (es : Expressions) → AreExpressions es → StandAnywhere (expressions_tokens es)
  expressions_stand no_expression is = none_stand
  expressions_stand (an_expression e es) is = rows_stand (expression_stands e is.0) (comma_stands (more_expressions es) (expressions_stand es is.1))

  items_stand : (os : Items) → AreItems os → StandAnywhere (items_tokens os)
  items_stand no_item is = none_stand
  items_stand (an_item absent os) is = sign_stands sign.Comma refl (items_stand os is.1)
  items_stand (an_item (present e) os) is = rows_stand (rows_stand (expression_stands e is.0) (comma_alone (more_items os))) (items_stand os is.1)

  properties_stand : (ps : Properties) → AreProperties ps → StandAnywhere (properties_tokens ps)
  properties_stand no_property is = none_stand
  properties_stand (a_property x e ps) is = text_stands (sign_stands sign.Colon refl (rows_stand (expression_stands e is.0) (comma_stands (more_properties ps) (properties_stand ps is.1))))

  suffix_stands : (s : SuffixTree) → IsSuffix s → StandAnywhere (suffix_tokens s)
  suffix_stands (a_member p x) is = sign_stands sign.Dot refl (word_stands none_stand)
  suffix_stands (an_index p e) is = square_stand (expression_stands e is)
  suffix_stands (a_call p es) is = round_stand (expressions_stand es is)

  suffixes_stand : (ss : Suffixes) → AreSuffixes ss → StandAnywhere (suffixes_tokens ss)
  suffixes_stand no_suffix is = none_stand
  suffixes_stand (a_suffix s ss) is = rows_stand (suffix_stands s is.0) (suffixes_stand ss is.1)

  operands_stand : (k : ℕ) (os : Operands) → AreOperands k os → StandBehindValue (operands_tokens os)
  operands_stand k no_operand is = record { stand = λ dot. tt }
  operands_stand k (an_operand p op e os) is = binary_stands op (value_stands (expression_stands e is.1) (expression_value e is.1) (operands_stand k os is.2))

  function_stands : (f : FunctionTree) → IsFunction f → StandAnywhere (function_tokens f)
  function_stands (a_function own parameters names body) is = rows_stand (round_stand (parameters_stand parameters)) (braces_stand (statements_stand in_function body is.3))

  pub statement_stands : (a : Around) (s : StatementTree) → IsStatement a s → StandAnywhere (statement_tokens s)
  statement_stands a (Block p ss) is = braces_stand (statements_stand (inside a) ss is)
  statement_stands a (Empty p) is = sign_stands sign.Semicolon refl none_stand
  statement_stands a (Evaluate p e) is = semicolon_stands (expression_stands e is)
  statement_stands a (Debugger p) is = word_stands (sign_stands sign.Semicolon refl none_stand)
  statement_stands a (Var p ds) is = word_stands (semicolon_stands (declarations_stand ds is.1))
  statement_stands a (If p bs s) is = rows_stand (branches_stand a (is_given s) bs is.1) (otherwise_stands a s is.2)
  statement_stands a (DoWhile p s c) is = word_stands (rows_stand (statement_stands (in_loop a) s is.0) (word_stands (semicolon_stands (round_stand (expression_stands c is.1)))))
  statement_stands a (While p c s) is = word_stands (rows_stand (round_stand (expression_stands c is.0)) (statement_stands (in_loop a) s is.1))
  statement_stands a (For p b c e s) is = word_stands (rows_stand (round_stand (rows_stand (start_stands b is.0) (sign_stands sign.Semicolon refl (rows_stand (optional_stands c is.1) (sign_stands sign.Semicolon refl (optional_stands e is.2)))))) (statement_stands (in_loop a) s is.3))
  statement_stands a (ForIn p t e s) is = word_stands (rows_stand (round_stand (rows_stand (target_stands t is.0) (word_stands (expression_stands e is.1)))) (statement_stands (in_loop a) s is.2))
  statement_stands a (Continue p) is = word_stands (sign_stands sign.Semicolon refl none_stand)
  statement_stands a (Break p) is = word_stands (sign_stands sign.Semicolon refl none_stand)
  statement_stands a (Return p o) is = word_stands (semicolon_stands (optional_stands o is.1))
  statement_stands a (Throw p e) is = word_stands (semicolon_stands (expression_stands e is))
  statement_stands a (Switch p e cs) is = word_stands (rows_stand (round_stand (expression_stands e is.0)) (braces_stand (clauses_stand (in_switch a) _ cs is.1)))
  statement_stands a (Try p s c f) is = word_stands (rows_stand (statement_stands (inside a) s is.2) (rows_stand (catch_stands a c is.3) (finally_stands a f is.4)))
  statement_stands a (Declare p x f) is = word_stands (word_stands (function_stands f is.3))
  statement_stands a (DeclareNumbered p x n) is = absurd is

  statements_stand : (a : Around) (ss : Statements) → AreStatements a ss → StandAnywhere (statements_tokens ss)
  statements_stand a no_statement is = none_stand
  statements_stand a (a_statement s ss) is = rows_stand (statement_stands a s is.0) (statements_stand a ss is.1)

  otherwise_stands : (a : Around) (s : OptionalStatement) → IsOtherwise a s → StandAnywhere (otherwise_tokens s)
  otherwise_stands a omitted is = none_stand
  otherwise_stands a (given s) is = word_stands (statement_stands (inside a) s is.1)

  finally_stands : (a : Around) (s : OptionalStatement) → IsFinally a s → StandAnywhere (finally_tokens s)
  finally_stands a omitted is = none_stand
  finally_stands a (given s) is = word_stands (statement_stands (inside a) s is.1)

  first_value_stands : (o : OptionalExpression) → IsOptional o → StandAnywhere (first_value_tokens o)
  first_value_stands absent is = none_stand
  first_value_stands (present e) is = sign_stands sign.Assign refl (expression_stands e is)

  declarations_stand : (ds : Declarations) → AreDeclared ds → StandAnywhere (declarations_tokens ds)
  declarations_stand no_declared is = none_stand
  declarations_stand (a_declared x o ds) is = word_stands (rows_stand (first_value_stands o is.1) (comma_stands (more_declared ds) (declarations_stand ds is.2)))

  branches_stand : (a : Around) (last : Bool) (bs : Branches) → AreBranches a last bs → StandAnywhere (branches_tokens bs)
  branches_stand a last no_branch is = none_stand
  branches_stand a last (a_branch c s bs) is = word_stands (rows_stand (round_stand (expression_stands c is.0)) (rows_stand (statement_stands (inside a) s is.1) (else_stands (more_branches bs) (branches_stand a last bs is.3))))

  start_stands : (s : StartTree) → IsStart s → StandAnywhere (start_tokens s)
  start_stands no_start is = none_stand
  start_stands (start_var p ds) is = word_stands (declarations_stand ds is.1)
  start_stands (start_value e) is = expression_stands e is

  target_stands : (t : TargetTree) → IsTarget t → StandAnywhere (target_tokens t)
  target_stands (target_value e) is = expression_stands e is.1
  target_stands (target_declared x o) is = word_stands (word_stands (first_value_stands o is.1))

  clauses_stand : (a : Around) (before : Bool) (cs : Clauses) → AreClauses a before cs → StandAnywhere (clauses_tokens cs)
  clauses_stand a before no_clause is = none_stand
  clauses_stand a before (a_clause absent ss cs) is = word_stands (sign_stands sign.Colon refl (rows_stand (statements_stand a ss is.1) (clauses_stand a _ cs is.2)))
  clauses_stand a before (a_clause (present e) ss cs) is = word_stands (rows_stand (rows_stand (expression_stands e is.0) (sign_stands sign.Colon refl none_stand)) (rows_stand (statements_stand a ss is.1) (clauses_stand a before cs is.2)))

  catch_stands : (a : Around) (c : CatchTree) → IsCatch a c → StandAnywhere (catch_tokens c)
  catch_stands a no_catch is = none_stand
  catch_stands a (a_catch x s) is = word_stands (rows_stand (round_stand (word_stands none_stand)) (statement_stands (inside a) s is.2))
