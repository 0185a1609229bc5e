-- In a script that was read no declared function has a name of its own.
use Rattle.std.proofs.Common.{◌≡◌, ℕ, Bool, true, false, List, [], None}
use Rattle.js_tree.specs.Tree.{ExpressionTree, Number, Characters, Pattern, True, False, Null, This, Name, Array, Object, Function, Numbered, Suffixed, New, Update, Unary, Chain, Conditional, Assign, Comma, OptionalExpression, absent, present, Expressions, no_expression, an_expression, Items, no_item, an_item, Properties, no_property, a_property, SuffixTree, a_member, an_index, a_call, Suffixes, no_suffix, a_suffix, Operands, no_operand, an_operand, FunctionTree, a_function, StatementTree, Block, Empty, Evaluate, Debugger, Var, If, DoWhile, While, For, ForIn, Continue, Break, Return, Throw, Switch, Try, Declare, DeclareNumbered, OptionalStatement, omitted, given, Statements, no_statement, a_statement, Declarations, no_declared, a_declared, Branches, no_branch, a_branch, StartTree, no_start, start_var, start_value, TargetTree, target_value, target_declared, Clauses, no_clause, a_clause, CatchTree, no_catch, a_catch}
use Rattle.js_tree.specs.Tree.{statements_of}
use Rattle.js_grammar.specs.declared.around.Around.{Around}
use Rattle.js_grammar.specs.Expressions.{in_function}
use Rattle.js_grammar.specs.Statements.{inside, in_loop, in_switch, at_top}
use Rattle.js_binding.specs.Scopes.{Scope}
use Rattle.js_binding.specs.Resolved.{around_function, in_body, in_handler}
use Rattle.js_law_readable.specs.Readable.{IsExpression, IsOptional, AreExpressions, AreItems, AreProperties, IsSuffix, AreSuffixes, AreOperands, IsFunction, IsAnonymous, is_given, IsStatement, IsOtherwise, IsFinally, AreStatements, AreDeclared, AreBranches, IsStart, IsTarget, AreClauses, IsCatch}
use Rattle.js_law_readable.proofs.ReadScripts.{texts_law}
use Rattle.js_law_right.specs.Anonymous.{own_name, anonymous}
use Rattle.js_law_right.specs.EachIn.{EachInExpression, EachInOptional, EachInExpressions, EachInItems, EachInProperties, EachInSuffix, EachInSuffixes, EachInOperands, EachInFunction, EachInStatement, EachInOtherwise, EachInStatements, EachInDeclarations, EachInBranches, EachInStart, EachInTarget, EachInClauses, EachInHandler}
use Rattle.js_law_read.specs.Laws.{ReadsAreAnonymous}

no_name : (f : FunctionTree) → IsAnonymous f → own_name f ≡ None
no_name (a_function own parameters names body) h = h

mutual
  expression_plain : (scopes : List Scope) (e : ExpressionTree) → IsExpression e → EachInExpression anonymous scopes e
  expression_plain scopes (Number p n) h = tt
  expression_plain scopes (Characters p x) h = tt
  expression_plain scopes (Pattern p l) h = tt
  expression_plain scopes (True p) h = tt
  expression_plain scopes (False p) h = tt
  expression_plain scopes (Null p) h = tt
  expression_plain scopes (This p) h = tt
  expression_plain scopes (Name p x) h = tt
  expression_plain scopes (Array p all) h = items_plain scopes all h
  expression_plain scopes (Object p all) h = properties_plain scopes all h
  expression_plain scopes (Function p f) h = (tt, function_plain scopes f h)
  expression_plain scopes (Numbered p n) h = absurd h
  expression_plain scopes (Suffixed p e all) h = (expression_plain scopes e h.0, suffixes_plain scopes all h.2)
  expression_plain scopes (New p e all) h = (expression_plain scopes e h.0, expressions_plain scopes all h.1)
  expression_plain scopes (Update p form op e) h = expression_plain scopes e h.1
  expression_plain scopes (Unary p op e) h = expression_plain scopes e h
  expression_plain scopes (Chain p e all) h = (expression_plain scopes e h.0, operands_plain scopes h.2.0 all h.2.2)
  expression_plain scopes (Conditional p e a b) h = (expression_plain scopes e h.0, expression_plain scopes a h.1, expression_plain scopes b h.2)
  expression_plain scopes (Assign p e op v) h = (expression_plain scopes e h.1, expression_plain scopes v h.2)
  expression_plain scopes (Comma p all) h = expressions_plain scopes all h.1

  optional_plain : (scopes : List Scope) (o : OptionalExpression) → IsOptional o → EachInOptional anonymous scopes o
  optional_plain scopes absent h = tt
  optional_plain scopes (present e) h = expression_plain scopes e h

  expressions_plain : (scopes : List Scope) (es : Expressions) → AreExpressions es → EachInExpressions anonymous scopes es
  expressions_plain scopes no_expression h = tt
  expressions_plain scopes (an_expression e es) h = (expression_plain scopes e h.0, expressions_plain scopes es h.1)

  items_plain : (scopes : List Scope) (os : Items) → AreItems os → EachInItems anonymous scopes os
  items_plain scopes no_item h = tt
  items_plain scopes (an_item o os) h = (optional_plain scopes o h.0, items_plain scopes os h.1)

  properties_plain : (scopes : List Scope) (ps : Properties) → AreProperties ps → EachInProperties anonymous scopes ps
  properties_plain scopes no_property h = tt
  properties_plain scopes (a_property x e ps) h = (expression_plain scopes e h.0, properties_plain scopes ps h.1)

  suffix_plain : (scopes : List Scope) (s : SuffixTree) → IsSuffix s → EachInSuffix anonymous scopes s
  suffix_plain scopes (a_member p x) h = tt
  suffix_plain scopes (an_index p e) h = expression_plain scopes e h
  suffix_plain scopes (a_call p es) h = expressions_plain scopes es h

  suffixes_plain : (scopes : List Scope) (ss : Suffixes) → AreSuffixes ss → EachInSuffixes anonymous scopes ss
  suffixes_plain scopes no_suffix h = tt
  suffixes_plain scopes (a_suffix s ss) h = (suffix_plain scopes s h.0, suffixes_plain scopes ss h.1)

  operands_plain : (scopes : List Scope) (k : ℕ) (os : Operands) → AreOperands k os → EachInOperands anonymous scopes os
  operands_plain scopes k no_operand h = tt
  operands_plain scopes k (an_operand p op e os) h = (expression_plain scopes e h.1, operands_plain scopes k os h.2)

  function_plain : (scopes : List Scope) (f : FunctionTree) → IsFunction f → EachInFunction anonymous scopes f
  function_plain scopes (a_function own parameters names body) h = statements_plain (in_body (around_function scopes own) parameters body) in_function body h.3

  statement_plain : (scopes : List Scope) (a : Around) (s : StatementTree) → IsStatement a s → EachInStatement anonymous scopes s
  statement_plain scopes a (Block p ss) h = statements_plain scopes (inside a) ss h
  statement_plain scopes a (Empty p) h = tt
  statement_plain scopes a (Evaluate p e) h = expression_plain scopes e h
  statement_plain scopes a (Debugger p) h = tt
  statement_plain scopes a (Var p ds) h = declarations_plain scopes ds h.1
  statement_plain scopes a (If p bs o) h = (branches_plain scopes a (is_given o) bs h.1, otherwise_plain scopes a o h.2)
  statement_plain scopes a (DoWhile p s e) h = (statement_plain scopes (in_loop a) s h.0, expression_plain scopes e h.1)
  statement_plain scopes a (While p e s) h = (expression_plain scopes e h.0, statement_plain scopes (in_loop a) s h.1)
  statement_plain scopes a (For p b e d s) h = (start_plain scopes b h.0, optional_plain scopes e h.1, optional_plain scopes d h.2, statement_plain scopes (in_loop a) s h.3)
  statement_plain scopes a (ForIn p t e s) h = (target_plain scopes t h.0, expression_plain scopes e h.1, statement_plain scopes (in_loop a) s h.2)
  statement_plain scopes a (Continue p) h = tt
  statement_plain scopes a (Break p) h = tt
  statement_plain scopes a (Return p o) h = optional_plain scopes o h.1
  statement_plain scopes a (Throw p e) h = expression_plain scopes e h
  statement_plain scopes a (Switch p e cs) h = (expression_plain scopes e h.0, clauses_plain scopes (in_switch a) true cs h.1)
  statement_plain scopes a (Try p s c o) h = (statement_plain scopes (inside a) s h.2, handler_plain scopes a c h.3, finally_plain scopes a o h.4)
  statement_plain scopes a (Declare p x f) h = (tt, no_name f h.2, function_plain scopes f h.3)
  statement_plain scopes a (DeclareNumbered p x n) h = absurd h

  otherwise_plain : (scopes : List Scope) (a : Around) (o : OptionalStatement) → IsOtherwise a o → EachInOtherwise anonymous scopes o
  otherwise_plain scopes a omitted h = tt
  otherwise_plain scopes a (given s) h = statement_plain scopes (inside a) s h.1

  finally_plain : (scopes : List Scope) (a : Around) (o : OptionalStatement) → IsFinally a o → EachInOtherwise anonymous scopes o
  finally_plain scopes a omitted h = tt
  finally_plain scopes a (given s) h = statement_plain scopes (inside a) s h.1

  statements_plain : (scopes : List Scope) (a : Around) (ss : Statements) → AreStatements a ss → EachInStatements anonymous scopes ss
  statements_plain scopes a no_statement h = tt
  statements_plain scopes a (a_statement s ss) h = (statement_plain scopes a s h.0, statements_plain scopes a ss h.1)

  declarations_plain : (scopes : List Scope) (ds : Declarations) → AreDeclared ds → EachInDeclarations anonymous scopes ds
  declarations_plain scopes no_declared h = tt
  declarations_plain scopes (a_declared x o ds) h = (tt, optional_plain scopes o h.1, declarations_plain scopes ds h.2)

  branches_plain : (scopes : List Scope) (a : Around) (last : Bool) (bs : Branches) → AreBranches a last bs → EachInBranches anonymous scopes bs
  branches_plain scopes a last no_branch h = tt
  branches_plain scopes a last (a_branch e s bs) h = (expression_plain scopes e h.0, statement_plain scopes (inside a) s h.1, branches_plain scopes a last bs h.3)

  start_plain : (scopes : List Scope) (b : StartTree) → IsStart b → EachInStart anonymous scopes b
  start_plain scopes no_start h = tt
  start_plain scopes (start_var p ds) h = declarations_plain scopes ds h.1
  start_plain scopes (start_value e) h = expression_plain scopes e h

  target_plain : (scopes : List Scope) (t : TargetTree) → IsTarget t → EachInTarget anonymous scopes t
  target_plain scopes (target_value e) h = expression_plain scopes e h.1
  target_plain scopes (target_declared x o) h = (tt, optional_plain scopes o h.1)

  clauses_plain : (scopes : List Scope) (a : Around) (before : Bool) (cs : Clauses) → AreClauses a before cs → EachInClauses anonymous scopes cs
  clauses_plain scopes a before no_clause h = tt
  clauses_plain scopes a before (a_clause absent ss cs) h = (tt, statements_plain scopes a ss h.1, clauses_plain scopes a false cs h.2)
  clauses_plain scopes a before (a_clause (present e) ss cs) h = (expression_plain scopes e h.0, statements_plain scopes a ss h.1, clauses_plain scopes a before cs h.2)

  handler_plain : (scopes : List Scope) (a : Around) (c : CatchTree) → IsCatch a c → EachInHandler anonymous scopes c
  handler_plain scopes a no_catch h = tt
  handler_plain scopes a (a_catch x s) h = (tt, statement_plain (in_handler scopes x) (inside a) s h.2)

pub reads_anonymous : ReadsAreAnonymous
reads_anonymous us script read = statements_plain [] at_top (statements_of script) (texts_law us script read)
