-- Written by tools/write_tree.py from Tree.antt: change that file, and run the script.
-- A program without the places of its names and the names of its functions' scopes: each name is as it was read.
use Rattle.std.specs.Prelude.{List, [], map, option_map}
use Rattle.js_binding.specs.Source.{unbound}
use Rattle.js_tree.specs.Tree.{ExpressionTree, Number, Characters, Pattern, True, False, Null, This, Name, Array, Object, Function, Numbered, Suffixed, New, Update, Unary, Chain, Conditional, Assign, Comma, OptionalExpression, absent, present, Expressions, no_expression, an_expression, Items, no_item, an_item, Properties, no_property, a_property, SuffixTree, a_member, an_index, a_call, Suffixes, no_suffix, a_suffix, Operands, no_operand, an_operand, FunctionTree, a_function, StatementTree, Block, Empty, Evaluate, Debugger, Var, If, DoWhile, While, For, ForIn, Continue, Break, Return, Throw, Switch, Try, Declare, DeclareNumbered, OptionalStatement, omitted, given, Statements, no_statement, a_statement, Declarations, no_declared, a_declared, Branches, no_branch, a_branch, StartTree, no_start, start_var, start_value, TargetTree, target_value, target_declared, Clauses, no_clause, a_clause, CatchTree, no_catch, a_catch}

abbrev mutual
  pub expression_unbound : ExpressionTree → ExpressionTree
  expression_unbound (Number p n) = Number p n
  expression_unbound (Characters p text) = Characters p text
  expression_unbound (Pattern p literal) = Pattern p literal
  expression_unbound (True p) = True p
  expression_unbound (False p) = False p
  expression_unbound (Null p) = Null p
  expression_unbound (This p) = This p
  expression_unbound (Name p x) = Name p (unbound x)
  expression_unbound (Array p items) = Array p (items_unbound items)
  expression_unbound (Object p ps) = Object p (properties_unbound ps)
  expression_unbound (Function p f) = Function p (function_unbound f)
  expression_unbound (Numbered p n) = Numbered p n
  expression_unbound (Suffixed p e ss) = Suffixed p (expression_unbound e) (suffixes_unbound ss)
  expression_unbound (New p e es) = New p (expression_unbound e) (expressions_unbound es)
  expression_unbound (Update p form op e) = Update p form op (expression_unbound e)
  expression_unbound (Unary p op e) = Unary p op (expression_unbound e)
  expression_unbound (Chain p e os) = Chain p (expression_unbound e) (operands_unbound os)
  expression_unbound (Conditional p e1 e2 e3) = Conditional p (expression_unbound e1) (expression_unbound e2) (expression_unbound e3)
  expression_unbound (Assign p e1 op e2) = Assign p (expression_unbound e1) op (expression_unbound e2)
  expression_unbound (Comma p es) = Comma p (expressions_unbound es)

  pub optional_unbound : OptionalExpression → OptionalExpression
  optional_unbound absent = absent
  optional_unbound (present e) = present (expression_unbound e)

  pub expressions_unbound : Expressions → Expressions
  expressions_unbound no_expression = no_expression
  expressions_unbound (an_expression e es) = an_expression (expression_unbound e) (expressions_unbound es)

  pub items_unbound : Items → Items
  items_unbound no_item = no_item
  items_unbound (an_item o items) = an_item (optional_unbound o) (items_unbound items)

  pub properties_unbound : Properties → Properties
  properties_unbound no_property = no_property
  properties_unbound (a_property text e ps) = a_property text (expression_unbound e) (properties_unbound ps)

  pub suffix_unbound : SuffixTree → SuffixTree
  suffix_unbound (a_member p text) = a_member p text
  suffix_unbound (an_index p e) = an_index p (expression_unbound e)
  suffix_unbound (a_call p es) = a_call p (expressions_unbound es)

  pub suffixes_unbound : Suffixes → Suffixes
  suffixes_unbound no_suffix = no_suffix
  suffixes_unbound (a_suffix s ss) = a_suffix (suffix_unbound s) (suffixes_unbound ss)

  pub operands_unbound : Operands → Operands
  operands_unbound no_operand = no_operand
  operands_unbound (an_operand p op e os) = an_operand p op (expression_unbound e) (operands_unbound os)

  pub function_unbound : FunctionTree → FunctionTree
  function_unbound (a_function own parameters names body) =
      a_function (option_map unbound own) (map unbound parameters) [] (statements_unbound body)

  pub statement_unbound : StatementTree → StatementTree
  statement_unbound (Block p ss) = Block p (statements_unbound ss)
  statement_unbound (Empty p) = Empty p
  statement_unbound (Evaluate p e) = Evaluate p (expression_unbound e)
  statement_unbound (Debugger p) = Debugger p
  statement_unbound (Var p ds) = Var p (declarations_unbound ds)
  statement_unbound (If p bs o) = If p (branches_unbound bs) (otherwise_unbound o)
  statement_unbound (DoWhile p s e) = DoWhile p (statement_unbound s) (expression_unbound e)
  statement_unbound (While p e s) = While p (expression_unbound e) (statement_unbound s)
  statement_unbound (For p a o1 o2 s) = For p (start_unbound a) (optional_unbound o1) (optional_unbound o2) (statement_unbound s)
  statement_unbound (ForIn p t e s) = ForIn p (target_unbound t) (expression_unbound e) (statement_unbound s)
  statement_unbound (Continue p) = Continue p
  statement_unbound (Break p) = Break p
  statement_unbound (Return p o) = Return p (optional_unbound o)
  statement_unbound (Throw p e) = Throw p (expression_unbound e)
  statement_unbound (Switch p e cs) = Switch p (expression_unbound e) (clauses_unbound cs)
  statement_unbound (Try p s c o) = Try p (statement_unbound s) (handler_unbound c) (otherwise_unbound o)
  statement_unbound (Declare p x f) = Declare p (unbound x) (function_unbound f)
  statement_unbound (DeclareNumbered p x n) = DeclareNumbered p (unbound x) n

  pub otherwise_unbound : OptionalStatement → OptionalStatement
  otherwise_unbound omitted = omitted
  otherwise_unbound (given s) = given (statement_unbound s)

  pub statements_unbound : Statements → Statements
  statements_unbound no_statement = no_statement
  statements_unbound (a_statement s ss) = a_statement (statement_unbound s) (statements_unbound ss)

  pub declarations_unbound : Declarations → Declarations
  declarations_unbound no_declared = no_declared
  declarations_unbound (a_declared x o ds) = a_declared (unbound x) (optional_unbound o) (declarations_unbound ds)

  pub branches_unbound : Branches → Branches
  branches_unbound no_branch = no_branch
  branches_unbound (a_branch e s bs) = a_branch (expression_unbound e) (statement_unbound s) (branches_unbound bs)

  pub start_unbound : StartTree → StartTree
  start_unbound no_start = no_start
  start_unbound (start_var p ds) = start_var p (declarations_unbound ds)
  start_unbound (start_value e) = start_value (expression_unbound e)

  pub target_unbound : TargetTree → TargetTree
  target_unbound (target_value e) = target_value (expression_unbound e)
  target_unbound (target_declared x o) = target_declared (unbound x) (optional_unbound o)

  pub clauses_unbound : Clauses → Clauses
  clauses_unbound no_clause = no_clause
  clauses_unbound (a_clause o ss cs) = a_clause (optional_unbound o) (statements_unbound ss) (clauses_unbound cs)

  pub handler_unbound : CatchTree → CatchTree
  handler_unbound no_catch = no_catch
  handler_unbound (a_catch x s) = a_catch (unbound x) (statement_unbound s)

abbrev pub unbound_program : Statements × List FunctionTree → Statements × List FunctionTree
unbound_program program = (statements_unbound program.0, map function_unbound program.1)
