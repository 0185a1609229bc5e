-- Written by tools/write_tree.py from Tree.antt: change that file, and run the script.
-- The size of a tree: its nodes, its names and the lists between them. It is above that of each tree in it.
use Rattle.std.specs.Prelude.{ℕ, ◌+◌, length}
use Rattle.js_tree.specs.Tree.{ExpressionTree, Number, Characters, Pattern, True, False, Null, This, Name, Array, Object, Function, Numbered, Suffixed, New, Update, Unary, Chain, Conditional, Assign, Comma, OptionalExpression, absent, present, Expressions, no_expression, an_expression, Items, no_item, an_item, Properties, no_property, a_property, SuffixTree, a_member, an_index, a_call, Suffixes, no_suffix, a_suffix, Operands, no_operand, an_operand, FunctionTree, a_function, StatementTree, Block, Empty, Evaluate, Debugger, Var, If, DoWhile, While, For, ForIn, Continue, Break, Return, Throw, Switch, Try, Declare, DeclareNumbered, OptionalStatement, omitted, given, Statements, no_statement, a_statement, Declarations, no_declared, a_declared, Branches, no_branch, a_branch, StartTree, no_start, start_var, start_value, TargetTree, target_value, target_declared, Clauses, no_clause, a_clause, CatchTree, no_catch, a_catch}

abbrev mutual
  pub expression_size : ExpressionTree → ℕ
  expression_size (Number x0 x1) = 1
  expression_size (Characters x0 x1) = 1
  expression_size (Pattern x0 x1) = 1
  expression_size (True x0) = 1
  expression_size (False x0) = 1
  expression_size (Null x0) = 1
  expression_size (This x0) = 1
  expression_size (Name x0 x1) = 1 + 1
  expression_size (Array x0 x1) = items_size x1 + 1
  expression_size (Object x0 x1) = properties_size x1 + 1
  expression_size (Function x0 x1) = function_size x1 + 1
  expression_size (Numbered x0 x1) = 1
  expression_size (Suffixed x0 x1 x2) = expression_size x1 + suffixes_size x2 + 1
  expression_size (New x0 x1 x2) = expression_size x1 + expressions_size x2 + 1
  expression_size (Update x0 x1 x2 x3) = expression_size x3 + 1
  expression_size (Unary x0 x1 x2) = expression_size x2 + 1
  expression_size (Chain x0 x1 x2) = expression_size x1 + operands_size x2 + 1
  expression_size (Conditional x0 x1 x2 x3) = expression_size x1 + expression_size x2 + expression_size x3 + 1
  expression_size (Assign x0 x1 x2 x3) = expression_size x1 + expression_size x3 + 1
  expression_size (Comma x0 x1) = expressions_size x1 + 1

  pub optional_expression_size : OptionalExpression → ℕ
  optional_expression_size absent = 1
  optional_expression_size (present x0) = expression_size x0 + 1

  pub expressions_size : Expressions → ℕ
  expressions_size no_expression = 1
  expressions_size (an_expression x0 x1) = expression_size x0 + expressions_size x1 + 1

  pub items_size : Items → ℕ
  items_size no_item = 1
  items_size (an_item x0 x1) = optional_expression_size x0 + items_size x1 + 1

  pub properties_size : Properties → ℕ
  properties_size no_property = 1
  properties_size (a_property x0 x1 x2) = expression_size x1 + properties_size x2 + 1

  pub suffix_size : SuffixTree → ℕ
  suffix_size (a_member x0 x1) = 1
  suffix_size (an_index x0 x1) = expression_size x1 + 1
  suffix_size (a_call x0 x1) = expressions_size x1 + 1

  pub suffixes_size : Suffixes → ℕ
  suffixes_size no_suffix = 1
  suffixes_size (a_suffix x0 x1) = suffix_size x0 + suffixes_size x1 + 1

  pub operands_size : Operands → ℕ
  operands_size no_operand = 1
  operands_size (an_operand x0 x1 x2 x3) = expression_size x2 + operands_size x3 + 1

  pub function_size : FunctionTree → ℕ
  function_size (a_function x0 x1 x2 x3) = 1 + length x1 + length x2 + statements_size x3 + 1

  pub statement_size : StatementTree → ℕ
  statement_size (Block x0 x1) = statements_size x1 + 1
  statement_size (Empty x0) = 1
  statement_size (Evaluate x0 x1) = expression_size x1 + 1
  statement_size (Debugger x0) = 1
  statement_size (Var x0 x1) = declarations_size x1 + 1
  statement_size (If x0 x1 x2) = branches_size x1 + optional_statement_size x2 + 1
  statement_size (DoWhile x0 x1 x2) = statement_size x1 + expression_size x2 + 1
  statement_size (While x0 x1 x2) = expression_size x1 + statement_size x2 + 1
  statement_size (For x0 x1 x2 x3 x4) = start_size x1 + optional_expression_size x2 + optional_expression_size x3 + statement_size x4 + 1
  statement_size (ForIn x0 x1 x2 x3) = target_size x1 + expression_size x2 + statement_size x3 + 1
  statement_size (Continue x0) = 1
  statement_size (Break x0) = 1
  statement_size (Return x0 x1) = optional_expression_size x1 + 1
  statement_size (Throw x0 x1) = expression_size x1 + 1
  statement_size (Switch x0 x1 x2) = expression_size x1 + clauses_size x2 + 1
  statement_size (Try x0 x1 x2 x3) = statement_size x1 + catch_size x2 + optional_statement_size x3 + 1
  statement_size (Declare x0 x1 x2) = 1 + function_size x2 + 1
  statement_size (DeclareNumbered x0 x1 x2) = 1 + 1

  pub optional_statement_size : OptionalStatement → ℕ
  optional_statement_size omitted = 1
  optional_statement_size (given x0) = statement_size x0 + 1

  pub statements_size : Statements → ℕ
  statements_size no_statement = 1
  statements_size (a_statement x0 x1) = statement_size x0 + statements_size x1 + 1

  pub declarations_size : Declarations → ℕ
  declarations_size no_declared = 1
  declarations_size (a_declared x0 x1 x2) = 1 + optional_expression_size x1 + declarations_size x2 + 1

  pub branches_size : Branches → ℕ
  branches_size no_branch = 1
  branches_size (a_branch x0 x1 x2) = expression_size x0 + statement_size x1 + branches_size x2 + 1

  pub start_size : StartTree → ℕ
  start_size no_start = 1
  start_size (start_var x0 x1) = declarations_size x1 + 1
  start_size (start_value x0) = expression_size x0 + 1

  pub target_size : TargetTree → ℕ
  target_size (target_value x0) = expression_size x0 + 1
  target_size (target_declared x0 x1) = 1 + optional_expression_size x1 + 1

  pub clauses_size : Clauses → ℕ
  clauses_size no_clause = 1
  clauses_size (a_clause x0 x1 x2) = optional_expression_size x0 + statements_size x1 + clauses_size x2 + 1

  pub catch_size : CatchTree → ℕ
  catch_size no_catch = 1
  catch_size (a_catch x0 x1) = 1 + statement_size x1 + 1
