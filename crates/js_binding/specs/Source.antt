-- The source of a program: the script with each function back in place of its number, and without bounds and names.
use Rattle.std.specs.Prelude.{ℕ, suc, ◌==◌, List, [], ◌∷◌, map, Option, option_map, if◌then◌else◌}
use Rattle.js_tree.specs.declared.bound.Bound.TheVariants.{Unbound}
use Rattle.js_tree.specs.declared.bound.BoundName.{BoundName}
use Rattle.js_tree.specs.Tree.{ExpressionTree, Number, Characters, Pattern, True, False, Null, This, Name, Array, Object, Function, Numbered, Suffixed, New, Update, Unary, Chain, Conditional, Assign, Comma, OptionalExpression, absent, present, Expressions, no_expression, an_expression, Items, no_item, an_item, Properties, no_property, a_property, SuffixTree, a_member, an_index, a_call, Suffixes, no_suffix, a_suffix, Operands, no_operand, an_operand, FunctionTree, a_function, StatementTree, Block, Empty, Evaluate, Debugger, Var, If, DoWhile, While, For, ForIn, Continue, Break, Return, Throw, Switch, Try, Declare, DeclareNumbered, OptionalStatement, omitted, given, Statements, no_statement, a_statement, Declarations, no_declared, a_declared, Branches, no_branch, a_branch, StartTree, no_start, start_var, start_value, TargetTree, target_value, target_declared, Clauses, no_clause, a_clause, CatchTree, no_catch, a_catch}
use Rattle.js_binding.specs.Resolved.{hollow}
use Rattle.js_binding.specs.Numbers.{by_number}

-- a name as it was read
abbrev pub unbound : BoundName → BoundName
unbound x = record { name = x.name; bound = Unbound }

-- at: the source of each function, by its number
unfoldable mutual
  pub expression_source : (ℕ → FunctionTree) → ExpressionTree → ExpressionTree
  expression_source at (Number p n) = Number p n
  expression_source at (Characters p x) = Characters p x
  expression_source at (Pattern p l) = Pattern p l
  expression_source at (True p) = True p
  expression_source at (False p) = False p
  expression_source at (Null p) = Null p
  expression_source at (This p) = This p
  expression_source at (Name p x) = Name p (unbound x)
  expression_source at (Array p all) = Array p (items_source at all)
  expression_source at (Object p all) = Object p (properties_source at all)
  expression_source at (Function p f) = Function p (function_source at f)
  expression_source at (Numbered p n) = Function p (at n)
  expression_source at (Suffixed p e all) = Suffixed p (expression_source at e) (suffixes_source at all)
  expression_source at (New p e all) = New p (expression_source at e) (expressions_source at all)
  expression_source at (Update p form op e) = Update p form op (expression_source at e)
  expression_source at (Unary p op e) = Unary p op (expression_source at e)
  expression_source at (Chain p e all) = Chain p (expression_source at e) (operands_source at all)
  expression_source at (Conditional p e a b) = Conditional p (expression_source at e) (expression_source at a) (expression_source at b)
  expression_source at (Assign p e op v) = Assign p (expression_source at e) op (expression_source at v)
  expression_source at (Comma p all) = Comma p (expressions_source at all)

  pub optional_source : (ℕ → FunctionTree) → OptionalExpression → OptionalExpression
  optional_source at absent = absent
  optional_source at (present e) = present (expression_source at e)

  pub expressions_source : (ℕ → FunctionTree) → Expressions → Expressions
  expressions_source at no_expression = no_expression
  expressions_source at (an_expression e es) = an_expression (expression_source at e) (expressions_source at es)

  pub items_source : (ℕ → FunctionTree) → Items → Items
  items_source at no_item = no_item
  items_source at (an_item o os) = an_item (optional_source at o) (items_source at os)

  pub properties_source : (ℕ → FunctionTree) → Properties → Properties
  properties_source at no_property = no_property
  properties_source at (a_property x e ps) = a_property x (expression_source at e) (properties_source at ps)

  pub suffix_source : (ℕ → FunctionTree) → SuffixTree → SuffixTree
  suffix_source at (a_member p x) = a_member p x
  suffix_source at (an_index p e) = an_index p (expression_source at e)
  suffix_source at (a_call p es) = a_call p (expressions_source at es)

  pub suffixes_source : (ℕ → FunctionTree) → Suffixes → Suffixes
  suffixes_source at no_suffix = no_suffix
  suffixes_source at (a_suffix s ss) = a_suffix (suffix_source at s) (suffixes_source at ss)

  pub operands_source : (ℕ → FunctionTree) → Operands → Operands
  operands_source at no_operand = no_operand
  operands_source at (an_operand p op e os) = an_operand p op (expression_source at e) (operands_source at os)

  pub function_source : (ℕ → FunctionTree) → FunctionTree → FunctionTree
  function_source at (a_function own parameters names body) = a_function (option_map unbound own) (map unbound parameters) [] (statements_source at body)

  pub statement_source : (ℕ → FunctionTree) → StatementTree → StatementTree
  statement_source at (Block p ss) = Block p (statements_source at ss)
  statement_source at (Empty p) = Empty p
  statement_source at (Evaluate p e) = Evaluate p (expression_source at e)
  statement_source at (Debugger p) = Debugger p
  statement_source at (Var p ds) = Var p (declarations_source at ds)
  statement_source at (If p bs o) = If p (branches_source at bs) (otherwise_source at o)
  statement_source at (DoWhile p s e) = DoWhile p (statement_source at s) (expression_source at e)
  statement_source at (While p e s) = While p (expression_source at e) (statement_source at s)
  statement_source at (For p a e d s) = For p (start_source at a) (optional_source at e) (optional_source at d) (statement_source at s)
  statement_source at (ForIn p t e s) = ForIn p (target_source at t) (expression_source at e) (statement_source at s)
  statement_source at (Continue p) = Continue p
  statement_source at (Break p) = Break p
  statement_source at (Return p o) = Return p (optional_source at o)
  statement_source at (Throw p e) = Throw p (expression_source at e)
  statement_source at (Switch p e cs) = Switch p (expression_source at e) (clauses_source at cs)
  statement_source at (Try p s c o) = Try p (statement_source at s) (handler_source at c) (otherwise_source at o)
  statement_source at (Declare p x f) = Declare p (unbound x) (function_source at f)
  statement_source at (DeclareNumbered p x n) = Declare p (unbound x) (at n)

  pub otherwise_source : (ℕ → FunctionTree) → OptionalStatement → OptionalStatement
  otherwise_source at omitted = omitted
  otherwise_source at (given s) = given (statement_source at s)

  pub statements_source : (ℕ → FunctionTree) → Statements → Statements
  statements_source at no_statement = no_statement
  statements_source at (a_statement s ss) = a_statement (statement_source at s) (statements_source at ss)

  pub declarations_source : (ℕ → FunctionTree) → Declarations → Declarations
  declarations_source at no_declared = no_declared
  declarations_source at (a_declared x o ds) = a_declared (unbound x) (optional_source at o) (declarations_source at ds)

  pub branches_source : (ℕ → FunctionTree) → Branches → Branches
  branches_source at no_branch = no_branch
  branches_source at (a_branch e s bs) = a_branch (expression_source at e) (statement_source at s) (branches_source at bs)

  pub start_source : (ℕ → FunctionTree) → StartTree → StartTree
  start_source at no_start = no_start
  start_source at (start_var p ds) = start_var p (declarations_source at ds)
  start_source at (start_value e) = start_value (expression_source at e)

  pub target_source : (ℕ → FunctionTree) → TargetTree → TargetTree
  target_source at (target_value e) = target_value (expression_source at e)
  target_source at (target_declared x o) = target_declared (unbound x) (optional_source at o)

  pub clauses_source : (ℕ → FunctionTree) → Clauses → Clauses
  clauses_source at no_clause = no_clause
  clauses_source at (a_clause o ss cs) = a_clause (optional_source at o) (statements_source at ss) (clauses_source at cs)

  pub handler_source : (ℕ → FunctionTree) → CatchTree → CatchTree
  handler_source at no_catch = no_catch
  handler_source at (a_catch x s) = a_catch (unbound x) (statement_source at s)

-- the source of the function of each number
abbrev pub function_sources : List FunctionTree → ℕ → FunctionTree
function_sources functions = by_number hollow function_source 0 functions

abbrev pub source_of : Statements × List FunctionTree → Statements
source_of program = statements_source (function_sources program.1) program.0
