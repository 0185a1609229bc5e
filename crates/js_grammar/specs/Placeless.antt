-- Trees with their places put aside: each node has the first place.
use Rattle.js_tree.specs.Tree.{ExpressionTree, Number, Characters, Pattern, True, False, Null, This, Name, Array, Object, Function, Numbered, Suffixed, New, Update, Unary, Chain, Conditional, Assign, Comma, OptionalExpression, absent, present, Expressions, no_expression, an_expression, Items, no_item, an_item, Properties, no_property, a_property, SuffixTree, a_member, an_index, a_call, Suffixes, no_suffix, a_suffix, Operands, no_operand, an_operand, FunctionTree, a_function, StatementTree, Block, Empty, Evaluate, Debugger, Var, If, DoWhile, While, For, ForIn, Continue, Break, Return, Throw, Switch, Try, Declare, DeclareNumbered, OptionalStatement, omitted, given, Statements, no_statement, a_statement, Declarations, no_declared, a_declared, Branches, no_branch, a_branch, StartTree, no_start, start_var, start_value, TargetTree, target_value, target_declared, Clauses, no_clause, a_clause, CatchTree, no_catch, a_catch}
use Rattle.js_grammar.specs.Printing.{nowhere}

abbrev mutual
  pub placeless_expression : ExpressionTree → ExpressionTree
  placeless_expression (Number p x1) = Number nowhere x1
  placeless_expression (Characters p x1) = Characters nowhere x1
  placeless_expression (Pattern p x1) = Pattern nowhere x1
  placeless_expression (True p) = True nowhere
  placeless_expression (False p) = False nowhere
  placeless_expression (Null p) = Null nowhere
  placeless_expression (This p) = This nowhere
  placeless_expression (Name p x1) = Name nowhere x1
  placeless_expression (Array p x1) = Array nowhere (placeless_items x1)
  placeless_expression (Object p x1) = Object nowhere (placeless_properties x1)
  placeless_expression (Function p x1) = Function nowhere (placeless_function x1)
  placeless_expression (Numbered p x1) = Numbered nowhere x1
  placeless_expression (Suffixed p x1 x2) = Suffixed nowhere (placeless_expression x1) (placeless_suffixes x2)
  placeless_expression (New p x1 x2) = New nowhere (placeless_expression x1) (placeless_expressions x2)
  placeless_expression (Update p x1 x2 x3) = Update nowhere x1 x2 (placeless_expression x3)
  placeless_expression (Unary p x1 x2) = Unary nowhere x1 (placeless_expression x2)
  placeless_expression (Chain p x1 x2) = Chain nowhere (placeless_expression x1) (placeless_operands x2)
  placeless_expression (Conditional p x1 x2 x3) = Conditional nowhere (placeless_expression x1) (placeless_expression x2) (placeless_expression x3)
  placeless_expression (Assign p x1 x2 x3) = Assign nowhere (placeless_expression x1) x2 (placeless_expression x3)
  placeless_expression (Comma p x1) = Comma nowhere (placeless_expressions x1)

  pub placeless_optional : OptionalExpression → OptionalExpression
  placeless_optional absent = absent
  placeless_optional (present x0) = present (placeless_expression x0)

  pub placeless_expressions : Expressions → Expressions
  placeless_expressions no_expression = no_expression
  placeless_expressions (an_expression x0 x1) = an_expression (placeless_expression x0) (placeless_expressions x1)

  pub placeless_items : Items → Items
  placeless_items no_item = no_item
  placeless_items (an_item x0 x1) = an_item (placeless_optional x0) (placeless_items x1)

  pub placeless_properties : Properties → Properties
  placeless_properties no_property = no_property
  placeless_properties (a_property x0 x1 x2) = a_property x0 (placeless_expression x1) (placeless_properties x2)

  pub placeless_suffix : SuffixTree → SuffixTree
  placeless_suffix (a_member p x1) = a_member nowhere x1
  placeless_suffix (an_index p x1) = an_index nowhere (placeless_expression x1)
  placeless_suffix (a_call p x1) = a_call nowhere (placeless_expressions x1)

  pub placeless_suffixes : Suffixes → Suffixes
  placeless_suffixes no_suffix = no_suffix
  placeless_suffixes (a_suffix x0 x1) = a_suffix (placeless_suffix x0) (placeless_suffixes x1)

  pub placeless_operands : Operands → Operands
  placeless_operands no_operand = no_operand
  placeless_operands (an_operand p x1 x2 x3) = an_operand nowhere x1 (placeless_expression x2) (placeless_operands x3)

  pub placeless_function : FunctionTree → FunctionTree
  placeless_function (a_function x0 x1 x2 x3) = a_function x0 x1 x2 (placeless_statements x3)

  pub placeless_statement : StatementTree → StatementTree
  placeless_statement (Block p x1) = Block nowhere (placeless_statements x1)
  placeless_statement (Empty p) = Empty nowhere
  placeless_statement (Evaluate p x1) = Evaluate nowhere (placeless_expression x1)
  placeless_statement (Debugger p) = Debugger nowhere
  placeless_statement (Var p x1) = Var nowhere (placeless_declarations x1)
  placeless_statement (If p x1 x2) = If nowhere (placeless_branches x1) (placeless_optional_statement x2)
  placeless_statement (DoWhile p x1 x2) = DoWhile nowhere (placeless_statement x1) (placeless_expression x2)
  placeless_statement (While p x1 x2) = While nowhere (placeless_expression x1) (placeless_statement x2)
  placeless_statement (For p x1 x2 x3 x4) = For nowhere (placeless_start x1) (placeless_optional x2) (placeless_optional x3) (placeless_statement x4)
  placeless_statement (ForIn p x1 x2 x3) = ForIn nowhere (placeless_target x1) (placeless_expression x2) (placeless_statement x3)
  placeless_statement (Continue p) = Continue nowhere
  placeless_statement (Break p) = Break nowhere
  placeless_statement (Return p x1) = Return nowhere (placeless_optional x1)
  placeless_statement (Throw p x1) = Throw nowhere (placeless_expression x1)
  placeless_statement (Switch p x1 x2) = Switch nowhere (placeless_expression x1) (placeless_clauses x2)
  placeless_statement (Try p x1 x2 x3) = Try nowhere (placeless_statement x1) (placeless_catch x2) (placeless_optional_statement x3)
  placeless_statement (Declare p x1 x2) = Declare nowhere x1 (placeless_function x2)
  placeless_statement (DeclareNumbered p x1 x2) = DeclareNumbered nowhere x1 x2

  pub placeless_optional_statement : OptionalStatement → OptionalStatement
  placeless_optional_statement omitted = omitted
  placeless_optional_statement (given x0) = given (placeless_statement x0)

  pub placeless_statements : Statements → Statements
  placeless_statements no_statement = no_statement
  placeless_statements (a_statement x0 x1) = a_statement (placeless_statement x0) (placeless_statements x1)

  pub placeless_declarations : Declarations → Declarations
  placeless_declarations no_declared = no_declared
  placeless_declarations (a_declared x0 x1 x2) = a_declared x0 (placeless_optional x1) (placeless_declarations x2)

  pub placeless_branches : Branches → Branches
  placeless_branches no_branch = no_branch
  placeless_branches (a_branch x0 x1 x2) = a_branch (placeless_expression x0) (placeless_statement x1) (placeless_branches x2)

  pub placeless_start : StartTree → StartTree
  placeless_start no_start = no_start
  placeless_start (start_var p x1) = start_var nowhere (placeless_declarations x1)
  placeless_start (start_value x0) = start_value (placeless_expression x0)

  pub placeless_target : TargetTree → TargetTree
  placeless_target (target_value x0) = target_value (placeless_expression x0)
  placeless_target (target_declared x0 x1) = target_declared x0 (placeless_optional x1)

  pub placeless_clauses : Clauses → Clauses
  placeless_clauses no_clause = no_clause
  placeless_clauses (a_clause x0 x1 x2) = a_clause (placeless_optional x0) (placeless_statements x1) (placeless_clauses x2)

  pub placeless_catch : CatchTree → CatchTree
  placeless_catch no_catch = no_catch
  placeless_catch (a_catch x0 x1) = a_catch x0 (placeless_statement x1)
