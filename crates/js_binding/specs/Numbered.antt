-- Written by tools/write_tree.py from Tree.antt: change that file, and run the script.
-- A script whose functions stand by number, in the order in which they begin, and whose names are as they were read. The
-- number is that of the code that a function object is made with (ECMA-262 5.1, section 13.2).
use Rattle.std.specs.Prelude.{ℕ, List, [], map, option_map}
use Rattle.js_tree.specs.Tree.{ExpressionTree, Number, Characters, Pattern, True, False, Null, This, Name, Array, Object, Function, Numbered, Suffixed, New, Update, Unary, Chain, Conditional, Assign, Comma, OptionalExpression, absent, present, Expressions, no_expression, an_expression, Items, no_item, an_item, Properties, no_property, a_property, SuffixTree, a_member, an_index, a_call, Suffixes, no_suffix, a_suffix, Operands, no_operand, an_operand, FunctionTree, a_function, StatementTree, Block, Empty, Evaluate, Debugger, Var, If, DoWhile, While, For, ForIn, Continue, Break, Return, Throw, Switch, Try, Declare, DeclareNumbered, OptionalStatement, omitted, given, Statements, no_statement, a_statement, Declarations, no_declared, a_declared, Branches, no_branch, a_branch, StartTree, no_start, start_var, start_value, TargetTree, target_value, target_declared, Clauses, no_clause, a_clause, CatchTree, no_catch, a_catch}
use Rattle.js_tree.specs.Tree.{statements_of}
use Rattle.js_binding.specs.Source.{unbound}
use Rattle.js_binding.specs.Resolved.{Placing, pure, ◌>>=◌, hollow, placed, numbered}

unfoldable mutual
  pub expression_numbered : ExpressionTree → Placing ExpressionTree
  expression_numbered (Number p n) = pure (Number p n)
  expression_numbered (Characters p text) = pure (Characters p text)
  expression_numbered (Pattern p literal) = pure (Pattern p literal)
  expression_numbered (True p) = pure (True p)
  expression_numbered (False p) = pure (False p)
  expression_numbered (Null p) = pure (Null p)
  expression_numbered (This p) = pure (This p)
  expression_numbered (Name p x) = pure (Name p (unbound x))
  expression_numbered (Array p items) = items_numbered items >>= (λ items'. pure (Array p items'))
  expression_numbered (Object p ps) = properties_numbered ps >>= (λ ps'. pure (Object p ps'))
  expression_numbered (Function p f) = function_numbered f >>= (λ n'. pure (Numbered p n'))
  expression_numbered (Numbered p n) = placed hollow >>= (λ n'. pure (Numbered p n'))
  expression_numbered (Suffixed p e ss) = expression_numbered e >>= (λ e'. suffixes_numbered ss >>= (λ ss'. pure (Suffixed p e' ss')))
  expression_numbered (New p e es) = expression_numbered e >>= (λ e'. expressions_numbered es >>= (λ es'. pure (New p e' es')))
  expression_numbered (Update p form op e) = expression_numbered e >>= (λ e'. pure (Update p form op e'))
  expression_numbered (Unary p op e) = expression_numbered e >>= (λ e'. pure (Unary p op e'))
  expression_numbered (Chain p e os) = expression_numbered e >>= (λ e'. operands_numbered os >>= (λ os'. pure (Chain p e' os')))
  expression_numbered (Conditional p e1 e2 e3) = expression_numbered e1 >>= (λ e1'. expression_numbered e2 >>= (λ e2'. expression_numbered e3 >>= (λ e3'. pure (Conditional p e1' e2' e3'))))
  expression_numbered (Assign p e1 op e2) = expression_numbered e1 >>= (λ e1'. expression_numbered e2 >>= (λ e2'. pure (Assign p e1' op e2')))
  expression_numbered (Comma p es) = expressions_numbered es >>= (λ es'. pure (Comma p es'))

  pub optional_numbered : OptionalExpression → Placing OptionalExpression
  optional_numbered absent = pure absent
  optional_numbered (present e) = expression_numbered e >>= (λ e'. pure (present e'))

  pub expressions_numbered : Expressions → Placing Expressions
  expressions_numbered no_expression = pure no_expression
  expressions_numbered (an_expression e es) = expression_numbered e >>= (λ e'. expressions_numbered es >>= (λ es'. pure (an_expression e' es')))

  pub items_numbered : Items → Placing Items
  items_numbered no_item = pure no_item
  items_numbered (an_item o items) = optional_numbered o >>= (λ o'. items_numbered items >>= (λ items'. pure (an_item o' items')))

  pub properties_numbered : Properties → Placing Properties
  properties_numbered no_property = pure no_property
  properties_numbered (a_property text e ps) = expression_numbered e >>= (λ e'. properties_numbered ps >>= (λ ps'. pure (a_property text e' ps')))

  pub suffix_numbered : SuffixTree → Placing SuffixTree
  suffix_numbered (a_member p text) = pure (a_member p text)
  suffix_numbered (an_index p e) = expression_numbered e >>= (λ e'. pure (an_index p e'))
  suffix_numbered (a_call p es) = expressions_numbered es >>= (λ es'. pure (a_call p es'))

  pub suffixes_numbered : Suffixes → Placing Suffixes
  suffixes_numbered no_suffix = pure no_suffix
  suffixes_numbered (a_suffix s ss) = suffix_numbered s >>= (λ s'. suffixes_numbered ss >>= (λ ss'. pure (a_suffix s' ss')))

  pub operands_numbered : Operands → Placing Operands
  operands_numbered no_operand = pure no_operand
  operands_numbered (an_operand p op e os) = expression_numbered e >>= (λ e'. operands_numbered os >>= (λ os'. pure (an_operand p op e' os')))

  pub function_numbered : FunctionTree → Placing ℕ
  function_numbered (a_function own parameters names body) =
      numbered (λ made. a_function (option_map unbound own) (map unbound parameters) [] made) (statements_numbered body)

  pub statement_numbered : StatementTree → Placing StatementTree
  statement_numbered (Block p ss) = statements_numbered ss >>= (λ ss'. pure (Block p ss'))
  statement_numbered (Empty p) = pure (Empty p)
  statement_numbered (Evaluate p e) = expression_numbered e >>= (λ e'. pure (Evaluate p e'))
  statement_numbered (Debugger p) = pure (Debugger p)
  statement_numbered (Var p ds) = declarations_numbered ds >>= (λ ds'. pure (Var p ds'))
  statement_numbered (If p bs o) = branches_numbered bs >>= (λ bs'. otherwise_numbered o >>= (λ o'. pure (If p bs' o')))
  statement_numbered (DoWhile p s e) = statement_numbered s >>= (λ s'. expression_numbered e >>= (λ e'. pure (DoWhile p s' e')))
  statement_numbered (While p e s) = expression_numbered e >>= (λ e'. statement_numbered s >>= (λ s'. pure (While p e' s')))
  statement_numbered (For p a o1 o2 s) = start_numbered a >>= (λ a'. optional_numbered o1 >>= (λ o1'. optional_numbered o2 >>= (λ o2'. statement_numbered s >>= (λ s'. pure (For p a' o1' o2' s')))))
  statement_numbered (ForIn p t e s) = target_numbered t >>= (λ t'. expression_numbered e >>= (λ e'. statement_numbered s >>= (λ s'. pure (ForIn p t' e' s'))))
  statement_numbered (Continue p) = pure (Continue p)
  statement_numbered (Break p) = pure (Break p)
  statement_numbered (Return p o) = optional_numbered o >>= (λ o'. pure (Return p o'))
  statement_numbered (Throw p e) = expression_numbered e >>= (λ e'. pure (Throw p e'))
  statement_numbered (Switch p e cs) = expression_numbered e >>= (λ e'. clauses_numbered cs >>= (λ cs'. pure (Switch p e' cs')))
  statement_numbered (Try p s c o) = statement_numbered s >>= (λ s'. handler_numbered c >>= (λ c'. otherwise_numbered o >>= (λ o'. pure (Try p s' c' o'))))
  statement_numbered (Declare p x f) = function_numbered f >>= (λ n'. pure (DeclareNumbered p (unbound x) n'))
  statement_numbered (DeclareNumbered p x n) = placed hollow >>= (λ n'. pure (DeclareNumbered p (unbound x) n'))

  pub otherwise_numbered : OptionalStatement → Placing OptionalStatement
  otherwise_numbered omitted = pure omitted
  otherwise_numbered (given s) = statement_numbered s >>= (λ s'. pure (given s'))

  pub statements_numbered : Statements → Placing Statements
  statements_numbered no_statement = pure no_statement
  statements_numbered (a_statement s ss) = statement_numbered s >>= (λ s'. statements_numbered ss >>= (λ ss'. pure (a_statement s' ss')))

  pub declarations_numbered : Declarations → Placing Declarations
  declarations_numbered no_declared = pure no_declared
  declarations_numbered (a_declared x o ds) = optional_numbered o >>= (λ o'. declarations_numbered ds >>= (λ ds'. pure (a_declared (unbound x) o' ds')))

  pub branches_numbered : Branches → Placing Branches
  branches_numbered no_branch = pure no_branch
  branches_numbered (a_branch e s bs) = expression_numbered e >>= (λ e'. statement_numbered s >>= (λ s'. branches_numbered bs >>= (λ bs'. pure (a_branch e' s' bs'))))

  pub start_numbered : StartTree → Placing StartTree
  start_numbered no_start = pure no_start
  start_numbered (start_var p ds) = declarations_numbered ds >>= (λ ds'. pure (start_var p ds'))
  start_numbered (start_value e) = expression_numbered e >>= (λ e'. pure (start_value e'))

  pub target_numbered : TargetTree → Placing TargetTree
  target_numbered (target_value e) = expression_numbered e >>= (λ e'. pure (target_value e'))
  target_numbered (target_declared x o) = optional_numbered o >>= (λ o'. pure (target_declared (unbound x) o'))

  pub clauses_numbered : Clauses → Placing Clauses
  clauses_numbered no_clause = pure no_clause
  clauses_numbered (a_clause o ss cs) = optional_numbered o >>= (λ o'. statements_numbered ss >>= (λ ss'. clauses_numbered cs >>= (λ cs'. pure (a_clause o' ss' cs'))))

  pub handler_numbered : CatchTree → Placing CatchTree
  handler_numbered no_catch = pure no_catch
  handler_numbered (a_catch x s) = statement_numbered s >>= (λ s'. pure (a_catch (unbound x) s'))

-- the body and the functions of a script
abbrev pub numbered_script : List StatementTree → Statements × List FunctionTree
numbered_script script = statements_numbered (statements_of script) []
