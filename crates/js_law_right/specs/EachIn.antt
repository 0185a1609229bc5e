-- Written by tools/write_tree.py from Tree.antt: change that file, and run the script.
-- What is claimed of each name and of each function in a tree, among the scopes around it.
use Rattle.std.specs.Prelude.{ℕ, List}
use Rattle.js_tree.specs.declared.bound.BoundName.{BoundName}
use Rattle.js_tree.specs.Tree.{ExpressionTree, Number, Characters, Pattern, True, False, Null, This, Name, Array, Object, Function, Numbered, Suffixed, New, Update, Unary, Chain, Conditional, Assign, Comma, OptionalExpression, absent, present, Expressions, no_expression, an_expression, Items, no_item, an_item, Properties, no_property, a_property, SuffixTree, a_member, an_index, a_call, Suffixes, no_suffix, a_suffix, Operands, no_operand, an_operand, FunctionTree, a_function, StatementTree, Block, Empty, Evaluate, Debugger, Var, If, DoWhile, While, For, ForIn, Continue, Break, Return, Throw, Switch, Try, Declare, DeclareNumbered, OptionalStatement, omitted, given, Statements, no_statement, a_statement, Declarations, no_declared, a_declared, Branches, no_branch, a_branch, StartTree, no_start, start_var, start_value, TargetTree, target_value, target_declared, Clauses, no_clause, a_clause, CatchTree, no_catch, a_catch}
use Rattle.js_binding.specs.Scopes.{Scope}
use Rattle.js_binding.specs.Resolved.{around_function, in_body, in_handler}

-- A function expression and a function declaration stand whole in a script, and by their number in a program.
pub record Claims : Type 1 where
  pub name : List Scope → BoundName → Type 0
  pub expression : List Scope → FunctionTree → Type 0
  pub numbered : List Scope → ℕ → Type 0
  pub declaration : List Scope → FunctionTree → Type 0
  pub declared : List Scope → ℕ → Type 0

-- It holds in the bodies of whole functions too. The name of a `catch` and its block stand in its scope (12.14).
abbrev mutual
  pub EachInExpression : Claims → List Scope → ExpressionTree → Type 0
  EachInExpression claims scopes (Number p n) = Unit {0}
  EachInExpression claims scopes (Characters p text) = Unit {0}
  EachInExpression claims scopes (Pattern p literal) = Unit {0}
  EachInExpression claims scopes (True p) = Unit {0}
  EachInExpression claims scopes (False p) = Unit {0}
  EachInExpression claims scopes (Null p) = Unit {0}
  EachInExpression claims scopes (This p) = Unit {0}
  EachInExpression claims scopes (Name p x) = claims.name scopes x
  EachInExpression claims scopes (Array p items) = EachInItems claims scopes items
  EachInExpression claims scopes (Object p ps) = EachInProperties claims scopes ps
  EachInExpression claims scopes (Function p f) = claims.expression scopes f × EachInFunction claims scopes f
  EachInExpression claims scopes (Numbered p n) = claims.numbered scopes n
  EachInExpression claims scopes (Suffixed p e ss) = EachInExpression claims scopes e × EachInSuffixes claims scopes ss
  EachInExpression claims scopes (New p e es) = EachInExpression claims scopes e × EachInExpressions claims scopes es
  EachInExpression claims scopes (Update p form op e) = EachInExpression claims scopes e
  EachInExpression claims scopes (Unary p op e) = EachInExpression claims scopes e
  EachInExpression claims scopes (Chain p e os) = EachInExpression claims scopes e × EachInOperands claims scopes os
  EachInExpression claims scopes (Conditional p e1 e2 e3) = EachInExpression claims scopes e1 × EachInExpression claims scopes e2 × EachInExpression claims scopes e3
  EachInExpression claims scopes (Assign p e1 op e2) = EachInExpression claims scopes e1 × EachInExpression claims scopes e2
  EachInExpression claims scopes (Comma p es) = EachInExpressions claims scopes es

  pub EachInOptional : Claims → List Scope → OptionalExpression → Type 0
  EachInOptional claims scopes absent = Unit {0}
  EachInOptional claims scopes (present e) = EachInExpression claims scopes e

  pub EachInExpressions : Claims → List Scope → Expressions → Type 0
  EachInExpressions claims scopes no_expression = Unit {0}
  EachInExpressions claims scopes (an_expression e es) = EachInExpression claims scopes e × EachInExpressions claims scopes es

  pub EachInItems : Claims → List Scope → Items → Type 0
  EachInItems claims scopes no_item = Unit {0}
  EachInItems claims scopes (an_item o items) = EachInOptional claims scopes o × EachInItems claims scopes items

  pub EachInProperties : Claims → List Scope → Properties → Type 0
  EachInProperties claims scopes no_property = Unit {0}
  EachInProperties claims scopes (a_property text e ps) = EachInExpression claims scopes e × EachInProperties claims scopes ps

  pub EachInSuffix : Claims → List Scope → SuffixTree → Type 0
  EachInSuffix claims scopes (a_member p text) = Unit {0}
  EachInSuffix claims scopes (an_index p e) = EachInExpression claims scopes e
  EachInSuffix claims scopes (a_call p es) = EachInExpressions claims scopes es

  pub EachInSuffixes : Claims → List Scope → Suffixes → Type 0
  EachInSuffixes claims scopes no_suffix = Unit {0}
  EachInSuffixes claims scopes (a_suffix s ss) = EachInSuffix claims scopes s × EachInSuffixes claims scopes ss

  pub EachInOperands : Claims → List Scope → Operands → Type 0
  EachInOperands claims scopes no_operand = Unit {0}
  EachInOperands claims scopes (an_operand p op e os) = EachInExpression claims scopes e × EachInOperands claims scopes os

  pub EachInFunction : Claims → List Scope → FunctionTree → Type 0
  EachInFunction claims scopes (a_function own parameters names body) =
      EachInStatements claims (in_body (around_function scopes own) parameters body) body

  pub EachInStatement : Claims → List Scope → StatementTree → Type 0
  EachInStatement claims scopes (Block p ss) = EachInStatements claims scopes ss
  EachInStatement claims scopes (Empty p) = Unit {0}
  EachInStatement claims scopes (Evaluate p e) = EachInExpression claims scopes e
  EachInStatement claims scopes (Debugger p) = Unit {0}
  EachInStatement claims scopes (Var p ds) = EachInDeclarations claims scopes ds
  EachInStatement claims scopes (If p bs o) = EachInBranches claims scopes bs × EachInOtherwise claims scopes o
  EachInStatement claims scopes (DoWhile p s e) = EachInStatement claims scopes s × EachInExpression claims scopes e
  EachInStatement claims scopes (While p e s) = EachInExpression claims scopes e × EachInStatement claims scopes s
  EachInStatement claims scopes (For p a o1 o2 s) = EachInStart claims scopes a × EachInOptional claims scopes o1 × EachInOptional claims scopes o2 × EachInStatement claims scopes s
  EachInStatement claims scopes (ForIn p t e s) = EachInTarget claims scopes t × EachInExpression claims scopes e × EachInStatement claims scopes s
  EachInStatement claims scopes (Continue p) = Unit {0}
  EachInStatement claims scopes (Break p) = Unit {0}
  EachInStatement claims scopes (Return p o) = EachInOptional claims scopes o
  EachInStatement claims scopes (Throw p e) = EachInExpression claims scopes e
  EachInStatement claims scopes (Switch p e cs) = EachInExpression claims scopes e × EachInClauses claims scopes cs
  EachInStatement claims scopes (Try p s c o) = EachInStatement claims scopes s × EachInHandler claims scopes c × EachInOtherwise claims scopes o
  EachInStatement claims scopes (Declare p x f) = claims.name scopes x × claims.declaration scopes f × EachInFunction claims scopes f
  EachInStatement claims scopes (DeclareNumbered p x n) = claims.name scopes x × claims.declared scopes n

  pub EachInOtherwise : Claims → List Scope → OptionalStatement → Type 0
  EachInOtherwise claims scopes omitted = Unit {0}
  EachInOtherwise claims scopes (given s) = EachInStatement claims scopes s

  pub EachInStatements : Claims → List Scope → Statements → Type 0
  EachInStatements claims scopes no_statement = Unit {0}
  EachInStatements claims scopes (a_statement s ss) = EachInStatement claims scopes s × EachInStatements claims scopes ss

  pub EachInDeclarations : Claims → List Scope → Declarations → Type 0
  EachInDeclarations claims scopes no_declared = Unit {0}
  EachInDeclarations claims scopes (a_declared x o ds) = claims.name scopes x × EachInOptional claims scopes o × EachInDeclarations claims scopes ds

  pub EachInBranches : Claims → List Scope → Branches → Type 0
  EachInBranches claims scopes no_branch = Unit {0}
  EachInBranches claims scopes (a_branch e s bs) = EachInExpression claims scopes e × EachInStatement claims scopes s × EachInBranches claims scopes bs

  pub EachInStart : Claims → List Scope → StartTree → Type 0
  EachInStart claims scopes no_start = Unit {0}
  EachInStart claims scopes (start_var p ds) = EachInDeclarations claims scopes ds
  EachInStart claims scopes (start_value e) = EachInExpression claims scopes e

  pub EachInTarget : Claims → List Scope → TargetTree → Type 0
  EachInTarget claims scopes (target_value e) = EachInExpression claims scopes e
  EachInTarget claims scopes (target_declared x o) = claims.name scopes x × EachInOptional claims scopes o

  pub EachInClauses : Claims → List Scope → Clauses → Type 0
  EachInClauses claims scopes no_clause = Unit {0}
  EachInClauses claims scopes (a_clause o ss cs) = EachInOptional claims scopes o × EachInStatements claims scopes ss × EachInClauses claims scopes cs

  pub EachInHandler : Claims → List Scope → CatchTree → Type 0
  EachInHandler claims scopes no_catch = Unit {0}
  EachInHandler claims scopes (a_catch x s) = claims.name (in_handler scopes x) x × EachInStatement claims (in_handler scopes x) s
