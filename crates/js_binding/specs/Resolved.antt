-- What a script is once its names are resolved: each name has the place where it stands, and each function stands by its
-- number in a list of functions (ECMA-262 5.1, sections 10.2 and 10.5).
use Rattle.std.specs.Prelude.{ℕ, List, [], ◌∷◌, ◌++◌, length, map, Option, Some, None, option_map, slice_set}
use Rattle.js_tree.specs.declared.bound.BoundName.{BoundName}
use Rattle.js_tree.specs.Tree.{ExpressionTree, Number, Characters, Pattern, True, False, Null, This, Name, Array, Object, Function, Numbered, Suffixed, New, Update, Unary, Chain, Conditional, Assign, Comma, OptionalExpression, absent, present, Expressions, no_expression, an_expression, Items, no_item, an_item, Properties, no_property, a_property, SuffixTree, a_member, an_index, a_call, Suffixes, no_suffix, a_suffix, Operands, no_operand, an_operand, FunctionTree, a_function, StatementTree, Block, Empty, Evaluate, Debugger, Var, If, DoWhile, While, For, ForIn, Continue, Break, Return, Throw, Switch, Try, Declare, DeclareNumbered, OptionalStatement, omitted, given, Statements, no_statement, a_statement, Declarations, no_declared, a_declared, Branches, no_branch, a_branch, StartTree, no_start, start_var, start_value, TargetTree, target_value, target_declared, Clauses, no_clause, a_clause, CatchTree, no_catch, a_catch}
use Rattle.js_tree.specs.Tree.{statements_of}
use Rattle.js_binding.specs.Names.{names_of}
use Rattle.js_binding.specs.Scopes.{Scope, named, itself, bound_in}

-- what is made where some functions have their numbers already, and the functions behind it
abbrev pub Placing : Type 0 → Type 0
Placing A = List FunctionTree → A × List FunctionTree

abbrev pub pure : {A : Type 0} → A → Placing A
pure made = λ functions. (made, functions)

-- one thing after another
infixl 10 ◌>>=◌
abbrev pub ◌>>=◌ : {A B : Type 0} → Placing A → (A → Placing B) → Placing B
first >>= then = λ functions. let made = first functions in then made.0 made.1

-- a function without names and statements
abbrev pub hollow : FunctionTree
hollow = a_function None [] [] no_statement

-- The next number is this function's.
abbrev pub placed : FunctionTree → Placing ℕ
placed f = λ functions. (length functions, functions ++ f ∷ [])

-- A function takes the next number, and those in its body take theirs. Then it stands in its place, with its new body.
abbrev pub numbered : (Statements → FunctionTree) → Placing Statements → Placing ℕ
numbered with_body body = λ functions.
    let made = body (functions ++ hollow ∷ []) in
    (length functions, slice_set made.1 (length functions) (with_body made.0))

-- A function expression with a name of its own has a scope for it, around that of its body (section 13).
abbrev pub around_function : List Scope → Option BoundName → List Scope
around_function scopes None = scopes
around_function scopes (Some x) = itself x.name ∷ scopes

-- the scopes of a body: that of the call is the innermost, with the function's names
abbrev pub in_body : List Scope → List BoundName → Statements → List Scope
in_body around parameters body = named (names_of parameters body) ∷ around

-- The scope of a `catch` has one name (section 12.14).
abbrev pub in_handler : List Scope → BoundName → List Scope
in_handler scopes x = named (x.name ∷ []) ∷ scopes

-- Each tree among the scopes around it. Names are bound where they stand, and all else stays. A function that stands by
-- a number before it has one, as in no script that is read, counts as one without names and statements.
unfoldable mutual
  pub expression_in : List Scope → ExpressionTree → Placing ExpressionTree
  expression_in scopes (Number p n) = pure (Number p n)
  expression_in scopes (Characters p x) = pure (Characters p x)
  expression_in scopes (Pattern p l) = pure (Pattern p l)
  expression_in scopes (True p) = pure (True p)
  expression_in scopes (False p) = pure (False p)
  expression_in scopes (Null p) = pure (Null p)
  expression_in scopes (This p) = pure (This p)
  expression_in scopes (Name p x) = pure (Name p (bound_in scopes x))
  expression_in scopes (Array p all) = items_in scopes all >>= (λ all'. pure (Array p all'))
  expression_in scopes (Object p all) = properties_in scopes all >>= (λ all'. pure (Object p all'))
  expression_in scopes (Function p f) = function_in scopes f >>= (λ n. pure (Numbered p n))
  expression_in scopes (Numbered p n) = placed hollow >>= (λ n'. pure (Numbered p n'))
  expression_in scopes (Suffixed p e all) = expression_in scopes e >>= (λ e'. suffixes_in scopes all >>= (λ all'. pure (Suffixed p e' all')))
  expression_in scopes (New p e all) = expression_in scopes e >>= (λ e'. expressions_in scopes all >>= (λ all'. pure (New p e' all')))
  expression_in scopes (Update p form op e) = expression_in scopes e >>= (λ e'. pure (Update p form op e'))
  expression_in scopes (Unary p op e) = expression_in scopes e >>= (λ e'. pure (Unary p op e'))
  expression_in scopes (Chain p e all) = expression_in scopes e >>= (λ e'. operands_in scopes all >>= (λ all'. pure (Chain p e' all')))
  expression_in scopes (Conditional p e a b) = expression_in scopes e >>= (λ e'. expression_in scopes a >>= (λ a'. expression_in scopes b >>= (λ b'. pure (Conditional p e' a' b'))))
  expression_in scopes (Assign p e op v) = expression_in scopes e >>= (λ e'. expression_in scopes v >>= (λ v'. pure (Assign p e' op v')))
  expression_in scopes (Comma p all) = expressions_in scopes all >>= (λ all'. pure (Comma p all'))

  pub optional_in : List Scope → OptionalExpression → Placing OptionalExpression
  optional_in scopes absent = pure absent
  optional_in scopes (present e) = expression_in scopes e >>= (λ e'. pure (present e'))

  pub expressions_in : List Scope → Expressions → Placing Expressions
  expressions_in scopes no_expression = pure no_expression
  expressions_in scopes (an_expression e es) = expression_in scopes e >>= (λ e'. expressions_in scopes es >>= (λ es'. pure (an_expression e' es')))

  pub items_in : List Scope → Items → Placing Items
  items_in scopes no_item = pure no_item
  items_in scopes (an_item o os) = optional_in scopes o >>= (λ o'. items_in scopes os >>= (λ os'. pure (an_item o' os')))

  pub properties_in : List Scope → Properties → Placing Properties
  properties_in scopes no_property = pure no_property
  properties_in scopes (a_property x e ps) = expression_in scopes e >>= (λ e'. properties_in scopes ps >>= (λ ps'. pure (a_property x e' ps')))

  pub suffix_in : List Scope → SuffixTree → Placing SuffixTree
  suffix_in scopes (a_member p x) = pure (a_member p x)
  suffix_in scopes (an_index p e) = expression_in scopes e >>= (λ e'. pure (an_index p e'))
  suffix_in scopes (a_call p es) = expressions_in scopes es >>= (λ es'. pure (a_call p es'))

  pub suffixes_in : List Scope → Suffixes → Placing Suffixes
  suffixes_in scopes no_suffix = pure no_suffix
  suffixes_in scopes (a_suffix s ss) = suffix_in scopes s >>= (λ s'. suffixes_in scopes ss >>= (λ ss'. pure (a_suffix s' ss')))

  pub operands_in : List Scope → Operands → Placing Operands
  operands_in scopes no_operand = pure no_operand
  operands_in scopes (an_operand p op e os) = expression_in scopes e >>= (λ e'. operands_in scopes os >>= (λ os'. pure (an_operand p op e' os')))

  pub function_in : List Scope → FunctionTree → Placing ℕ
  function_in scopes (a_function own parameters names body) =
      let around = around_function scopes own in
      let inside = in_body around parameters body in
      numbered
      (λ made. a_function (option_map (bound_in around) own) (map (bound_in inside) parameters) (names_of parameters body) made)
      (statements_in inside body)

  pub statement_in : List Scope → StatementTree → Placing StatementTree
  statement_in scopes (Block p ss) = statements_in scopes ss >>= (λ ss'. pure (Block p ss'))
  statement_in scopes (Empty p) = pure (Empty p)
  statement_in scopes (Evaluate p e) = expression_in scopes e >>= (λ e'. pure (Evaluate p e'))
  statement_in scopes (Debugger p) = pure (Debugger p)
  statement_in scopes (Var p ds) = declarations_in scopes ds >>= (λ ds'. pure (Var p ds'))
  statement_in scopes (If p bs o) = branches_in scopes bs >>= (λ bs'. otherwise_in scopes o >>= (λ o'. pure (If p bs' o')))
  statement_in scopes (DoWhile p s e) = statement_in scopes s >>= (λ s'. expression_in scopes e >>= (λ e'. pure (DoWhile p s' e')))
  statement_in scopes (While p e s) = expression_in scopes e >>= (λ e'. statement_in scopes s >>= (λ s'. pure (While p e' s')))
  statement_in scopes (For p a e d s) = start_in scopes a >>= (λ a'. optional_in scopes e >>= (λ e'. optional_in scopes d >>= (λ d'. statement_in scopes s >>= (λ s'. pure (For p a' e' d' s')))))
  statement_in scopes (ForIn p t e s) = target_in scopes t >>= (λ t'. expression_in scopes e >>= (λ e'. statement_in scopes s >>= (λ s'. pure (ForIn p t' e' s'))))
  statement_in scopes (Continue p) = pure (Continue p)
  statement_in scopes (Break p) = pure (Break p)
  statement_in scopes (Return p o) = optional_in scopes o >>= (λ o'. pure (Return p o'))
  statement_in scopes (Throw p e) = expression_in scopes e >>= (λ e'. pure (Throw p e'))
  statement_in scopes (Switch p e cs) = expression_in scopes e >>= (λ e'. clauses_in scopes cs >>= (λ cs'. pure (Switch p e' cs')))
  statement_in scopes (Try p s c o) = statement_in scopes s >>= (λ s'. handler_in scopes c >>= (λ c'. otherwise_in scopes o >>= (λ o'. pure (Try p s' c' o'))))
  statement_in scopes (Declare p x f) = function_in scopes f >>= (λ n. pure (DeclareNumbered p (bound_in scopes x) n))
  statement_in scopes (DeclareNumbered p x n) = placed hollow >>= (λ n'. pure (DeclareNumbered p (bound_in scopes x) n'))

  pub otherwise_in : List Scope → OptionalStatement → Placing OptionalStatement
  otherwise_in scopes omitted = pure omitted
  otherwise_in scopes (given s) = statement_in scopes s >>= (λ s'. pure (given s'))

  pub statements_in : List Scope → Statements → Placing Statements
  statements_in scopes no_statement = pure no_statement
  statements_in scopes (a_statement s ss) = statement_in scopes s >>= (λ s'. statements_in scopes ss >>= (λ ss'. pure (a_statement s' ss')))

  pub declarations_in : List Scope → Declarations → Placing Declarations
  declarations_in scopes no_declared = pure no_declared
  declarations_in scopes (a_declared x o ds) = optional_in scopes o >>= (λ o'. declarations_in scopes ds >>= (λ ds'. pure (a_declared (bound_in scopes x) o' ds')))

  pub branches_in : List Scope → Branches → Placing Branches
  branches_in scopes no_branch = pure no_branch
  branches_in scopes (a_branch e s bs) = expression_in scopes e >>= (λ e'. statement_in scopes s >>= (λ s'. branches_in scopes bs >>= (λ bs'. pure (a_branch e' s' bs'))))

  pub start_in : List Scope → StartTree → Placing StartTree
  start_in scopes no_start = pure no_start
  start_in scopes (start_var p ds) = declarations_in scopes ds >>= (λ ds'. pure (start_var p ds'))
  start_in scopes (start_value e) = expression_in scopes e >>= (λ e'. pure (start_value e'))

  pub target_in : List Scope → TargetTree → Placing TargetTree
  target_in scopes (target_value e) = expression_in scopes e >>= (λ e'. pure (target_value e'))
  target_in scopes (target_declared x o) = optional_in scopes o >>= (λ o'. pure (target_declared (bound_in scopes x) o'))

  pub clauses_in : List Scope → Clauses → Placing Clauses
  clauses_in scopes no_clause = pure no_clause
  clauses_in scopes (a_clause o ss cs) = optional_in scopes o >>= (λ o'. statements_in scopes ss >>= (λ ss'. clauses_in scopes cs >>= (λ cs'. pure (a_clause o' ss' cs'))))

  pub handler_in : List Scope → CatchTree → Placing CatchTree
  handler_in scopes no_catch = pure no_catch
  handler_in scopes (a_catch x s) = statement_in (in_handler scopes x) s >>= (λ s'. pure (a_catch (bound_in (in_handler scopes x) x) s'))

-- The body and the functions of a script, whose outermost names are those of the global object.
abbrev pub resolved : List StatementTree → Statements × List FunctionTree
resolved script = statements_in [] (statements_of script) []
