-- Whether a program fits together: each number has a function, and each bound leads to a slot of a scope that is there.
use Rattle.std.specs.Prelude.{ℕ, suc, zero, Bool, true, false, ◌&&◌, nat_lt, List, [], ◌∷◌, length, Option, Some, None}
use Rattle.js_tree.specs.declared.bound.Bound.{Bound}
use Rattle.js_tree.specs.declared.bound.Bound.TheVariants.{Unbound, Slot, Own, Global}
use Rattle.js_tree.specs.declared.bound.BoundName.{BoundName}
use Rattle.js_tree.specs.Tree.{ExpressionTree, Number, Characters, Pattern, True, False, Null, This, Name, Array, Object, Function, Numbered, Suffixed, New, Update, Unary, Chain, Conditional, Assign, Comma, OptionalExpression, absent, present, Expressions, no_expression, an_expression, Items, no_item, an_item, Properties, no_property, a_property, SuffixTree, a_member, an_index, a_call, Suffixes, no_suffix, a_suffix, Operands, no_operand, an_operand, FunctionTree, a_function, StatementTree, Block, Empty, Evaluate, Debugger, Var, If, DoWhile, While, For, ForIn, Continue, Break, Return, Throw, Switch, Try, Declare, DeclareNumbered, OptionalStatement, omitted, given, Statements, no_statement, a_statement, Declarations, no_declared, a_declared, Branches, no_branch, a_branch, StartTree, no_start, start_var, start_value, TargetTree, target_value, target_declared, Clauses, no_clause, a_clause, CatchTree, no_catch, a_catch}
use Rattle.js_binding.specs.Numbers.{by_number}
use Rattle.js_binding.specs.Scopes.{Scope, named, itself}
use Rattle.js_binding.specs.Resolved.{around_function, in_handler}

-- whether so many scopes outward stands one with this slot
abbrev pub has_slot : List Scope → ℕ → ℕ → Bool
has_slot [] up slot = false
has_slot (named names ∷ around) zero slot = nat_lt slot (length names)
has_slot (itself x ∷ around) zero slot = false
has_slot (scope ∷ around) (suc up) slot = has_slot around up slot

-- whether so many scopes outward stands one for the own name of a function expression
abbrev pub has_own : List Scope → ℕ → Bool
has_own [] up = false
has_own (named names ∷ around) zero = false
has_own (itself x ∷ around) zero = true
has_own (scope ∷ around) (suc up) = has_own around up

-- the place that a name is bound to is there
abbrev pub bound_fits : List Scope → Bound → Bool
bound_fits scopes Unbound = false
bound_fits scopes (Slot up slot) = has_slot scopes up slot
bound_fits scopes (Own up) = has_own scopes up
bound_fits scopes Global = true

abbrev pub own_fits : List Scope → Option BoundName → Bool
own_fits scopes None = true
own_fits scopes (Some x) = bound_fits scopes x.bound

abbrev pub parameters_fit : List Scope → List BoundName → Bool
parameters_fit scopes [] = true
parameters_fit scopes (x ∷ xs) = bound_fits scopes x.bound && parameters_fit scopes xs

-- at: whether each function fits among the scopes around it, by its number. In a program no function stands whole.
unfoldable mutual
  pub expression_fits : (ℕ → List Scope → Bool) → List Scope → ExpressionTree → Bool
  expression_fits at scopes (Number p n) = true
  expression_fits at scopes (Characters p x) = true
  expression_fits at scopes (Pattern p l) = true
  expression_fits at scopes (True p) = true
  expression_fits at scopes (False p) = true
  expression_fits at scopes (Null p) = true
  expression_fits at scopes (This p) = true
  expression_fits at scopes (Name p x) = bound_fits scopes x.bound
  expression_fits at scopes (Array p all) = items_fits at scopes all
  expression_fits at scopes (Object p all) = properties_fits at scopes all
  expression_fits at scopes (Function p f) = false
  expression_fits at scopes (Numbered p n) = at n scopes
  expression_fits at scopes (Suffixed p e all) = expression_fits at scopes e && suffixes_fits at scopes all
  expression_fits at scopes (New p e all) = expression_fits at scopes e && expressions_fits at scopes all
  expression_fits at scopes (Update p form op e) = expression_fits at scopes e
  expression_fits at scopes (Unary p op e) = expression_fits at scopes e
  expression_fits at scopes (Chain p e all) = expression_fits at scopes e && operands_fits at scopes all
  expression_fits at scopes (Conditional p e a b) = expression_fits at scopes e && (expression_fits at scopes a && expression_fits at scopes b)
  expression_fits at scopes (Assign p e op v) = expression_fits at scopes e && expression_fits at scopes v
  expression_fits at scopes (Comma p all) = expressions_fits at scopes all

  pub optional_fits : (ℕ → List Scope → Bool) → List Scope → OptionalExpression → Bool
  optional_fits at scopes absent = true
  optional_fits at scopes (present e) = expression_fits at scopes e

  pub expressions_fits : (ℕ → List Scope → Bool) → List Scope → Expressions → Bool
  expressions_fits at scopes no_expression = true
  expressions_fits at scopes (an_expression e es) = expression_fits at scopes e && expressions_fits at scopes es

  pub items_fits : (ℕ → List Scope → Bool) → List Scope → Items → Bool
  items_fits at scopes no_item = true
  items_fits at scopes (an_item o os) = optional_fits at scopes o && items_fits at scopes os

  pub properties_fits : (ℕ → List Scope → Bool) → List Scope → Properties → Bool
  properties_fits at scopes no_property = true
  properties_fits at scopes (a_property x e ps) = expression_fits at scopes e && properties_fits at scopes ps

  pub suffix_fits : (ℕ → List Scope → Bool) → List Scope → SuffixTree → Bool
  suffix_fits at scopes (a_member p x) = true
  suffix_fits at scopes (an_index p e) = expression_fits at scopes e
  suffix_fits at scopes (a_call p es) = expressions_fits at scopes es

  pub suffixes_fits : (ℕ → List Scope → Bool) → List Scope → Suffixes → Bool
  suffixes_fits at scopes no_suffix = true
  suffixes_fits at scopes (a_suffix s ss) = suffix_fits at scopes s && suffixes_fits at scopes ss

  pub operands_fits : (ℕ → List Scope → Bool) → List Scope → Operands → Bool
  operands_fits at scopes no_operand = true
  operands_fits at scopes (an_operand p op e os) = expression_fits at scopes e && operands_fits at scopes os

  pub function_fits : (ℕ → List Scope → Bool) → List Scope → FunctionTree → Bool
  function_fits at scopes (a_function own parameters names body) =
      let around = around_function scopes own in
      own_fits around own && (parameters_fit (named names ∷ around) parameters && statements_fits at (named names ∷ around) body)

  pub statement_fits : (ℕ → List Scope → Bool) → List Scope → StatementTree → Bool
  statement_fits at scopes (Block p ss) = statements_fits at scopes ss
  statement_fits at scopes (Empty p) = true
  statement_fits at scopes (Evaluate p e) = expression_fits at scopes e
  statement_fits at scopes (Debugger p) = true
  statement_fits at scopes (Var p ds) = declarations_fits at scopes ds
  statement_fits at scopes (If p bs o) = branches_fits at scopes bs && otherwise_fits at scopes o
  statement_fits at scopes (DoWhile p s e) = statement_fits at scopes s && expression_fits at scopes e
  statement_fits at scopes (While p e s) = expression_fits at scopes e && statement_fits at scopes s
  statement_fits at scopes (For p a e d s) = start_fits at scopes a && (optional_fits at scopes e && (optional_fits at scopes d && statement_fits at scopes s))
  statement_fits at scopes (ForIn p t e s) = target_fits at scopes t && (expression_fits at scopes e && statement_fits at scopes s)
  statement_fits at scopes (Continue p) = true
  statement_fits at scopes (Break p) = true
  statement_fits at scopes (Return p o) = optional_fits at scopes o
  statement_fits at scopes (Throw p e) = expression_fits at scopes e
  statement_fits at scopes (Switch p e cs) = expression_fits at scopes e && clauses_fits at scopes cs
  statement_fits at scopes (Try p s c o) = statement_fits at scopes s && (handler_fits at scopes c && otherwise_fits at scopes o)
  statement_fits at scopes (Declare p x f) = false
  statement_fits at scopes (DeclareNumbered p x n) = bound_fits scopes x.bound && at n scopes

  pub otherwise_fits : (ℕ → List Scope → Bool) → List Scope → OptionalStatement → Bool
  otherwise_fits at scopes omitted = true
  otherwise_fits at scopes (given s) = statement_fits at scopes s

  pub statements_fits : (ℕ → List Scope → Bool) → List Scope → Statements → Bool
  statements_fits at scopes no_statement = true
  statements_fits at scopes (a_statement s ss) = statement_fits at scopes s && statements_fits at scopes ss

  pub declarations_fits : (ℕ → List Scope → Bool) → List Scope → Declarations → Bool
  declarations_fits at scopes no_declared = true
  declarations_fits at scopes (a_declared x o ds) = bound_fits scopes x.bound && (optional_fits at scopes o && declarations_fits at scopes ds)

  pub branches_fits : (ℕ → List Scope → Bool) → List Scope → Branches → Bool
  branches_fits at scopes no_branch = true
  branches_fits at scopes (a_branch e s bs) = expression_fits at scopes e && (statement_fits at scopes s && branches_fits at scopes bs)

  pub start_fits : (ℕ → List Scope → Bool) → List Scope → StartTree → Bool
  start_fits at scopes no_start = true
  start_fits at scopes (start_var p ds) = declarations_fits at scopes ds
  start_fits at scopes (start_value e) = expression_fits at scopes e

  pub target_fits : (ℕ → List Scope → Bool) → List Scope → TargetTree → Bool
  target_fits at scopes (target_value e) = expression_fits at scopes e
  target_fits at scopes (target_declared x o) = bound_fits scopes x.bound && optional_fits at scopes o

  pub clauses_fits : (ℕ → List Scope → Bool) → List Scope → Clauses → Bool
  clauses_fits at scopes no_clause = true
  clauses_fits at scopes (a_clause o ss cs) = optional_fits at scopes o && (statements_fits at scopes ss && clauses_fits at scopes cs)

  pub handler_fits : (ℕ → List Scope → Bool) → List Scope → CatchTree → Bool
  handler_fits at scopes no_catch = true
  handler_fits at scopes (a_catch x s) = bound_fits (in_handler scopes x) x.bound && statement_fits at (in_handler scopes x) s

-- No function has a number past the last.
abbrev pub no_function : List Scope → Bool
no_function scopes = false

abbrev pub program_fits : Statements → List FunctionTree → Bool
program_fits body functions = statements_fits (by_number no_function (λ at f scopes. function_fits at scopes f) 0 functions) [] body
