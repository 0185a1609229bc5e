-- Parts of trees as the code holds them, and what each comes to among the scopes around it.
use Rattle.std.specs.Prelude.{List, [], ◌∷◌, Option, Some, None, Box}
use Rattle.std.specs.declared.alloc.Global.{Global}
use Rattle.js_tree.specs.declared.expression.FunctionPart.{FunctionPart}
use Rattle.js_tree.specs.declared.expression.FunctionPart.TheVariants.{Whole, Numbered}
use Rattle.js_tree.specs.declared.expression.ExpressionNode.{ExpressionNode}
use Rattle.js_tree.specs.declared.expression.ExpressionNode.TheVariants as expression
use Rattle.js_tree.specs.declared.expression.Property.{Property}
use Rattle.js_tree.specs.declared.expression.Suffix.{Suffix}
use Rattle.js_tree.specs.declared.expression.SuffixNode.{SuffixNode}
use Rattle.js_tree.specs.declared.expression.SuffixNode.TheVariants as suffix
use Rattle.js_tree.specs.declared.expression.Operand.{Operand}
use Rattle.js_tree.specs.declared.statement.StatementNode.{StatementNode}
use Rattle.js_tree.specs.declared.statement.StatementNode.TheVariants as statement
use Rattle.js_tree.specs.declared.statement.Declared.{Declared}
use Rattle.js_tree.specs.declared.statement.Branch.{Branch}
use Rattle.js_tree.specs.declared.statement.ForStart.{ForStart}
use Rattle.js_tree.specs.declared.statement.ForStart.TheVariants as start
use Rattle.js_tree.specs.declared.statement.ForTarget.{ForTarget}
use Rattle.js_tree.specs.declared.statement.ForTarget.TheVariants as target
use Rattle.js_tree.specs.declared.statement.Clause.{Clause}
use Rattle.js_tree.specs.declared.statement.Catch.{Catch}
use Rattle.js_tree.specs.View.{function_of}
use Rattle.js_binding.specs.Scopes.{Scope, bound_in}
use Rattle.js_binding.specs.Resolved.{Placing, pure, ◌>>=◌, hollow, placed, in_handler, expression_in, function_in, statement_in}

-- one part and then another
unfoldable pub both : {A B : Type 0} → Placing A → Placing B → Placing (A × B)
both first second = first >>= (λ a. second >>= (λ b. pure (a, b)))

-- a row, one part after another
unfoldable pub each : {T : Type 0} → (T → Placing T) → List T → Placing (List T)
each place [] = pure []
each place (x ∷ xs) = place x >>= (λ x'. each place xs >>= (λ xs'. pure (x' ∷ xs')))

-- a part that may be missing
unfoldable pub maybe : {T : Type 0} → (T → Placing T) → Option T → Placing (Option T)
maybe place None = pure None
maybe place (Some x) = place x >>= (λ x'. pure (Some x'))

-- a part in a box
unfoldable pub boxed : {T : Type 0} → (T → Placing T) → Box T Global → Placing (Box T Global)
boxed place b = place b.value >>= (λ x'. pure (record b { value = x' }))

-- a function is given its number
abbrev pub function_part_in : List Scope → FunctionPart → Placing FunctionPart
function_part_in scopes (Whole f) = function_in scopes (function_of f.value) >>= (λ n. pure (Numbered n))
function_part_in scopes (Numbered m) = placed hollow >>= (λ n. pure (Numbered n))

-- The parts of an expression, in the order in which they are written.
abbrev pub property_in : List Scope → Property → Placing Property
property_in scopes p = expression_in scopes p.value >>= (λ e'. pure (record p { value = e' }))

abbrev pub suffix_node_in : List Scope → SuffixNode → Placing SuffixNode
suffix_node_in scopes (suffix.Member x) = pure (suffix.Member x)
suffix_node_in scopes (suffix.Index e) = expression_in scopes e >>= (λ e'. pure (suffix.Index e'))
suffix_node_in scopes (suffix.Call es) = each (expression_in scopes) es >>= (λ es'. pure (suffix.Call es'))

abbrev pub suffix_part_in : List Scope → Suffix → Placing Suffix
suffix_part_in scopes s = suffix_node_in scopes s.node >>= (λ node. pure (record s { node = node }))

abbrev pub operand_in : List Scope → Operand → Placing Operand
operand_in scopes o = expression_in scopes o.value >>= (λ e'. pure (record o { value = e' }))

abbrev pub expression_node_in : List Scope → ExpressionNode → Placing ExpressionNode
expression_node_in scopes (expression.Number n) = pure (expression.Number n)
expression_node_in scopes (expression.Text x) = pure (expression.Text x)
expression_node_in scopes (expression.Pattern l) = pure (expression.Pattern l)
expression_node_in scopes expression.True = pure expression.True
expression_node_in scopes expression.False = pure expression.False
expression_node_in scopes expression.Null = pure expression.Null
expression_node_in scopes expression.This = pure expression.This
expression_node_in scopes (expression.Name x) = pure (expression.Name (bound_in scopes x))
expression_node_in scopes (expression.Array all) = each (maybe (expression_in scopes)) all >>= (λ all'. pure (expression.Array all'))
expression_node_in scopes (expression.Object all) = each (property_in scopes) all >>= (λ all'. pure (expression.Object all'))
expression_node_in scopes (expression.Function f) = function_part_in scopes f >>= (λ f'. pure (expression.Function f'))
expression_node_in scopes (expression.Suffixed e all) = both (boxed (expression_in scopes) e) (each (suffix_part_in scopes) all) >>= (λ m. pure (expression.Suffixed m.0 m.1))
expression_node_in scopes (expression.New e all) = both (boxed (expression_in scopes) e) (each (expression_in scopes) all) >>= (λ m. pure (expression.New m.0 m.1))
expression_node_in scopes (expression.Update form op e) = boxed (expression_in scopes) e >>= (λ e'. pure (expression.Update form op e'))
expression_node_in scopes (expression.Unary op e) = boxed (expression_in scopes) e >>= (λ e'. pure (expression.Unary op e'))
expression_node_in scopes (expression.Chain e all) = both (boxed (expression_in scopes) e) (each (operand_in scopes) all) >>= (λ m. pure (expression.Chain m.0 m.1))
expression_node_in scopes (expression.Conditional e a b) = boxed (expression_in scopes) e >>= (λ e'. both (boxed (expression_in scopes) a) (boxed (expression_in scopes) b) >>= (λ m. pure (expression.Conditional e' m.0 m.1)))
expression_node_in scopes (expression.Assign e op v) = both (boxed (expression_in scopes) e) (boxed (expression_in scopes) v) >>= (λ m. pure (expression.Assign m.0 op m.1))
expression_node_in scopes (expression.Comma all) = each (expression_in scopes) all >>= (λ all'. pure (expression.Comma all'))

-- Those of a statement.
abbrev pub declared_in : List Scope → Declared → Placing Declared
declared_in scopes d = maybe (expression_in scopes) d.value >>= (λ o'. pure (record { name = bound_in scopes d.name; value = o' }))

abbrev pub branch_in : List Scope → Branch → Placing Branch
branch_in scopes b =
    expression_in scopes b.condition >>= (λ e'. statement_in scopes b.body >>= (λ s'. pure (record { condition = e'; body = s' })))

abbrev pub start_part_in : List Scope → ForStart → Placing ForStart
start_part_in scopes (start.Var p ds) = each (declared_in scopes) ds >>= (λ ds'. pure (start.Var p ds'))
start_part_in scopes (start.Expression e) = expression_in scopes e >>= (λ e'. pure (start.Expression e'))

abbrev pub target_part_in : List Scope → ForTarget → Placing ForTarget
target_part_in scopes (target.Expression e) = expression_in scopes e >>= (λ e'. pure (target.Expression e'))
target_part_in scopes (target.Declared d) = declared_in scopes d >>= (λ d'. pure (target.Declared d'))

abbrev pub clause_in : List Scope → Clause → Placing Clause
clause_in scopes c =
    maybe (expression_in scopes) c.test >>= (λ o'. each (statement_in scopes) c.body >>= (λ ss'. pure (record { test = o'; body = ss' })))

abbrev pub catch_in : List Scope → Catch → Placing Catch
catch_in scopes c =
    statement_in (in_handler scopes c.name) c.body >>= (λ s'. pure (record { name = bound_in (in_handler scopes c.name) c.name; body = s' }))

abbrev pub statement_node_in : List Scope → StatementNode → Placing StatementNode
statement_node_in scopes (statement.Block all) = each (statement_in scopes) all >>= (λ all'. pure (statement.Block all'))
statement_node_in scopes statement.Empty = pure statement.Empty
statement_node_in scopes (statement.Expression e) = boxed (expression_in scopes) e >>= (λ e'. pure (statement.Expression e'))
statement_node_in scopes statement.Debugger = pure statement.Debugger
statement_node_in scopes (statement.Var all) = each (declared_in scopes) all >>= (λ all'. pure (statement.Var all'))
statement_node_in scopes (statement.If all o) = both (each (branch_in scopes) all) (maybe (boxed (statement_in scopes)) o) >>= (λ m. pure (statement.If m.0 m.1))
statement_node_in scopes (statement.DoWhile s e) = both (boxed (statement_in scopes) s) (boxed (expression_in scopes) e) >>= (λ m. pure (statement.DoWhile m.0 m.1))
statement_node_in scopes (statement.While e s) = both (boxed (expression_in scopes) e) (boxed (statement_in scopes) s) >>= (λ m. pure (statement.While m.0 m.1))
statement_node_in scopes (statement.For a e d s) =
    both (maybe (boxed (start_part_in scopes)) a) (maybe (boxed (expression_in scopes)) e) >>= (λ m. both (maybe (boxed (expression_in scopes)) d) (boxed (statement_in scopes) s) >>= (λ k. pure (statement.For m.0 m.1 k.0 k.1)))
statement_node_in scopes (statement.ForIn t e s) =
    boxed (target_part_in scopes) t >>= (λ t'. both (boxed (expression_in scopes) e) (boxed (statement_in scopes) s) >>= (λ m. pure (statement.ForIn t' m.0 m.1)))
statement_node_in scopes statement.Continue = pure statement.Continue
statement_node_in scopes statement.Break = pure statement.Break
statement_node_in scopes (statement.Return o) = maybe (boxed (expression_in scopes)) o >>= (λ o'. pure (statement.Return o'))
statement_node_in scopes (statement.Throw e) = boxed (expression_in scopes) e >>= (λ e'. pure (statement.Throw e'))
statement_node_in scopes (statement.Switch e all) = both (boxed (expression_in scopes) e) (each (clause_in scopes) all) >>= (λ m. pure (statement.Switch m.0 m.1))
statement_node_in scopes (statement.Try s c o) =
    boxed (statement_in scopes) s >>= (λ s'. both (maybe (boxed (catch_in scopes)) c) (maybe (boxed (statement_in scopes)) o) >>= (λ m. pure (statement.Try s' m.0 m.1)))
statement_node_in scopes (statement.Function x f) = function_part_in scopes f >>= (λ f'. pure (statement.Function (bound_in scopes x) f'))
