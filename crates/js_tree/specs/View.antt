-- Written by tools/write_tree.py from Tree.antt, src/expression.rt and src/statement.rt: change these, and run it.
-- The tree that an expression or a statement of the code is, without where it lies in memory.
use Rattle.std.specs.Prelude.{List, [], ◌∷◌, Option, Some, None, Box}
use Rattle.std.specs.declared.alloc.Global.{Global}
use Rattle.js_tree.specs.declared.place.Place.{Place}
use Rattle.js_tree.specs.declared.expression.Expression.TheInside as of_expression
use Rattle.js_tree.specs.declared.statement.Statement.TheInside as of_statement
use Rattle.js_tree.specs.declared.expression.Function.{Function as FunctionRecord}
use Rattle.js_tree.specs.declared.expression.FunctionPart.TheVariants as part
use Rattle.js_tree.specs.declared.expression.Property.{Property}
use Rattle.js_tree.specs.declared.expression.Suffix.{Suffix}
use Rattle.js_tree.specs.declared.expression.Operand.{Operand}
use Rattle.js_tree.specs.declared.expression.ExpressionNode.{ExpressionNode}
use Rattle.js_tree.specs.declared.expression.SuffixNode.{SuffixNode}
use Rattle.js_tree.specs.declared.expression.ExpressionNode.TheVariants as expression_node
use Rattle.js_tree.specs.declared.expression.SuffixNode.TheVariants as suffix_node
use Rattle.js_tree.specs.declared.statement.Declared.{Declared}
use Rattle.js_tree.specs.declared.statement.Branch.{Branch}
use Rattle.js_tree.specs.declared.statement.Clause.{Clause}
use Rattle.js_tree.specs.declared.statement.Catch.{Catch}
use Rattle.js_tree.specs.declared.statement.StatementNode.{StatementNode}
use Rattle.js_tree.specs.declared.statement.ForStart.{ForStart}
use Rattle.js_tree.specs.declared.statement.ForTarget.{ForTarget}
use Rattle.js_tree.specs.declared.statement.StatementNode.TheVariants as statement_node
use Rattle.js_tree.specs.declared.statement.ForStart.TheVariants as for_start
use Rattle.js_tree.specs.declared.statement.ForTarget.TheVariants as for_target
use Rattle.js_tree.specs.Tree.{ExpressionTree, Number, Characters, Pattern, True, False, Null, This, Name, Array, Object, Function, Numbered, Suffixed, New, Update, Unary, Chain, Conditional, Assign, Comma, OptionalExpression, absent, present, Properties, no_property, a_property, SuffixTree, a_member, an_index, a_call, Suffixes, no_suffix, a_suffix, Operands, no_operand, an_operand, FunctionTree, a_function, StatementTree, Block, Empty, Evaluate, Debugger, Var, If, DoWhile, While, For, ForIn, Continue, Break, Return, Throw, Switch, Try, Declare, DeclareNumbered, OptionalStatement, omitted, given, Declarations, no_declared, a_declared, Branches, no_branch, a_branch, StartTree, no_start, start_var, start_value, TargetTree, target_value, target_declared, Clauses, no_clause, a_clause, CatchTree, no_catch, a_catch, optional_of, expressions_of, items_of, statements_of}

abbrev pub suffix_of : Place → SuffixNode → SuffixTree
suffix_of p (suffix_node.Member x0) = a_member p x0
suffix_of p (suffix_node.Index x0) = an_index p x0
suffix_of p (suffix_node.Call x0) = a_call p (expressions_of x0)

abbrev pub properties_of : List Property → Properties
properties_of [] = no_property
properties_of (x ∷ xs) = a_property x.name x.value (properties_of xs)

abbrev pub suffixes_of : List Suffix → Suffixes
suffixes_of [] = no_suffix
suffixes_of (x ∷ xs) = a_suffix (suffix_of x.place x.node) (suffixes_of xs)

abbrev pub operands_of : List Operand → Operands
operands_of [] = no_operand
operands_of (x ∷ xs) = an_operand x.place x.op x.value (operands_of xs)

abbrev pub declarations_of : List Declared → Declarations
declarations_of [] = no_declared
declarations_of (x ∷ xs) = a_declared x.name (optional_of x.value) (declarations_of xs)

abbrev pub branches_of : List Branch → Branches
branches_of [] = no_branch
branches_of (x ∷ xs) = a_branch x.condition x.body (branches_of xs)

abbrev pub clauses_of : List Clause → Clauses
clauses_of [] = no_clause
clauses_of (x ∷ xs) = a_clause (optional_of x.test) (statements_of x.body) (clauses_of xs)

abbrev pub function_of : FunctionRecord → FunctionTree
function_of x = a_function x.name x.parameters x.names (statements_of x.body)

abbrev pub optional_box : Option (Box ExpressionTree Global) → OptionalExpression
optional_box None = absent
optional_box (Some x) = present x.value

abbrev pub optional_statement : Option (Box StatementTree Global) → OptionalStatement
optional_statement None = omitted
optional_statement (Some x) = given x.value

abbrev pub start_of : ForStart → StartTree
start_of (for_start.Var x0 x1) = start_var x0 (declarations_of x1)
start_of (for_start.Expression x0) = start_value x0

abbrev pub target_of : ForTarget → TargetTree
target_of (for_target.Expression x0) = target_value x0
target_of (for_target.Declared x0) = target_declared x0.name (optional_of x0.value)

abbrev pub optional_start : Option (Box ForStart Global) → StartTree
optional_start None = no_start
optional_start (Some x) = start_of x.value

abbrev pub optional_catch : Option (Box Catch Global) → CatchTree
optional_catch None = no_catch
optional_catch (Some x) = a_catch x.value.name x.value.body

abbrev pub expression_of : Place → ExpressionNode → ExpressionTree
expression_of p (expression_node.Number x0) = Number p x0
expression_of p (expression_node.Text x0) = Characters p x0
expression_of p (expression_node.Pattern x0) = Pattern p x0
expression_of p expression_node.True = True p
expression_of p expression_node.False = False p
expression_of p expression_node.Null = Null p
expression_of p expression_node.This = This p
expression_of p (expression_node.Name x0) = Name p x0
expression_of p (expression_node.Array x0) = Array p (items_of x0)
expression_of p (expression_node.Object x0) = Object p (properties_of x0)
expression_of p (expression_node.Function (part.Whole x0)) = Function p (function_of x0.value)
expression_of p (expression_node.Function (part.Numbered x0)) = Numbered p x0
expression_of p (expression_node.Suffixed x0 x1) = Suffixed p x0.value (suffixes_of x1)
expression_of p (expression_node.New x0 x1) = New p x0.value (expressions_of x1)
expression_of p (expression_node.Update x0 x1 x2) = Update p x0 x1 x2.value
expression_of p (expression_node.Unary x0 x1) = Unary p x0 x1.value
expression_of p (expression_node.Chain x0 x1) = Chain p x0.value (operands_of x1)
expression_of p (expression_node.Conditional x0 x1 x2) = Conditional p x0.value x1.value x2.value
expression_of p (expression_node.Assign x0 x1 x2) = Assign p x0.value x1 x2.value
expression_of p (expression_node.Comma x0) = Comma p (expressions_of x0)

abbrev pub statement_of : Place → StatementNode → StatementTree
statement_of p (statement_node.Block x0) = Block p (statements_of x0)
statement_of p statement_node.Empty = Empty p
statement_of p (statement_node.Expression x0) = Evaluate p x0.value
statement_of p statement_node.Debugger = Debugger p
statement_of p (statement_node.Var x0) = Var p (declarations_of x0)
statement_of p (statement_node.If x0 x1) = If p (branches_of x0) (optional_statement x1)
statement_of p (statement_node.DoWhile x0 x1) = DoWhile p x0.value x1.value
statement_of p (statement_node.While x0 x1) = While p x0.value x1.value
statement_of p (statement_node.For x0 x1 x2 x3) = For p (optional_start x0) (optional_box x1) (optional_box x2) x3.value
statement_of p (statement_node.ForIn x0 x1 x2) = ForIn p (target_of x0.value) x1.value x2.value
statement_of p statement_node.Continue = Continue p
statement_of p statement_node.Break = Break p
statement_of p (statement_node.Return x0) = Return p (optional_box x0)
statement_of p (statement_node.Throw x0) = Throw p x0.value
statement_of p (statement_node.Switch x0 x1) = Switch p x0.value (clauses_of x1)
statement_of p (statement_node.Try x0 x1 x2) = Try p x0.value (optional_catch x1) (optional_statement x2)
statement_of p (statement_node.Function x0 (part.Whole x1)) = Declare p x0 (function_of x1.value)
statement_of p (statement_node.Function x0 (part.Numbered x1)) = DeclareNumbered p x0 x1

abbrev pub expression_view : of_expression.Inside → ExpressionTree
expression_view x = expression_of x.place x.node

abbrev pub statement_view : of_statement.Inside → StatementTree
statement_view x = statement_of x.place x.node
