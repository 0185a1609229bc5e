-- Each tree that lies in a tree is smaller than it.
use Rattle.std.specs.Prelude.{ℕ, ◌+◌, ◌≤◌, max, List, [], ◌∷◌, Option, Some, None, Box}
use Rattle.std.specs.declared.alloc.Global.{Global}
use Rattle.std.proofs.Common.{arith}
use denote.Param.Weighed.{most}
use Rattle.js_tree.specs.declared.place.Place.{Place}
use Rattle.js_tree.specs.declared.expression.Expression.TheInside as of_expression
use Rattle.js_tree.specs.declared.expression.ExpressionNode.{ExpressionNode}
use Rattle.js_tree.specs.declared.expression.ExpressionNode.TheVariants as node
use Rattle.js_tree.specs.declared.expression.FunctionPart.TheVariants as part
use Rattle.js_tree.specs.declared.expression.Function.{Function as FunctionRecord}
use Rattle.js_tree.specs.declared.expression.Property.{Property}
use Rattle.js_tree.specs.declared.expression.Suffix.{Suffix}
use Rattle.js_tree.specs.declared.expression.SuffixNode.{SuffixNode}
use Rattle.js_tree.specs.declared.expression.SuffixNode.TheVariants as suffix
use Rattle.js_tree.specs.declared.expression.Operand.{Operand}
use Rattle.js_tree.specs.declared.statement.Statement.TheInside as of_statement
use Rattle.js_tree.specs.declared.statement.StatementNode.{StatementNode}
use Rattle.js_tree.specs.declared.statement.StatementNode.TheVariants as action
use Rattle.js_tree.specs.declared.statement.Declared.{Declared}
use Rattle.js_tree.specs.declared.statement.Branch.{Branch}
use Rattle.js_tree.specs.declared.statement.ForStart.{ForStart}
use Rattle.js_tree.specs.declared.statement.ForStart.TheVariants as start
use Rattle.js_tree.specs.declared.statement.ForTarget.{ForTarget}
use Rattle.js_tree.specs.declared.statement.ForTarget.TheVariants as target
use Rattle.js_tree.specs.declared.statement.Clause.{Clause}
use Rattle.js_tree.specs.declared.statement.Catch.{Catch}
use Rattle.js_tree.specs.declared.expression.Expression.TheDeep.{deep-Expression, deep-ExpressionNode, deep-Function, deep-Property, deep-Suffix, deep-SuffixNode, deep-Operand, deep-Statement, deep-StatementNode, deep-Declared, deep-Branch, deep-ForStart, deep-ForTarget, deep-Clause}
use Rattle.js_tree.specs.declared.expression.Expression.TheShapes.{weighed-ExpressionNode-Array-0-at-1}
use Rattle.js_tree.specs.Tree.{ExpressionTree, StatementTree, optional_of, expressions_of, items_of, statements_of}
use Rattle.js_tree.specs.Size.{expression_size, optional_expression_size, expressions_size, items_size, properties_size, suffix_size, suffixes_size, operands_size, function_size, statement_size, statements_size, declarations_size, branches_size, start_size, target_size, clauses_size}
use Rattle.js_tree.specs.View.{expression_of, expression_view, statement_of, statement_view, properties_of, suffix_of, suffixes_of, operands_of, function_of, declarations_of, branches_of, clauses_of, start_of, target_of}

-- ---- lists

most_expressions : (es : List ExpressionTree) → most (λ e. expression_size e + 1) es ≤ expressions_size (expressions_of es)
most_expressions [] = omega arith
most_expressions (e ∷ es) = omega (arith, most_expressions es)

most_statements : (ss : List StatementTree) → most (λ s. statement_size s + 1) ss ≤ statements_size (statements_of ss)
most_statements [] = omega arith
most_statements (s ∷ ss) = omega (arith, most_statements ss)

abbrev item_weight : Option ExpressionTree → ℕ
item_weight = weighed-ExpressionNode-Array-0-at-1.weight ExpressionTree (λ e. expression_size e + 1)

item_smaller : (o : Option ExpressionTree) → item_weight o ≤ optional_expression_size (optional_of o)
item_smaller None = omega arith
item_smaller (Some e) = omega arith

most_items : (os : List (Option ExpressionTree)) → most item_weight os ≤ items_size (items_of os)
most_items [] = omega arith
most_items (o ∷ os) = omega (arith, item_smaller o, most_items os)

most_properties : (ps : List Property) → most deep-Property ps ≤ properties_size (properties_of ps)
most_properties [] = omega arith
most_properties (p ∷ ps) = omega (arith, most_properties ps)

suffix_smaller : (p : Place) (n : SuffixNode) → deep-SuffixNode n ≤ suffix_size (suffix_of p n)
suffix_smaller p (suffix.Member name) = omega arith
suffix_smaller p (suffix.Index e) = omega arith
suffix_smaller p (suffix.Call es) = omega (arith, most_expressions es)

most_suffixes : (ss : List Suffix) → most deep-Suffix ss ≤ suffixes_size (suffixes_of ss)
most_suffixes [] = omega arith
most_suffixes (s ∷ ss) = omega (arith, suffix_smaller s.place s.node, most_suffixes ss)

most_operands : (os : List Operand) → most deep-Operand os ≤ operands_size (operands_of os)
most_operands [] = omega arith
most_operands (o ∷ os) = omega (arith, most_operands os)

function_smaller : (f : FunctionRecord) → deep-Function f ≤ function_size (function_of f)
function_smaller f = omega (arith, most_statements f.body)

declared_smaller : (d : Declared) → deep-Declared d ≤ optional_expression_size (optional_of d.value)
declared_smaller d = by_value d.value
  where
    by_value : (o : Option ExpressionTree) → deep-Declared (record { name = d.name; value = o }) ≤ optional_expression_size (optional_of o)
    by_value None = omega arith
    by_value (Some e) = omega arith

most_declared : (ds : List Declared) → most deep-Declared ds ≤ declarations_size (declarations_of ds)
most_declared [] = omega arith
most_declared (d ∷ ds) = omega (arith, declared_smaller d, most_declared ds)

most_branches : (bs : List Branch) → most deep-Branch bs ≤ branches_size (branches_of bs)
most_branches [] = omega arith
most_branches (b ∷ bs) = omega (arith, most_branches bs)

clause_smaller : (c : Clause) → deep-Clause c ≤ optional_expression_size (optional_of c.test) + statements_size (statements_of c.body)
clause_smaller c = by_test c.test
  where
    by_test : (o : Option ExpressionTree) → deep-Clause (record { test = o; body = c.body }) ≤ optional_expression_size (optional_of o) + statements_size (statements_of c.body)
    by_test None = omega (arith, most_statements c.body)
    by_test (Some e) = omega (arith, most_statements c.body)

most_clauses : (cs : List Clause) → most deep-Clause cs ≤ clauses_size (clauses_of cs)
most_clauses [] = omega arith
most_clauses (c ∷ cs) = omega (arith, clause_smaller c, most_clauses cs)

-- ---- expressions

node_smaller : (p : Place) (n : ExpressionNode) → max (deep-ExpressionNode n) 0 ≤ expression_size (expression_of p n)
node_smaller p (node.Array all) = omega (arith, most_items all)
node_smaller p (node.Object all) = omega (arith, most_properties all)
node_smaller p (node.Function (part.Whole f)) = omega (arith, function_smaller f.value)
node_smaller p (node.Function (part.Numbered n)) = omega arith
node_smaller p (node.Suffixed e all) = omega (arith, most_suffixes all)
node_smaller p (node.New e all) = omega (arith, most_expressions all)
node_smaller p (node.Chain e all) = omega (arith, most_operands all)
node_smaller p (node.Comma all) = omega (arith, most_expressions all)
node_smaller p _ = omega arith

pub expression_smaller : (e : of_expression.Inside) → Unit {0} → deep-Expression e ≤ expression_size (expression_view e)
expression_smaller e h = node_smaller e.place e.node

-- ---- statements

start_smaller : (s : ForStart) → deep-ForStart s ≤ start_size (start_of s)
start_smaller (start.Var p ds) = omega (arith, most_declared ds)
start_smaller (start.Expression e) = omega arith

target_smaller : (t : ForTarget) → deep-ForTarget t ≤ target_size (target_of t)
target_smaller (target.Expression e) = omega arith
target_smaller (target.Declared d) = omega (arith, declared_smaller d)

if_smaller : (p : Place) (bs : List Branch) (s : Option (Box StatementTree Global)) → deep-StatementNode (action.If bs s) ≤ statement_size (statement_of p (action.If bs s))
if_smaller p bs None = omega (arith, most_branches bs)
if_smaller p bs (Some s) = omega (arith, most_branches bs)

return_smaller : (p : Place) (e : Option (Box ExpressionTree Global)) → deep-StatementNode (action.Return e) ≤ statement_size (statement_of p (action.Return e))
return_smaller p None = omega arith
return_smaller p (Some e) = omega arith

for_smaller : (p : Place) (a : Option (Box ForStart Global)) (c e : Option (Box ExpressionTree Global)) (s : Box StatementTree Global)
    → deep-StatementNode (action.For a c e s) ≤ statement_size (statement_of p (action.For a c e s))
for_smaller p None None None s = omega arith
for_smaller p None None (Some e) s = omega arith
for_smaller p None (Some c) None s = omega arith
for_smaller p None (Some c) (Some e) s = omega arith
for_smaller p (Some a) None None s = omega (arith, start_smaller a.value)
for_smaller p (Some a) None (Some e) s = omega (arith, start_smaller a.value)
for_smaller p (Some a) (Some c) None s = omega (arith, start_smaller a.value)
for_smaller p (Some a) (Some c) (Some e) s = omega (arith, start_smaller a.value)

try_smaller : (p : Place) (s : Box StatementTree Global) (c : Option (Box Catch Global)) (f : Option (Box StatementTree Global))
    → deep-StatementNode (action.Try s c f) ≤ statement_size (statement_of p (action.Try s c f))
try_smaller p s None None = omega arith
try_smaller p s None (Some f) = omega arith
try_smaller p s (Some c) None = omega arith
try_smaller p s (Some c) (Some f) = omega arith

action_smaller : (p : Place) (n : StatementNode) → max (deep-StatementNode n) 0 ≤ statement_size (statement_of p n)
action_smaller p (action.Block ss) = omega (arith, most_statements ss)
action_smaller p (action.Var ds) = omega (arith, most_declared ds)
action_smaller p (action.If bs s) = omega (arith, if_smaller p bs s)
action_smaller p (action.For a c e s) = omega (arith, for_smaller p a c e s)
action_smaller p (action.ForIn t e s) = omega (arith, target_smaller t.value)
action_smaller p (action.Return e) = omega (arith, return_smaller p e)
action_smaller p (action.Switch e cs) = omega (arith, most_clauses cs)
action_smaller p (action.Try s c f) = omega (arith, try_smaller p s c f)
action_smaller p (action.Function x (part.Whole f)) = omega (arith, function_smaller f.value)
action_smaller p (action.Function x (part.Numbered n)) = omega arith
action_smaller p _ = omega arith

pub statement_smaller : (s : of_statement.Inside) → Unit {0} → deep-Statement s ≤ statement_size (statement_view s)
statement_smaller s h = action_smaller s.place s.node
