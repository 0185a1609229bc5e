-- How the other run's trees stem from the first's: node by node, each place moved.
use Rattle.std.proofs.Common.{◌≡◌, ℕ, List, Option, Some, None, refl, ap}
use Rattle.std.specs.Prelude.{map}
use Rattle.std.specs.Option.{option_map}
use Rattle.js_tree.specs.declared.place.Place.{Place}
use Rattle.js_tree.specs.declared.token.Token.{Token}
use Rattle.js_tree.specs.declared.bound.BoundName.{BoundName}
use Rattle.js_tree.specs.declared.operators.UnaryOp.{UnaryOp}
use Rattle.js_tree.specs.declared.operators.UpdateForm.{UpdateForm}
use Rattle.js_tree.specs.declared.operators.UpdateOp.{UpdateOp}
use Rattle.js_tree.specs.declared.operators.AssignOp.{AssignOp}
use Rattle.js_tree.specs.declared.expression.Property.{Property}
use Rattle.js_tree.specs.declared.expression.Suffix.{Suffix}
use Rattle.js_tree.specs.declared.expression.SuffixNode.{SuffixNode}
use Rattle.js_tree.specs.declared.expression.SuffixNode.TheVariants as suffix
use Rattle.js_tree.specs.declared.expression.Operand.{Operand}
use Rattle.js_tree.specs.declared.expression.Function.{Function as FunctionRecord}
use Rattle.js_tree.specs.declared.statement.Declared.{Declared}
use Rattle.js_tree.specs.declared.statement.Branch.{Branch}
use Rattle.js_tree.specs.declared.statement.Clause.{Clause}
use Rattle.js_tree.specs.declared.statement.Catch.{Catch}
use Rattle.js_tree.specs.Tree.{ExpressionTree, Number, Characters, Pattern, True, False, Null, This, Name, Array, Object, Function, New, Update, Unary, Conditional, Assign, StatementTree, Block, Empty, Evaluate, Debugger, Var, If, DoWhile, While, For, ForIn, Continue, Break, Return, Throw, Switch, Try, Declare, absent, present, StartTree, no_start, start_var, start_value, TargetTree, target_value, target_declared, optional_of, expressions_of, items_of, statements_of}
use Rattle.js_tree.specs.View.{properties_of, function_of, declarations_of, branches_of, clauses_of}
use Rattle.js_tree.specs.Parts.{statement_or_none, catch_or_none}
use Rattle.js_grammar.specs.Operators.{is_target}
use Rattle.js_grammar.specs.Expressions.{joined, chained, suffixed_by}
use Rattle.js_law_induction.proofs.Alike.{stays, moved}
use Rattle.js_law_induction.proofs.Words.{map_same, all_stay}

-- ---- parts, with what their expressions and their statements become

abbrev pub moved_property : (ExpressionTree → ExpressionTree) → Property → Property
moved_property f x = record { name = x.name; value = f x.value }

abbrev pub moved_node : (ExpressionTree → ExpressionTree) → SuffixNode → SuffixNode
moved_node f (suffix.Member x) = suffix.Member x
moved_node f (suffix.Index e) = suffix.Index (f e)
moved_node f (suffix.Call es) = suffix.Call (map f es)

abbrev pub moved_suffix : (Place → Place) → (ExpressionTree → ExpressionTree) → Suffix → Suffix
moved_suffix at f x = record { place = at x.place; node = moved_node f x.node }

abbrev pub moved_operand : (Place → Place) → (ExpressionTree → ExpressionTree) → Operand → Operand
moved_operand at f x = record { place = at x.place; op = x.op; value = f x.value }

abbrev pub moved_function : (StatementTree → StatementTree) → FunctionRecord → FunctionRecord
moved_function g x = record { name = x.name; parameters = x.parameters; names = x.names; body = map g x.body }

abbrev pub moved_declared : (ExpressionTree → ExpressionTree) → Declared → Declared
moved_declared f x = record { name = x.name; value = option_map f x.value }

abbrev pub moved_branch : (ExpressionTree → ExpressionTree) → (StatementTree → StatementTree) → Branch → Branch
moved_branch f g x = record { condition = f x.condition; body = g x.body }

abbrev pub moved_clause : (ExpressionTree → ExpressionTree) → (StatementTree → StatementTree) → Clause → Clause
moved_clause f g x = record { test = option_map f x.test; body = map g x.body }

abbrev pub moved_catch : (StatementTree → StatementTree) → Catch → Catch
moved_catch g x = record { name = x.name; body = g x.body }

-- ---- nodes

-- what trees become, with an equation for each node that reading gives
pub record Moves (at : Place → Place) : Type 0 where
  pub expression : ExpressionTree → ExpressionTree
  pub number : (p : Place) (n : _) → Number (at p) n ≡ expression (Number p n)
  pub characters : (p : Place) (x : List ℕ) → Characters (at p) x ≡ expression (Characters p x)
  pub pattern : (p : Place) (l : _) → Pattern (at p) l ≡ expression (Pattern p l)
  pub is_true : (p : Place) → True (at p) ≡ expression (True p)
  pub is_false : (p : Place) → False (at p) ≡ expression (False p)
  pub null : (p : Place) → Null (at p) ≡ expression (Null p)
  pub this : (p : Place) → This (at p) ≡ expression (This p)
  pub name : (p : Place) (x : BoundName) → Name (at p) x ≡ expression (Name p x)
  pub array : (p : Place) (xs : List (Option ExpressionTree)) → Array (at p) (items_of (map (option_map expression) xs)) ≡ expression (Array p (items_of xs))
  pub object : (p : Place) (xs : List Property) → Object (at p) (properties_of (map (moved_property expression) xs)) ≡ expression (Object p (properties_of xs))
  pub new : (p : Place) (x : ExpressionTree) (xs : List ExpressionTree)
      → New (at p) (expression x) (expressions_of (map expression xs)) ≡ expression (New p x (expressions_of xs))
  pub suffixed : (p : Place) (x : ExpressionTree) (xs : List Suffix)
      → suffixed_by (at p) (expression x) (map (moved_suffix at expression) xs) ≡ expression (suffixed_by p x xs)
  pub update : (p : Place) (form : UpdateForm) (op : UpdateOp) (x : ExpressionTree) → Update (at p) form op (expression x) ≡ expression (Update p form op x)
  pub unary : (p : Place) (op : UnaryOp) (x : ExpressionTree) → Unary (at p) op (expression x) ≡ expression (Unary p op x)
  pub chain : (p : Place) (x : ExpressionTree) (xs : List Operand) → chained (at p) (expression x) (map (moved_operand at expression) xs) ≡ expression (chained p x xs)
  pub conditional : (p : Place) (x v w : ExpressionTree) → Conditional (at p) (expression x) (expression v) (expression w) ≡ expression (Conditional p x v w)
  pub assign : (p : Place) (x : ExpressionTree) (op : AssignOp) (v : ExpressionTree) → Assign (at p) (expression x) op (expression v) ≡ expression (Assign p x op v)
  pub comma : (p : Place) (xs : List ExpressionTree) → joined (at p) (map expression xs) ≡ expression (joined p xs)
  pub target : (x : ExpressionTree) → is_target (expression x) ≡ is_target x
  pub statement : StatementTree → StatementTree
  pub function : (p : Place) (x : FunctionRecord) → Function (at p) (function_of (moved_function statement x)) ≡ expression (Function p (function_of x))
  pub block : (p : Place) (ss : List StatementTree) → Block (at p) (statements_of (map statement ss)) ≡ statement (Block p (statements_of ss))
  pub empty : (p : Place) → Empty (at p) ≡ statement (Empty p)
  pub evaluate : (p : Place) (x : ExpressionTree) → Evaluate (at p) (expression x) ≡ statement (Evaluate p x)
  pub debugger : (p : Place) → Debugger (at p) ≡ statement (Debugger p)
  pub var : (p : Place) (xs : List Declared) → Var (at p) (declarations_of (map (moved_declared expression) xs)) ≡ statement (Var p (declarations_of xs))
  pub if : (p : Place) (xs : List Branch) (s : Option StatementTree)
      → If (at p) (branches_of (map (moved_branch expression statement) xs)) (statement_or_none (option_map statement s)) ≡ statement (If p (branches_of xs) (statement_or_none s))
  pub do_while : (p : Place) (s : StatementTree) (x : ExpressionTree) → DoWhile (at p) (statement s) (expression x) ≡ statement (DoWhile p s x)
  pub while : (p : Place) (x : ExpressionTree) (s : StatementTree) → While (at p) (expression x) (statement s) ≡ statement (While p x s)
  pub start : StartTree → StartTree
  pub no_start_value : no_start ≡ start no_start
  pub start_variables : (p : Place) (xs : List Declared)
      → start_var (at p) (declarations_of (map (moved_declared expression) xs)) ≡ start (start_var p (declarations_of xs))
  pub start_expression : (x : ExpressionTree) → start_value (expression x) ≡ start (start_value x)
  pub for : (p : Place) (u : StartTree) (x y : Option ExpressionTree) (s : StatementTree)
      → For (at p) (start u) (optional_of (option_map expression x)) (optional_of (option_map expression y)) (statement s) ≡ statement (For p u (optional_of x) (optional_of y) s)
  pub header : TargetTree → TargetTree
  pub header_value : (x : ExpressionTree) → target_value (expression x) ≡ header (target_value x)
  pub header_declared : (x : BoundName) (v : Option ExpressionTree)
      → target_declared x (optional_of (option_map expression v)) ≡ header (target_declared x (optional_of v))
  pub for_in : (p : Place) (u : TargetTree) (x : ExpressionTree) (s : StatementTree) → ForIn (at p) (header u) (expression x) (statement s) ≡ statement (ForIn p u x s)
  pub continue : (p : Place) → Continue (at p) ≡ statement (Continue p)
  pub break : (p : Place) → Break (at p) ≡ statement (Break p)
  pub return : (p : Place) → Return (at p) absent ≡ statement (Return p absent)
  pub return_value : (p : Place) (x : ExpressionTree) → Return (at p) (present (expression x)) ≡ statement (Return p (present x))
  pub throw : (p : Place) (x : ExpressionTree) → Throw (at p) (expression x) ≡ statement (Throw p x)
  pub switch : (p : Place) (x : ExpressionTree) (xs : List Clause)
      → Switch (at p) (expression x) (clauses_of (map (moved_clause expression statement) xs)) ≡ statement (Switch p x (clauses_of xs))
  pub try : (p : Place) (s : StatementTree) (x : Option Catch) (y : Option StatementTree)
      → Try (at p) (statement s) (catch_or_none (option_map (moved_catch statement) x)) (statement_or_none (option_map statement y)) ≡ statement (Try p s (catch_or_none x) (statement_or_none y))
  pub declare : (p : Place) (x : BoundName) (f : FunctionRecord) → Declare (at p) x (function_of (moved_function statement f)) ≡ statement (Declare p x (function_of f))

-- ---- places that stay

pub not_moved : (ts : List Token) → moved stays ts ≡ ts
not_moved ts = map_same _ (λ t. refl) ts

pub option_stays : {A : Type 0} (x : Option A) → option_map stays x ≡ x
option_stays None = refl
option_stays (Some x) = refl

node_stays : (x : SuffixNode) → moved_node stays x ≡ x
node_stays (suffix.Member x) = refl
node_stays (suffix.Index e) = refl
node_stays (suffix.Call es) = ap suffix.Call (all_stay es)

pub suffix_stays : (x : Suffix) → moved_suffix stays stays x ≡ x
suffix_stays x = ap (λ n. record { place = x.place; node = n }) (node_stays x.node)

pub function_stays : (x : FunctionRecord) → moved_function stays x ≡ x
function_stays x = ap (λ ss. record { name = x.name; parameters = x.parameters; names = x.names; body = ss }) (all_stay x.body)

pub declared_stays : (x : Declared) → moved_declared stays x ≡ x
declared_stays x = ap (λ v. record { name = x.name; value = v }) (option_stays x.value)

pub clause_stays : (x : Clause) → moved_clause stays stays x ≡ x
clause_stays x = rw (option_stays x.test, all_stay x.body) refl

pub catch_stays : (x : Option Catch) → option_map (moved_catch stays) x ≡ x
catch_stays None = refl
catch_stays (Some x) = refl

-- what trees become where places stay
unfoldable pub unmoved : Moves stays
unmoved = record {
  expression = stays;
  number = λ p n. refl;
  characters = λ p x. refl;
  pattern = λ p l. refl;
  is_true = λ p. refl;
  is_false = λ p. refl;
  null = λ p. refl;
  this = λ p. refl;
  name = λ p x. refl;
  array = λ p xs. ap (λ ys. Array p (items_of ys)) (map_same _ option_stays xs);
  object = λ p xs. ap (λ ys. Object p (properties_of ys)) (map_same _ (λ x. refl) xs);
  new = λ p x xs. ap (λ ys. New p x (expressions_of ys)) (all_stay xs);
  suffixed = λ p x xs. ap (suffixed_by p x) (map_same _ suffix_stays xs);
  update = λ p form op x. refl;
  unary = λ p op x. refl;
  chain = λ p x xs. ap (chained p x) (map_same _ (λ y. refl) xs);
  conditional = λ p x v w. refl;
  assign = λ p x op v. refl;
  comma = λ p xs. ap (joined p) (all_stay xs);
  target = λ x. refl;
  statement = stays;
  function = λ p x. ap (λ f. Function p (function_of f)) (function_stays x);
  block = λ p ss. ap (λ ts. Block p (statements_of ts)) (all_stay ss);
  empty = λ p. refl;
  evaluate = λ p x. refl;
  debugger = λ p. refl;
  var = λ p xs. ap (λ ys. Var p (declarations_of ys)) (map_same _ declared_stays xs);
  if = λ p xs s. rw (map_same (moved_branch stays stays) (λ x. refl) xs, option_stays s) refl;
  do_while = λ p s x. refl;
  while = λ p x s. refl;
  start = stays;
  no_start_value = refl;
  start_variables = λ p xs. ap (λ ys. start_var p (declarations_of ys)) (map_same _ declared_stays xs);
  start_expression = λ x. refl;
  for = λ p u x y s. rw (option_stays x, option_stays y) refl;
  header = stays;
  header_value = λ x. refl;
  header_declared = λ x v. ap (λ w. target_declared x (optional_of w)) (option_stays v);
  for_in = λ p u x s. refl;
  continue = λ p. refl;
  break = λ p. refl;
  return = λ p. refl;
  return_value = λ p x. refl;
  throw = λ p x. refl;
  switch = λ p x xs. ap (λ ys. Switch p x (clauses_of ys)) (map_same _ clause_stays xs);
  try = λ p s x y. rw (catch_stays x, option_stays y) refl;
  declare = λ p x f. ap (λ g. Declare p x (function_of g)) (function_stays f);
}
