-- What a script does, place by place, in the order in which it is written: the sites of a tree whose names are resolved.
-- A global name is one that no scope has (ECMA-262 5.1, section 10.2.2.1).
use Rattle.std.specs.Prelude.{ℕ, ◌+◌, Bool, true, false, List, [], ◌∷◌, ◌++◌, Option, Some, None, if◌then◌else◌}
use Rattle.js_tree.specs.declared.place.Place.{Place}
use Rattle.js_tree.specs.declared.bound.Bound.{Bound}
use Rattle.js_tree.specs.declared.bound.Bound.TheVariants.{Global}
use Rattle.js_tree.specs.declared.bound.BoundName.{BoundName}
use Rattle.js_tree.specs.declared.operators.BinaryOp.{BinaryOp}
use Rattle.js_tree.specs.declared.operators.BinaryOp.TheVariants.{Equal, NotEqual, StrictEqual, StrictNotEqual}
use Rattle.js_tree.specs.declared.operators.AssignOp.{AssignOp}
use Rattle.js_tree.specs.declared.operators.AssignOp.TheVariants.{Set}
use Rattle.js_tree.specs.Tree.{ExpressionTree, Number, Characters, Pattern, True, False, Null, This, Name, Array, Object, Function, Numbered, Suffixed, New, Update, Unary, Chain, Conditional, Assign, Comma, OptionalExpression, absent, present, Expressions, no_expression, an_expression, Items, no_item, an_item, Properties, no_property, a_property, SuffixTree, a_member, an_index, a_call, Suffixes, no_suffix, a_suffix, Operands, no_operand, an_operand, StatementTree, Block, Empty, Evaluate, Debugger, Var, If, DoWhile, While, For, ForIn, Continue, Break, Return, Throw, Switch, Try, Declare, DeclareNumbered, OptionalStatement, omitted, given, Statements, no_statement, a_statement, Declarations, no_declared, a_declared, Branches, no_branch, a_branch, StartTree, no_start, start_var, start_value, TargetTree, target_value, target_declared, Clauses, no_clause, a_clause, CatchTree, no_catch, a_catch}
use Rattle.js_sites.specs.declared.site.Site.{Site}
use Rattle.js_sites.specs.declared.site.Site.TheVariants as site

-- ---- names

-- the name, where it is bound to the global object
abbrev pub global_by : Bound → List ℕ → Option (List ℕ)
global_by Global x = Some x
global_by b x = None

-- the global name that an expression is
abbrev pub global_name : ExpressionTree → Option (List ℕ)
global_name (Name p x) = global_by x.bound x.name
global_name e = None

-- the name that an expression is, whatever its scope
abbrev pub own_name : ExpressionTree → Option (List ℕ)
own_name (Name p x) = Some x.name
own_name e = None

-- the name that an expression begins with, alone or before suffixes
abbrev pub leading_name : ExpressionTree → Option (List ℕ)
leading_name (Name p x) = Some x.name
leading_name (Suffixed p e all) = own_name e
leading_name e = None

abbrev pub named_by : Place → Option (List ℕ) → List Site
named_by p None = []
named_by p (Some x) = site.Named p x ∷ []

abbrev pub written_by : Option (List ℕ) → List Site
written_by None = []
written_by (Some x) = site.Written x ∷ []

abbrev pub constructed_by : Place → Option (List ℕ) → List Site
constructed_by p None = []
constructed_by p (Some x) = site.Constructed p x ∷ []

-- `new` before a global name
abbrev pub constructed_sites : ExpressionTree → List Site
constructed_sites (Name p x) = constructed_by p (global_by x.bound x.name)
constructed_sites e = []

abbrev pub function_site : Place → ℕ → List Site
function_site p n = site.Function p None n ∷ []

-- a function declaration writes its name
abbrev pub declared_function : Place → BoundName → ℕ → List Site
declared_function p x n = written_by (global_by x.bound x.name) ++ site.Function p (Some x.name) n ∷ []

abbrev pub member_site : Place → Option (List ℕ) → List ℕ → List Site
member_site p object x = site.Member p object x ∷ []

-- ---- what an assignment writes or makes

-- `=` alone makes a global name; every other operator reads it first (11.13)
abbrev pub set_sites : AssignOp → BoundName → List Site
set_sites Set x = written_by (global_by x.bound x.name)
set_sites op x = []

abbrev pub is_this : ExpressionTree → Bool
is_this (This p) = true
is_this e = false

abbrev pub made_name : List ℕ → List Site
made_name x = site.Made x ∷ []

-- in a plain call `this` is the global object, so its property is a global name (10.4.3)
abbrev pub made_property : Bool → List ℕ → List Site
made_property true x = site.Written x ∷ site.Made x ∷ []
made_property false x = site.Made x ∷ []

-- a key that is written as a text names the property
abbrev pub made_key : Bool → ExpressionTree → List Site
made_key this (Characters p x) = made_property this x
made_key this e = []

abbrev pub made_by : Bool → SuffixTree → List Site
made_by this (a_member p x) = made_property this x
made_by this (an_index p e) = made_key this e
made_by this (a_call p es) = []

-- the last of a suffix and those behind it, of which none stands right behind `this`
abbrev pub made_last : SuffixTree → Suffixes → List Site
made_last s no_suffix = made_by false s
made_last s (a_suffix t ss) = made_last t ss

abbrev pub made_first : Bool → SuffixTree → Suffixes → List Site
made_first this s no_suffix = made_by this s
made_first this s (a_suffix t ss) = made_last t ss

-- the property that the last of some suffixes names; `this` tells whether they stand behind `this`
abbrev pub made_sites : Bool → Suffixes → List Site
made_sites this no_suffix = []
made_sites this (a_suffix s ss) = made_first this s ss

abbrev pub written_sites : AssignOp → ExpressionTree → List Site
written_sites op (Name p x) = set_sites op x
written_sites op (Suffixed p e all) = made_sites (is_this e) all
written_sites op e = []

-- ---- texts

abbrev pub handed_by : Place → Option (List ℕ) → ℕ → List ℕ → List Site
handed_by p None n t = []
handed_by p (Some f) n t = site.Handed p f n t ∷ []

-- a text that is handed to a global function, if there is one
abbrev pub handed_sites : Option (List ℕ) → ℕ → ExpressionTree → List Site
handed_sites function n (Characters p t) = handed_by p function n t
handed_sites function n e = []

abbrev pub beside_by : Place → Option (List ℕ) → List ℕ → List Site
beside_by p None t = []
beside_by p (Some x) t = site.Beside p x t ∷ []

-- a text beside a value that begins with a name, if it begins with one
abbrev pub beside_sites : Option (List ℕ) → ExpressionTree → List Site
beside_sites name (Characters p t) = beside_by p name t
beside_sites name e = []

-- whether an operator asks whether two values are equal (11.9)
abbrev pub is_equality : BinaryOp → Bool
is_equality Equal = true
is_equality NotEqual = true
is_equality StrictEqual = true
is_equality StrictNotEqual = true
is_equality op = false

abbrev pub compared_sites : BinaryOp → Option (List ℕ) → ExpressionTree → List Site
compared_sites op name e = if is_equality op then beside_sites name e else []

abbrev pub leading_compared : BinaryOp → ExpressionTree → Option (List ℕ)
leading_compared op e = if is_equality op then leading_name e else None

-- the name of the value that the first part of a row of operators is compared with
abbrev pub leading_operand : Operands → Option (List ℕ)
leading_operand no_operand = None
leading_operand (an_operand p op e os) = leading_compared op e

abbrev pub leading_argument : Expressions → Option (List ℕ)
leading_argument no_expression = None
leading_argument (an_expression e es) = leading_name e

-- the name beside which the texts of a call stand: that of its first argument behind a global function, and else that
-- of the value whose method is called
abbrev pub beside_in : Option (List ℕ) → Option (List ℕ) → Expressions → Option (List ℕ)
beside_in None leading es = leading
beside_in (Some f) leading es = leading_argument es

-- ---- expressions (section 11)

abbrev mutual
  pub expression_sites : ExpressionTree → List Site
  expression_sites (Number p n) = []
  expression_sites (Characters p x) = []
  expression_sites (Pattern p l) = []
  expression_sites (True p) = []
  expression_sites (False p) = []
  expression_sites (Null p) = []
  expression_sites (This p) = []
  expression_sites (Name p x) = named_by p (global_by x.bound x.name)
  expression_sites (Array p all) = items_sites all
  expression_sites (Object p all) = properties_sites all
  expression_sites (Function p f) = []
  expression_sites (Numbered p n) = function_site p n
  expression_sites (Suffixed p e all) = expression_sites e ++ suffixes_sites (global_name e) (leading_name e) all
  expression_sites (New p e all) = constructed_sites e ++ (expression_sites e ++ row_sites None None 0 all)
  expression_sites (Update p form op e) = expression_sites e
  expression_sites (Unary p op e) = expression_sites e
  expression_sites (Chain p e all) = beside_sites (leading_operand all) e ++ (expression_sites e ++ operands_sites (leading_name e) all)
  expression_sites (Conditional p e a b) = expression_sites e ++ (expression_sites a ++ expression_sites b)
  expression_sites (Assign p e op v) = written_sites op e ++ (expression_sites e ++ expression_sites v)
  expression_sites (Comma p all) = row_sites None None 0 all

  pub optional_sites : OptionalExpression → List Site
  optional_sites absent = []
  optional_sites (present e) = expression_sites e

  -- expressions in a row, the first with this number: their texts are handed to a function and stand beside a name
  pub row_sites : Option (List ℕ) → Option (List ℕ) → ℕ → Expressions → List Site
  row_sites function beside n no_expression = []
  row_sites function beside n (an_expression e es) =
      handed_sites function n e ++ (beside_sites beside e ++ (expression_sites e ++ row_sites function beside (n + 1) es))

  pub items_sites : Items → List Site
  items_sites no_item = []
  items_sites (an_item o os) = optional_sites o ++ items_sites os

  pub properties_sites : Properties → List Site
  properties_sites no_property = []
  properties_sites (a_property x e ps) = made_name x ++ (expression_sites e ++ properties_sites ps)

  -- object: the global name right before the suffix; leading: the name that the value before it begins with
  pub suffix_sites : Option (List ℕ) → Option (List ℕ) → SuffixTree → List Site
  suffix_sites object leading (a_member p x) = member_site p object x
  suffix_sites object leading (an_index p e) = expression_sites e
  suffix_sites object leading (a_call p es) = row_sites object (beside_in object leading es) 0 es

  pub suffixes_sites : Option (List ℕ) → Option (List ℕ) → Suffixes → List Site
  suffixes_sites object leading no_suffix = []
  suffixes_sites object leading (a_suffix s ss) = suffix_sites object leading s ++ suffixes_sites None leading ss

  pub operands_sites : Option (List ℕ) → Operands → List Site
  operands_sites beside no_operand = []
  operands_sites beside (an_operand p op e os) = compared_sites op beside e ++ (expression_sites e ++ operands_sites beside os)

-- ---- statements (sections 12 and 13)

abbrev pub declarations_sites : Declarations → List Site
declarations_sites no_declared = []
declarations_sites (a_declared x o ds) = written_by (global_by x.bound x.name) ++ (optional_sites o ++ declarations_sites ds)

abbrev pub start_sites : StartTree → List Site
start_sites no_start = []
start_sites (start_var p ds) = declarations_sites ds
start_sites (start_value e) = expression_sites e

-- a `for`-`in` writes each name to its target
abbrev pub target_sites : TargetTree → List Site
target_sites (target_value e) = written_sites Set e ++ expression_sites e
target_sites (target_declared x o) = written_by (global_by x.bound x.name) ++ optional_sites o

-- a test is compared with the value of its `switch`, which begins with this name
abbrev pub test_sites : Option (List ℕ) → OptionalExpression → List Site
test_sites leading absent = []
test_sites leading (present e) = beside_sites leading e ++ expression_sites e

abbrev mutual
  pub statement_sites : StatementTree → List Site
  statement_sites (Block p ss) = statements_sites ss
  statement_sites (Empty p) = []
  statement_sites (Evaluate p e) = expression_sites e
  statement_sites (Debugger p) = []
  statement_sites (Var p ds) = declarations_sites ds
  statement_sites (If p bs o) = branches_sites bs ++ otherwise_sites o
  statement_sites (DoWhile p s e) = statement_sites s ++ expression_sites e
  statement_sites (While p e s) = expression_sites e ++ statement_sites s
  statement_sites (For p a e d s) = start_sites a ++ (optional_sites e ++ (optional_sites d ++ statement_sites s))
  statement_sites (ForIn p t e s) = target_sites t ++ (expression_sites e ++ statement_sites s)
  statement_sites (Continue p) = []
  statement_sites (Break p) = []
  statement_sites (Return p o) = optional_sites o
  statement_sites (Throw p e) = expression_sites e
  statement_sites (Switch p e cs) = expression_sites e ++ clauses_sites (leading_name e) cs
  statement_sites (Try p s c o) = statement_sites s ++ (handler_sites c ++ otherwise_sites o)
  statement_sites (Declare p x f) = written_by (global_by x.bound x.name)
  statement_sites (DeclareNumbered p x n) = declared_function p x n

  pub otherwise_sites : OptionalStatement → List Site
  otherwise_sites omitted = []
  otherwise_sites (given s) = statement_sites s

  pub statements_sites : Statements → List Site
  statements_sites no_statement = []
  statements_sites (a_statement s ss) = statement_sites s ++ statements_sites ss

  pub branches_sites : Branches → List Site
  branches_sites no_branch = []
  branches_sites (a_branch e s bs) = expression_sites e ++ (statement_sites s ++ branches_sites bs)

  pub clauses_sites : Option (List ℕ) → Clauses → List Site
  clauses_sites leading no_clause = []
  clauses_sites leading (a_clause o ss cs) = test_sites leading o ++ (statements_sites ss ++ clauses_sites leading cs)

  pub handler_sites : CatchTree → List Site
  handler_sites no_catch = []
  handler_sites (a_catch x s) = statement_sites s
