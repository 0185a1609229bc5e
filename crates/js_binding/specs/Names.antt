-- The names of a function's scope (ECMA-262 5.1, section 10.5).
use Rattle.std.specs.Prelude.{ℕ, Bool, true, false, ◌||◌, List, [], ◌∷◌, ◌++◌, codes, fold, map, if◌then◌else◌}
use Rattle.std.specs.List.{list_any}
use Rattle.std.specs.Str.{bytes_eq}
use Rattle.js_tree.specs.declared.bound.BoundName.{BoundName}
use Rattle.js_tree.specs.Tree.{ExpressionTree, Number, Characters, Pattern, True, False, Null, This, Name, Array, Object, Function, Numbered, Suffixed, New, Update, Unary, Chain, Conditional, Assign, Comma, OptionalExpression, absent, present, Expressions, no_expression, an_expression, Items, no_item, an_item, Properties, no_property, a_property, SuffixTree, a_member, an_index, a_call, Suffixes, no_suffix, a_suffix, Operands, no_operand, an_operand, FunctionTree, a_function, StatementTree, Block, Empty, Evaluate, Debugger, Var, If, DoWhile, While, For, ForIn, Continue, Break, Return, Throw, Switch, Try, Declare, DeclareNumbered, OptionalStatement, omitted, given, Statements, no_statement, a_statement, Declarations, no_declared, a_declared, Branches, no_branch, a_branch, StartTree, no_start, start_var, start_value, TargetTree, target_value, target_declared, Clauses, no_clause, a_clause, CatchTree, no_catch, a_catch}

-- with this name at the end, unless it is there
abbrev pub with_name : List (List ℕ) → List ℕ → List (List ℕ)
with_name names name = if list_any (bytes_eq name) names then names else names ++ name ∷ []

-- each name once, where it stands first
abbrev pub each_once : List (List ℕ) → List (List ℕ)
each_once names = fold with_name [] names

-- the name of a function declaration
abbrev pub declared_function : StatementTree → List (List ℕ)
declared_function (Declare p x f) = x.name ∷ []
declared_function (DeclareNumbered p x n) = x.name ∷ []
declared_function s = []

-- the names of the functions that a body declares (10.5, step 5); declarations stand directly in it
abbrev pub functions_of : Statements → List (List ℕ)
functions_of no_statement = []
functions_of (a_statement s ss) = declared_function s ++ functions_of ss

-- The names that a statement declares by `var`, in the order in which they are written (10.5, step 8): those of its
-- blocks and loops too, and not those of the functions in it.
abbrev mutual
  pub variables_of : StatementTree → List (List ℕ)
  variables_of (Block p ss) = variables_of_all ss
  variables_of (Empty p) = []
  variables_of (Evaluate p e) = []
  variables_of (Debugger p) = []
  variables_of (Var p ds) = variables_of_declarations ds
  variables_of (If p bs o) = variables_of_branches bs ++ variables_of_otherwise o
  variables_of (DoWhile p s e) = variables_of s
  variables_of (While p e s) = variables_of s
  variables_of (For p a e d s) = variables_of_start a ++ variables_of s
  variables_of (ForIn p t e s) = variables_of_target t ++ variables_of s
  variables_of (Continue p) = []
  variables_of (Break p) = []
  variables_of (Return p o) = []
  variables_of (Throw p e) = []
  variables_of (Switch p e cs) = variables_of_clauses cs
  variables_of (Try p s c o) = variables_of s ++ (variables_of_handler c ++ variables_of_otherwise o)
  variables_of (Declare p x f) = []
  variables_of (DeclareNumbered p x n) = []

  pub variables_of_otherwise : OptionalStatement → List (List ℕ)
  variables_of_otherwise omitted = []
  variables_of_otherwise (given s) = variables_of s

  pub variables_of_all : Statements → List (List ℕ)
  variables_of_all no_statement = []
  variables_of_all (a_statement s ss) = variables_of s ++ variables_of_all ss

  pub variables_of_declarations : Declarations → List (List ℕ)
  variables_of_declarations no_declared = []
  variables_of_declarations (a_declared x o ds) = x.name ∷ variables_of_declarations ds

  pub variables_of_branches : Branches → List (List ℕ)
  variables_of_branches no_branch = []
  variables_of_branches (a_branch e s bs) = variables_of s ++ variables_of_branches bs

  pub variables_of_start : StartTree → List (List ℕ)
  variables_of_start no_start = []
  variables_of_start (start_var p ds) = variables_of_declarations ds
  variables_of_start (start_value e) = []

  pub variables_of_target : TargetTree → List (List ℕ)
  variables_of_target (target_value e) = []
  variables_of_target (target_declared x o) = x.name ∷ []

  pub variables_of_clauses : Clauses → List (List ℕ)
  variables_of_clauses no_clause = []
  variables_of_clauses (a_clause o ss cs) = variables_of_all ss ++ variables_of_clauses cs

  pub variables_of_handler : CatchTree → List (List ℕ)
  variables_of_handler no_catch = []
  variables_of_handler (a_catch x s) = variables_of s

-- Whether a name is read or written outside inner functions.
abbrev mutual
  pub mentions : List ℕ → ExpressionTree → Bool
  mentions x (Number p n) = false
  mentions x (Characters p y) = false
  mentions x (Pattern p l) = false
  mentions x (True p) = false
  mentions x (False p) = false
  mentions x (Null p) = false
  mentions x (This p) = false
  mentions x (Name p y) = bytes_eq x y.name
  mentions x (Array p all) = mentions_in_items x all
  mentions x (Object p all) = mentions_in_properties x all
  mentions x (Function p f) = false
  mentions x (Numbered p n) = false
  mentions x (Suffixed p e all) = mentions x e || mentions_in_suffixes x all
  mentions x (New p e all) = mentions x e || mentions_in_expressions x all
  mentions x (Update p form op e) = mentions x e
  mentions x (Unary p op e) = mentions x e
  mentions x (Chain p e all) = mentions x e || mentions_in_operands x all
  mentions x (Conditional p e a b) = mentions x e || (mentions x a || mentions x b)
  mentions x (Assign p e op v) = mentions x e || mentions x v
  mentions x (Comma p all) = mentions_in_expressions x all

  pub mentions_in_optional : List ℕ → OptionalExpression → Bool
  mentions_in_optional x absent = false
  mentions_in_optional x (present e) = mentions x e

  pub mentions_in_expressions : List ℕ → Expressions → Bool
  mentions_in_expressions x no_expression = false
  mentions_in_expressions x (an_expression e es) = mentions x e || mentions_in_expressions x es

  pub mentions_in_items : List ℕ → Items → Bool
  mentions_in_items x no_item = false
  mentions_in_items x (an_item o os) = mentions_in_optional x o || mentions_in_items x os

  pub mentions_in_properties : List ℕ → Properties → Bool
  mentions_in_properties x no_property = false
  mentions_in_properties x (a_property y e ps) = mentions x e || mentions_in_properties x ps

  pub mentions_in_suffix : List ℕ → SuffixTree → Bool
  mentions_in_suffix x (a_member p y) = false
  mentions_in_suffix x (an_index p e) = mentions x e
  mentions_in_suffix x (a_call p es) = mentions_in_expressions x es

  pub mentions_in_suffixes : List ℕ → Suffixes → Bool
  mentions_in_suffixes x no_suffix = false
  mentions_in_suffixes x (a_suffix s ss) = mentions_in_suffix x s || mentions_in_suffixes x ss

  pub mentions_in_operands : List ℕ → Operands → Bool
  mentions_in_operands x no_operand = false
  mentions_in_operands x (an_operand p op e os) = mentions x e || mentions_in_operands x os

  pub mentions_in : List ℕ → StatementTree → Bool
  mentions_in x (Block p ss) = mentions_in_body x ss
  mentions_in x (Empty p) = false
  mentions_in x (Evaluate p e) = mentions x e
  mentions_in x (Debugger p) = false
  mentions_in x (Var p ds) = mentions_in_declarations x ds
  mentions_in x (If p bs o) = mentions_in_branches x bs || mentions_in_otherwise x o
  mentions_in x (DoWhile p s e) = mentions_in x s || mentions x e
  mentions_in x (While p e s) = mentions x e || mentions_in x s
  mentions_in x (For p a e d s) = mentions_in_start x a || (mentions_in_optional x e || (mentions_in_optional x d || mentions_in x s))
  mentions_in x (ForIn p t e s) = mentions_in_target x t || (mentions x e || mentions_in x s)
  mentions_in x (Continue p) = false
  mentions_in x (Break p) = false
  mentions_in x (Return p o) = mentions_in_optional x o
  mentions_in x (Throw p e) = mentions x e
  mentions_in x (Switch p e cs) = mentions x e || mentions_in_clauses x cs
  mentions_in x (Try p s c o) = mentions_in x s || (mentions_in_handler x c || mentions_in_otherwise x o)
  mentions_in x (Declare p y f) = false
  mentions_in x (DeclareNumbered p y n) = false

  pub mentions_in_otherwise : List ℕ → OptionalStatement → Bool
  mentions_in_otherwise x omitted = false
  mentions_in_otherwise x (given s) = mentions_in x s

  pub mentions_in_body : List ℕ → Statements → Bool
  mentions_in_body x no_statement = false
  mentions_in_body x (a_statement s ss) = mentions_in x s || mentions_in_body x ss

  pub mentions_in_declarations : List ℕ → Declarations → Bool
  mentions_in_declarations x no_declared = false
  mentions_in_declarations x (a_declared y o ds) = mentions_in_optional x o || mentions_in_declarations x ds

  pub mentions_in_branches : List ℕ → Branches → Bool
  mentions_in_branches x no_branch = false
  mentions_in_branches x (a_branch e s bs) = mentions x e || (mentions_in x s || mentions_in_branches x bs)

  pub mentions_in_start : List ℕ → StartTree → Bool
  mentions_in_start x no_start = false
  mentions_in_start x (start_var p ds) = mentions_in_declarations x ds
  mentions_in_start x (start_value e) = mentions x e

  pub mentions_in_target : List ℕ → TargetTree → Bool
  mentions_in_target x (target_value e) = mentions x e
  mentions_in_target x (target_declared y o) = mentions_in_optional x o

  pub mentions_in_clauses : List ℕ → Clauses → Bool
  mentions_in_clauses x no_clause = false
  mentions_in_clauses x (a_clause o ss cs) = mentions_in_optional x o || (mentions_in_body x ss || mentions_in_clauses x cs)

  pub mentions_in_handler : List ℕ → CatchTree → Bool
  mentions_in_handler x no_catch = false
  mentions_in_handler x (a_catch y s) = mentions_in x s

-- the name of the object that holds the arguments of a call (10.6)
abbrev pub arguments_name : List ℕ
arguments_name = codes "arguments"

-- it, where a body mentions it
abbrev pub arguments_of : Statements → List (List ℕ)
arguments_of body = if mentions_in_body arguments_name body then arguments_name ∷ [] else []

-- The names of a function's scope: its parameters, then the functions that its body declares, then its variables, then
-- `arguments` where the body mentions it; each once.
abbrev pub names_of : List BoundName → Statements → List (List ℕ)
names_of parameters body =
    each_once (map (λ x. x.name) parameters ++ (functions_of body ++ (variables_of_all body ++ arguments_of body)))
