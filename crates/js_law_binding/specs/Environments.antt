-- Reading the names of a script: by looking each up along environment records, and by its slot in a program. Here a
-- scope is what ECMA-262 5.1 says it is, a list of names with values (10.2.1).
use Rattle.std.specs.Prelude.{ℕ, suc, zero, List, [], ◌∷◌, ◌++◌, length, Option, Some, None, if◌then◌else◌}
use Rattle.std.specs.Str.{bytes_eq}
use Rattle.js_tree.specs.declared.bound.Bound.{Bound}
use Rattle.js_tree.specs.declared.bound.Bound.TheVariants.{Unbound, Slot, Own, Global}
use Rattle.js_tree.specs.declared.bound.BoundName.{BoundName}
use Rattle.js_tree.specs.Tree.{ExpressionTree, Number, Characters, Pattern, True, False, Null, This, Name, Array, Object, Function, Numbered, Suffixed, New, Update, Unary, Chain, Conditional, Assign, Comma, OptionalExpression, absent, present, Expressions, no_expression, an_expression, Items, no_item, an_item, Properties, no_property, a_property, SuffixTree, a_member, an_index, a_call, Suffixes, no_suffix, a_suffix, Operands, no_operand, an_operand, FunctionTree, a_function, StatementTree, Block, Empty, Evaluate, Debugger, Var, If, DoWhile, While, For, ForIn, Continue, Break, Return, Throw, Switch, Try, Declare, DeclareNumbered, OptionalStatement, omitted, given, Statements, no_statement, a_statement, Declarations, no_declared, a_declared, Branches, no_branch, a_branch, StartTree, no_start, start_var, start_value, TargetTree, target_value, target_declared, Clauses, no_clause, a_clause, CatchTree, no_catch, a_catch}
use Rattle.js_tree.specs.Tree.{statements_of}
use Rattle.js_binding.specs.Names.{names_of}
use Rattle.js_binding.specs.Numbers.{by_number}

-- an environment record: names, each with its value; values stand here as numbers
abbrev pub Record : Type 0
Record = List (List ℕ × ℕ)

-- the value of a name in a record, or what is found further out
abbrev pub value_or : Option ℕ → List ℕ → Record → Option ℕ
value_or further x [] = further
value_or further x (pair ∷ pairs) = if bytes_eq x pair.0 then Some pair.1 else value_or further x pairs

-- the value of a name in the first record that has it, from the innermost outward (10.2.2.1); none where it is global
abbrev pub looked_up : List ℕ → List Record → Option ℕ
looked_up x [] = None
looked_up x (pairs ∷ around) = value_or (looked_up x around) x pairs

-- A record of these names. The values are given: value depth slot is that of the name in this place, in a record with so
-- many around it.
abbrev pub record_from : (ℕ → ℕ) → ℕ → List (List ℕ) → Record
record_from value slot [] = []
record_from value slot (x ∷ xs) = (x, value slot) ∷ record_from value (suc slot) xs

abbrev pub with_record : (ℕ → ℕ → ℕ) → List (List ℕ) → List Record → List Record
with_record value names around = record_from (value (length around)) 0 names ∷ around

-- a function expression's own name has a record around that of the call (section 13)
abbrev pub with_own : (ℕ → ℕ → ℕ) → Option BoundName → List Record → List Record
with_own value None around = around
with_own value (Some x) around = with_record value (x.name ∷ []) around

abbrev pub own_read : List Record → Option BoundName → List (Option ℕ)
own_read records None = []
own_read records (Some x) = looked_up x.name records ∷ []

abbrev pub names_read : List Record → List BoundName → List (Option ℕ)
names_read records [] = []
names_read records (x ∷ xs) = looked_up x.name records ∷ names_read records xs

-- What is read of each name of a script, in the order in which they are written, in and below these records.
unfoldable mutual
  pub expression_read : (ℕ → ℕ → ℕ) → List Record → ExpressionTree → List (Option ℕ)
  expression_read value records (Number p n) = []
  expression_read value records (Characters p x) = []
  expression_read value records (Pattern p l) = []
  expression_read value records (True p) = []
  expression_read value records (False p) = []
  expression_read value records (Null p) = []
  expression_read value records (This p) = []
  expression_read value records (Name p x) = (looked_up x.name records ∷ [])
  expression_read value records (Array p all) = items_read value records all
  expression_read value records (Object p all) = properties_read value records all
  expression_read value records (Function p f) = function_read value records f
  expression_read value records (Numbered p n) = []
  expression_read value records (Suffixed p e all) = expression_read value records e ++ suffixes_read value records all
  expression_read value records (New p e all) = expression_read value records e ++ expressions_read value records all
  expression_read value records (Update p form op e) = expression_read value records e
  expression_read value records (Unary p op e) = expression_read value records e
  expression_read value records (Chain p e all) = expression_read value records e ++ operands_read value records all
  expression_read value records (Conditional p e a b) = expression_read value records e ++ (expression_read value records a ++ expression_read value records b)
  expression_read value records (Assign p e op v) = expression_read value records e ++ expression_read value records v
  expression_read value records (Comma p all) = expressions_read value records all

  pub optional_read : (ℕ → ℕ → ℕ) → List Record → OptionalExpression → List (Option ℕ)
  optional_read value records absent = []
  optional_read value records (present e) = expression_read value records e

  pub expressions_read : (ℕ → ℕ → ℕ) → List Record → Expressions → List (Option ℕ)
  expressions_read value records no_expression = []
  expressions_read value records (an_expression e es) = expression_read value records e ++ expressions_read value records es

  pub items_read : (ℕ → ℕ → ℕ) → List Record → Items → List (Option ℕ)
  items_read value records no_item = []
  items_read value records (an_item o os) = optional_read value records o ++ items_read value records os

  pub properties_read : (ℕ → ℕ → ℕ) → List Record → Properties → List (Option ℕ)
  properties_read value records no_property = []
  properties_read value records (a_property x e ps) = expression_read value records e ++ properties_read value records ps

  pub suffix_read : (ℕ → ℕ → ℕ) → List Record → SuffixTree → List (Option ℕ)
  suffix_read value records (a_member p x) = []
  suffix_read value records (an_index p e) = expression_read value records e
  suffix_read value records (a_call p es) = expressions_read value records es

  pub suffixes_read : (ℕ → ℕ → ℕ) → List Record → Suffixes → List (Option ℕ)
  suffixes_read value records no_suffix = []
  suffixes_read value records (a_suffix s ss) = suffix_read value records s ++ suffixes_read value records ss

  pub operands_read : (ℕ → ℕ → ℕ) → List Record → Operands → List (Option ℕ)
  operands_read value records no_operand = []
  operands_read value records (an_operand p op e os) = expression_read value records e ++ operands_read value records os

  pub function_read : (ℕ → ℕ → ℕ) → List Record → FunctionTree → List (Option ℕ)
  function_read value records (a_function own parameters names body) =
      let around = with_own value own records in
      let inside = with_record value (names_of parameters body) around in
      own_read around own ++ (names_read inside parameters ++ statements_read value inside body)

  pub statement_read : (ℕ → ℕ → ℕ) → List Record → StatementTree → List (Option ℕ)
  statement_read value records (Block p ss) = statements_read value records ss
  statement_read value records (Empty p) = []
  statement_read value records (Evaluate p e) = expression_read value records e
  statement_read value records (Debugger p) = []
  statement_read value records (Var p ds) = declarations_read value records ds
  statement_read value records (If p bs o) = branches_read value records bs ++ otherwise_read value records o
  statement_read value records (DoWhile p s e) = statement_read value records s ++ expression_read value records e
  statement_read value records (While p e s) = expression_read value records e ++ statement_read value records s
  statement_read value records (For p a e d s) = start_read value records a ++ (optional_read value records e ++ (optional_read value records d ++ statement_read value records s))
  statement_read value records (ForIn p t e s) = target_read value records t ++ (expression_read value records e ++ statement_read value records s)
  statement_read value records (Continue p) = []
  statement_read value records (Break p) = []
  statement_read value records (Return p o) = optional_read value records o
  statement_read value records (Throw p e) = expression_read value records e
  statement_read value records (Switch p e cs) = expression_read value records e ++ clauses_read value records cs
  statement_read value records (Try p s c o) = statement_read value records s ++ (handler_read value records c ++ otherwise_read value records o)
  statement_read value records (Declare p x f) = (looked_up x.name records ∷ []) ++ function_read value records f
  statement_read value records (DeclareNumbered p x n) = (looked_up x.name records ∷ []) ++ []

  pub otherwise_read : (ℕ → ℕ → ℕ) → List Record → OptionalStatement → List (Option ℕ)
  otherwise_read value records omitted = []
  otherwise_read value records (given s) = statement_read value records s

  pub statements_read : (ℕ → ℕ → ℕ) → List Record → Statements → List (Option ℕ)
  statements_read value records no_statement = []
  statements_read value records (a_statement s ss) = statement_read value records s ++ statements_read value records ss

  pub declarations_read : (ℕ → ℕ → ℕ) → List Record → Declarations → List (Option ℕ)
  declarations_read value records no_declared = []
  declarations_read value records (a_declared x o ds) = (looked_up x.name records ∷ []) ++ (optional_read value records o ++ declarations_read value records ds)

  pub branches_read : (ℕ → ℕ → ℕ) → List Record → Branches → List (Option ℕ)
  branches_read value records no_branch = []
  branches_read value records (a_branch e s bs) = expression_read value records e ++ (statement_read value records s ++ branches_read value records bs)

  pub start_read : (ℕ → ℕ → ℕ) → List Record → StartTree → List (Option ℕ)
  start_read value records no_start = []
  start_read value records (start_var p ds) = declarations_read value records ds
  start_read value records (start_value e) = expression_read value records e

  pub target_read : (ℕ → ℕ → ℕ) → List Record → TargetTree → List (Option ℕ)
  target_read value records (target_value e) = expression_read value records e
  target_read value records (target_declared x o) = (looked_up x.name records ∷ []) ++ optional_read value records o

  pub clauses_read : (ℕ → ℕ → ℕ) → List Record → Clauses → List (Option ℕ)
  clauses_read value records no_clause = []
  clauses_read value records (a_clause o ss cs) = optional_read value records o ++ (statements_read value records ss ++ clauses_read value records cs)

  pub handler_read : (ℕ → ℕ → ℕ) → List Record → CatchTree → List (Option ℕ)
  handler_read value records no_catch = []
  handler_read value records (a_catch x s) =
      let inside = with_record value (x.name ∷ []) records in
      (looked_up x.name inside ∷ []) ++ statement_read value inside s

-- The values of the scopes alone, by slots.
abbrev pub values_from : (ℕ → ℕ) → ℕ → List (List ℕ) → List ℕ
values_from value slot [] = []
values_from value slot (x ∷ xs) = value slot ∷ values_from value (suc slot) xs

abbrev pub with_values : (ℕ → ℕ → ℕ) → List (List ℕ) → List (List ℕ) → List (List ℕ)
with_values value names around = values_from (value (length around)) 0 names ∷ around

abbrev pub with_own_value : (ℕ → ℕ → ℕ) → Option BoundName → List (List ℕ) → List (List ℕ)
with_own_value value None around = around
with_own_value value (Some x) around = with_values value (x.name ∷ []) around

abbrev pub at_slot : ℕ → List ℕ → Option ℕ
at_slot slot [] = None
at_slot zero (v ∷ vs) = Some v
at_slot (suc slot) (v ∷ vs) = at_slot slot vs

abbrev pub value_at : ℕ → ℕ → List (List ℕ) → Option ℕ
value_at up slot [] = None
value_at zero slot (values ∷ around) = at_slot slot values
value_at (suc up) slot (values ∷ around) = value_at up slot around

-- what a bound leads to
abbrev pub value_of : Bound → List (List ℕ) → Option ℕ
value_of Unbound scopes = None
value_of (Slot up slot) scopes = value_at up slot scopes
value_of (Own up) scopes = value_at up 0 scopes
value_of Global scopes = None

abbrev pub own_value : List (List ℕ) → Option BoundName → List (Option ℕ)
own_value scopes None = []
own_value scopes (Some x) = value_of x.bound scopes ∷ []

abbrev pub parameter_values : List (List ℕ) → List BoundName → List (Option ℕ)
parameter_values scopes [] = []
parameter_values scopes (x ∷ xs) = value_of x.bound scopes ∷ parameter_values scopes xs

-- What is read of each bound of a program, in the same order. at: what is read in each function, among the scopes around.
unfoldable mutual
  pub expression_values : (ℕ → ℕ → ℕ) → (ℕ → List (List ℕ) → List (Option ℕ)) → List (List ℕ) → ExpressionTree → List (Option ℕ)
  expression_values value at scopes (Number p n) = []
  expression_values value at scopes (Characters p x) = []
  expression_values value at scopes (Pattern p l) = []
  expression_values value at scopes (True p) = []
  expression_values value at scopes (False p) = []
  expression_values value at scopes (Null p) = []
  expression_values value at scopes (This p) = []
  expression_values value at scopes (Name p x) = (value_of x.bound scopes ∷ [])
  expression_values value at scopes (Array p all) = items_values value at scopes all
  expression_values value at scopes (Object p all) = properties_values value at scopes all
  expression_values value at scopes (Function p f) = function_values value at scopes f
  expression_values value at scopes (Numbered p n) = at n scopes
  expression_values value at scopes (Suffixed p e all) = expression_values value at scopes e ++ suffixes_values value at scopes all
  expression_values value at scopes (New p e all) = expression_values value at scopes e ++ expressions_values value at scopes all
  expression_values value at scopes (Update p form op e) = expression_values value at scopes e
  expression_values value at scopes (Unary p op e) = expression_values value at scopes e
  expression_values value at scopes (Chain p e all) = expression_values value at scopes e ++ operands_values value at scopes all
  expression_values value at scopes (Conditional p e a b) = expression_values value at scopes e ++ (expression_values value at scopes a ++ expression_values value at scopes b)
  expression_values value at scopes (Assign p e op v) = expression_values value at scopes e ++ expression_values value at scopes v
  expression_values value at scopes (Comma p all) = expressions_values value at scopes all

  pub optional_values : (ℕ → ℕ → ℕ) → (ℕ → List (List ℕ) → List (Option ℕ)) → List (List ℕ) → OptionalExpression → List (Option ℕ)
  optional_values value at scopes absent = []
  optional_values value at scopes (present e) = expression_values value at scopes e

  pub expressions_values : (ℕ → ℕ → ℕ) → (ℕ → List (List ℕ) → List (Option ℕ)) → List (List ℕ) → Expressions → List (Option ℕ)
  expressions_values value at scopes no_expression = []
  expressions_values value at scopes (an_expression e es) = expression_values value at scopes e ++ expressions_values value at scopes es

  pub items_values : (ℕ → ℕ → ℕ) → (ℕ → List (List ℕ) → List (Option ℕ)) → List (List ℕ) → Items → List (Option ℕ)
  items_values value at scopes no_item = []
  items_values value at scopes (an_item o os) = optional_values value at scopes o ++ items_values value at scopes os

  pub properties_values : (ℕ → ℕ → ℕ) → (ℕ → List (List ℕ) → List (Option ℕ)) → List (List ℕ) → Properties → List (Option ℕ)
  properties_values value at scopes no_property = []
  properties_values value at scopes (a_property x e ps) = expression_values value at scopes e ++ properties_values value at scopes ps

  pub suffix_values : (ℕ → ℕ → ℕ) → (ℕ → List (List ℕ) → List (Option ℕ)) → List (List ℕ) → SuffixTree → List (Option ℕ)
  suffix_values value at scopes (a_member p x) = []
  suffix_values value at scopes (an_index p e) = expression_values value at scopes e
  suffix_values value at scopes (a_call p es) = expressions_values value at scopes es

  pub suffixes_values : (ℕ → ℕ → ℕ) → (ℕ → List (List ℕ) → List (Option ℕ)) → List (List ℕ) → Suffixes → List (Option ℕ)
  suffixes_values value at scopes no_suffix = []
  suffixes_values value at scopes (a_suffix s ss) = suffix_values value at scopes s ++ suffixes_values value at scopes ss

  pub operands_values : (ℕ → ℕ → ℕ) → (ℕ → List (List ℕ) → List (Option ℕ)) → List (List ℕ) → Operands → List (Option ℕ)
  operands_values value at scopes no_operand = []
  operands_values value at scopes (an_operand p op e os) = expression_values value at scopes e ++ operands_values value at scopes os

  pub function_values : (ℕ → ℕ → ℕ) → (ℕ → List (List ℕ) → List (Option ℕ)) → List (List ℕ) → FunctionTree → List (Option ℕ)
  function_values value at scopes (a_function own parameters names body) =
      let around = with_own_value value own scopes in
      let inside = with_values value names around in
      own_value around own ++ (parameter_values inside parameters ++ statements_values value at inside body)

  pub statement_values : (ℕ → ℕ → ℕ) → (ℕ → List (List ℕ) → List (Option ℕ)) → List (List ℕ) → StatementTree → List (Option ℕ)
  statement_values value at scopes (Block p ss) = statements_values value at scopes ss
  statement_values value at scopes (Empty p) = []
  statement_values value at scopes (Evaluate p e) = expression_values value at scopes e
  statement_values value at scopes (Debugger p) = []
  statement_values value at scopes (Var p ds) = declarations_values value at scopes ds
  statement_values value at scopes (If p bs o) = branches_values value at scopes bs ++ otherwise_values value at scopes o
  statement_values value at scopes (DoWhile p s e) = statement_values value at scopes s ++ expression_values value at scopes e
  statement_values value at scopes (While p e s) = expression_values value at scopes e ++ statement_values value at scopes s
  statement_values value at scopes (For p a e d s) = start_values value at scopes a ++ (optional_values value at scopes e ++ (optional_values value at scopes d ++ statement_values value at scopes s))
  statement_values value at scopes (ForIn p t e s) = target_values value at scopes t ++ (expression_values value at scopes e ++ statement_values value at scopes s)
  statement_values value at scopes (Continue p) = []
  statement_values value at scopes (Break p) = []
  statement_values value at scopes (Return p o) = optional_values value at scopes o
  statement_values value at scopes (Throw p e) = expression_values value at scopes e
  statement_values value at scopes (Switch p e cs) = expression_values value at scopes e ++ clauses_values value at scopes cs
  statement_values value at scopes (Try p s c o) = statement_values value at scopes s ++ (handler_values value at scopes c ++ otherwise_values value at scopes o)
  statement_values value at scopes (Declare p x f) = (value_of x.bound scopes ∷ []) ++ function_values value at scopes f
  statement_values value at scopes (DeclareNumbered p x n) = (value_of x.bound scopes ∷ []) ++ at n scopes

  pub otherwise_values : (ℕ → ℕ → ℕ) → (ℕ → List (List ℕ) → List (Option ℕ)) → List (List ℕ) → OptionalStatement → List (Option ℕ)
  otherwise_values value at scopes omitted = []
  otherwise_values value at scopes (given s) = statement_values value at scopes s

  pub statements_values : (ℕ → ℕ → ℕ) → (ℕ → List (List ℕ) → List (Option ℕ)) → List (List ℕ) → Statements → List (Option ℕ)
  statements_values value at scopes no_statement = []
  statements_values value at scopes (a_statement s ss) = statement_values value at scopes s ++ statements_values value at scopes ss

  pub declarations_values : (ℕ → ℕ → ℕ) → (ℕ → List (List ℕ) → List (Option ℕ)) → List (List ℕ) → Declarations → List (Option ℕ)
  declarations_values value at scopes no_declared = []
  declarations_values value at scopes (a_declared x o ds) = (value_of x.bound scopes ∷ []) ++ (optional_values value at scopes o ++ declarations_values value at scopes ds)

  pub branches_values : (ℕ → ℕ → ℕ) → (ℕ → List (List ℕ) → List (Option ℕ)) → List (List ℕ) → Branches → List (Option ℕ)
  branches_values value at scopes no_branch = []
  branches_values value at scopes (a_branch e s bs) = expression_values value at scopes e ++ (statement_values value at scopes s ++ branches_values value at scopes bs)

  pub start_values : (ℕ → ℕ → ℕ) → (ℕ → List (List ℕ) → List (Option ℕ)) → List (List ℕ) → StartTree → List (Option ℕ)
  start_values value at scopes no_start = []
  start_values value at scopes (start_var p ds) = declarations_values value at scopes ds
  start_values value at scopes (start_value e) = expression_values value at scopes e

  pub target_values : (ℕ → ℕ → ℕ) → (ℕ → List (List ℕ) → List (Option ℕ)) → List (List ℕ) → TargetTree → List (Option ℕ)
  target_values value at scopes (target_value e) = expression_values value at scopes e
  target_values value at scopes (target_declared x o) = (value_of x.bound scopes ∷ []) ++ optional_values value at scopes o

  pub clauses_values : (ℕ → ℕ → ℕ) → (ℕ → List (List ℕ) → List (Option ℕ)) → List (List ℕ) → Clauses → List (Option ℕ)
  clauses_values value at scopes no_clause = []
  clauses_values value at scopes (a_clause o ss cs) = optional_values value at scopes o ++ (statements_values value at scopes ss ++ clauses_values value at scopes cs)

  pub handler_values : (ℕ → ℕ → ℕ) → (ℕ → List (List ℕ) → List (Option ℕ)) → List (List ℕ) → CatchTree → List (Option ℕ)
  handler_values value at scopes no_catch = []
  handler_values value at scopes (a_catch x s) =
      let inside = with_values value (x.name ∷ []) scopes in
      (value_of x.bound inside ∷ []) ++ statement_values value at inside s

-- In a number that no function has, nothing is read.
abbrev pub nothing_read : List (List ℕ) → List (Option ℕ)
nothing_read scopes = []

abbrev pub values_in_function : (ℕ → ℕ → ℕ) → (ℕ → List (List ℕ) → List (Option ℕ)) → FunctionTree → List (List ℕ) → List (Option ℕ)
values_in_function value at f scopes = function_values value at scopes f

abbrev pub read_by_name : (ℕ → ℕ → ℕ) → List StatementTree → List (Option ℕ)
read_by_name value script = statements_read value [] (statements_of script)

abbrev pub read_by_slot : (ℕ → ℕ → ℕ) → Statements × List FunctionTree → List (Option ℕ)
read_by_slot value program =
    statements_values value (by_number nothing_read (values_in_function value) 0 program.1) [] program.0
