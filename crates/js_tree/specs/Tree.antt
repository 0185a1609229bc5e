-- The trees of scripts (ECMA-262 5.1, sections 11 to 14), as every definition reads and makes them. They have one
-- constructor for each node, with its place first and then its parts as they are written. A list of parts is a type of
-- its own, and so is a part that may be missing, since a type can't hold itself inside `List` or `Option`.
use Rattle.std.specs.Prelude.{ℕ, ℤ, List, [], ◌∷◌, Option, Some, None}
use Rattle.js_pattern_reader.specs.Literal.{Literal}
use Rattle.js_tree.specs.declared.place.Place.{Place}
use Rattle.js_tree.specs.declared.bound.BoundName.{BoundName}
use Rattle.js_tree.specs.declared.operators.UnaryOp.{UnaryOp}
use Rattle.js_tree.specs.declared.operators.UpdateForm.{UpdateForm}
use Rattle.js_tree.specs.declared.operators.UpdateOp.{UpdateOp}
use Rattle.js_tree.specs.declared.operators.BinaryOp.{BinaryOp}
use Rattle.js_tree.specs.declared.operators.AssignOp.{AssignOp}

mutual
  -- expressions; `Numbered` is a function by its number in a program
  pub data ExpressionTree : Type 0 where
    Number : Place → ℤ → ExpressionTree
    Characters : Place → List ℕ → ExpressionTree
    Pattern : Place → Literal → ExpressionTree
    True : Place → ExpressionTree
    False : Place → ExpressionTree
    Null : Place → ExpressionTree
    This : Place → ExpressionTree
    Name : Place → BoundName → ExpressionTree
    Array : Place → Items → ExpressionTree
    Object : Place → Properties → ExpressionTree
    Function : Place → FunctionTree → ExpressionTree
    Numbered : Place → ℕ → ExpressionTree
    Suffixed : Place → ExpressionTree → Suffixes → ExpressionTree
    New : Place → ExpressionTree → Expressions → ExpressionTree
    Update : Place → UpdateForm → UpdateOp → ExpressionTree → ExpressionTree
    Unary : Place → UnaryOp → ExpressionTree → ExpressionTree
    Chain : Place → ExpressionTree → Operands → ExpressionTree
    Conditional : Place → ExpressionTree → ExpressionTree → ExpressionTree → ExpressionTree
    Assign : Place → ExpressionTree → AssignOp → ExpressionTree → ExpressionTree
    Comma : Place → Expressions → ExpressionTree

  pub data OptionalExpression : Type 0 where
    absent : OptionalExpression
    present : ExpressionTree → OptionalExpression

  pub data Expressions : Type 0 where
    no_expression : Expressions
    an_expression : ExpressionTree → Expressions → Expressions

  -- an item that is missing is a hole
  pub data Items : Type 0 where
    no_item : Items
    an_item : OptionalExpression → Items → Items

  pub data Properties : Type 0 where
    no_property : Properties
    a_property : List ℕ → ExpressionTree → Properties → Properties

  pub data SuffixTree : Type 0 where
    a_member : Place → List ℕ → SuffixTree
    an_index : Place → ExpressionTree → SuffixTree
    a_call : Place → Expressions → SuffixTree

  pub data Suffixes : Type 0 where
    no_suffix : Suffixes
    a_suffix : SuffixTree → Suffixes → Suffixes

  pub data Operands : Type 0 where
    no_operand : Operands
    an_operand : Place → BinaryOp → ExpressionTree → Operands → Operands

  -- its own name or none, its parameters, the names of its scope, and its body
  pub data FunctionTree : Type 0 where
    a_function : Option BoundName → List BoundName → List (List ℕ) → Statements → FunctionTree

  -- statements; `DeclareNumbered` is a function declaration whose function stands by its number in a program
  pub data StatementTree : Type 0 where
    Block : Place → Statements → StatementTree
    Empty : Place → StatementTree
    Evaluate : Place → ExpressionTree → StatementTree
    Debugger : Place → StatementTree
    Var : Place → Declarations → StatementTree
    If : Place → Branches → OptionalStatement → StatementTree
    DoWhile : Place → StatementTree → ExpressionTree → StatementTree
    While : Place → ExpressionTree → StatementTree → StatementTree
    For : Place → StartTree → OptionalExpression → OptionalExpression → StatementTree → StatementTree
    ForIn : Place → TargetTree → ExpressionTree → StatementTree → StatementTree
    Continue : Place → StatementTree
    Break : Place → StatementTree
    Return : Place → OptionalExpression → StatementTree
    Throw : Place → ExpressionTree → StatementTree
    Switch : Place → ExpressionTree → Clauses → StatementTree
    Try : Place → StatementTree → CatchTree → OptionalStatement → StatementTree
    Declare : Place → BoundName → FunctionTree → StatementTree
    DeclareNumbered : Place → BoundName → ℕ → StatementTree

  pub data OptionalStatement : Type 0 where
    omitted : OptionalStatement
    given : StatementTree → OptionalStatement

  pub data Statements : Type 0 where
    no_statement : Statements
    a_statement : StatementTree → Statements → Statements

  -- declared names, each with its first value or none
  pub data Declarations : Type 0 where
    no_declared : Declarations
    a_declared : BoundName → OptionalExpression → Declarations → Declarations

  -- conditions, each with what is done where it holds
  pub data Branches : Type 0 where
    no_branch : Branches
    a_branch : ExpressionTree → StatementTree → Branches → Branches

  -- how a `for` loop starts, where it starts with something
  pub data StartTree : Type 0 where
    no_start : StartTree
    start_var : Place → Declarations → StartTree
    start_value : ExpressionTree → StartTree

  -- what a `for`-`in` loop writes each name to
  pub data TargetTree : Type 0 where
    target_value : ExpressionTree → TargetTree
    target_declared : BoundName → OptionalExpression → TargetTree

  -- the clauses of a `switch`: a test, or none for `default`, and statements
  pub data Clauses : Type 0 where
    no_clause : Clauses
    a_clause : OptionalExpression → Statements → Clauses → Clauses

  -- the name of what was thrown and a block, or none
  pub data CatchTree : Type 0 where
    no_catch : CatchTree
    a_catch : BoundName → StatementTree → CatchTree

abbrev pub optional_of : Option ExpressionTree → OptionalExpression
optional_of None = absent
optional_of (Some e) = present e

abbrev pub expressions_of : List ExpressionTree → Expressions
expressions_of [] = no_expression
expressions_of (e ∷ es) = an_expression e (expressions_of es)

abbrev pub items_of : List (Option ExpressionTree) → Items
items_of [] = no_item
items_of (o ∷ os) = an_item (optional_of o) (items_of os)

abbrev pub statements_of : List StatementTree → Statements
statements_of [] = no_statement
statements_of (s ∷ ss) = a_statement s (statements_of ss)
