-- The tokens that a tree is printed as, this project's spelling. Each stands in the first place, and none behind a
-- line's end. An expression that is no leaf stands in brackets, so that no operand depends on what stands around it. A
-- pattern literal stands in brackets too: behind `(` its slash doesn't divide.
use Rattle.std.specs.Prelude.{ℕ, pos, List, [], ◌∷◌, ◌++◌, Some, None, Bool, true, false}
use Rattle.js_tree.specs.declared.place.Place.{Place}
use Rattle.js_tree.specs.declared.token.Token.{Token}
use Rattle.js_tree.specs.declared.token.TokenKind.{TokenKind}
use Rattle.js_tree.specs.declared.token.TokenKind.TheVariants as token
use Rattle.js_tree.specs.declared.sign.Sign.{Sign as SignName}
use Rattle.js_tree.specs.declared.sign.Sign.TheVariants as sign
use Rattle.js_tree.specs.declared.bound.BoundName.{BoundName}
use Rattle.js_tree.specs.declared.operators.UnaryOp.{UnaryOp}
use Rattle.js_tree.specs.declared.operators.UnaryOp.TheVariants as unary
use Rattle.js_tree.specs.declared.operators.UpdateForm.TheVariants.{Prefix, Postfix}
use Rattle.js_tree.specs.declared.operators.UpdateOp.{UpdateOp}
use Rattle.js_tree.specs.declared.operators.UpdateOp.TheVariants.{Increment, Decrement}
use Rattle.js_tree.specs.declared.operators.BinaryOp.{BinaryOp}
use Rattle.js_tree.specs.declared.operators.BinaryOp.TheVariants as binary
use Rattle.js_tree.specs.declared.operators.AssignOp.{AssignOp}
use Rattle.js_tree.specs.declared.operators.AssignOp.TheVariants as assign
use Rattle.js_tree.specs.Tree.{ExpressionTree, Number, Characters, Pattern, True, False, Null, This, Name, Array, Object, Function, Numbered, Suffixed, New, Update, Unary, Chain, Conditional, Assign, Comma, OptionalExpression, absent, present, Expressions, no_expression, an_expression, Items, no_item, an_item, Properties, no_property, a_property, SuffixTree, a_member, an_index, a_call, Suffixes, no_suffix, a_suffix, Operands, no_operand, an_operand, FunctionTree, a_function, StatementTree, Block, Empty, Evaluate, Debugger, Var, If, DoWhile, While, For, ForIn, Continue, Break, Return, Throw, Switch, Try, Declare, DeclareNumbered, OptionalStatement, omitted, given, Statements, no_statement, a_statement, Declarations, no_declared, a_declared, Branches, no_branch, a_branch, StartTree, no_start, start_var, start_value, TargetTree, target_value, target_declared, Clauses, no_clause, a_clause, CatchTree, no_catch, a_catch}
use Rattle.js_tree.specs.declared.keyword.Keyword.{Keyword}
use Rattle.js_tree.specs.declared.keyword.Keyword.TheVariants as word
use Rattle.js_grammar.specs.Words.{keyword_spelling}

-- ---- single tokens

abbrev pub nowhere : Place
nowhere = record { line = 1; column = 1 }

abbrev pub printed : TokenKind → Token
printed kind = record { kind = kind; place = nowhere; after_line = false }

abbrev pub sign_token : SignName → Token
sign_token s = printed (token.Sign s)

abbrev pub word_token : List ℕ → Token
word_token w = printed (token.Word w)

abbrev pub keyword_token : Keyword → Token
keyword_token k = word_token (keyword_spelling k)

-- ---- operators

abbrev pub unary_token : UnaryOp → Token
unary_token unary.Delete = keyword_token word.Delete
unary_token unary.Void = keyword_token word.Void
unary_token unary.TypeOf = keyword_token word.TypeOf
unary_token unary.Plus = sign_token sign.Plus
unary_token unary.Minus = sign_token sign.Minus
unary_token unary.BitNot = sign_token sign.Tilde
unary_token unary.Not = sign_token sign.Exclamation

abbrev pub update_token : UpdateOp → Token
update_token Increment = sign_token sign.PlusPlus
update_token Decrement = sign_token sign.MinusMinus

abbrev pub binary_token : BinaryOp → Token
binary_token binary.Or = sign_token sign.OrOr
binary_token binary.And = sign_token sign.AndAnd
binary_token binary.BitOr = sign_token sign.Bar
binary_token binary.BitXor = sign_token sign.Caret
binary_token binary.BitAnd = sign_token sign.Ampersand
binary_token binary.Equal = sign_token sign.Equal
binary_token binary.NotEqual = sign_token sign.NotEqual
binary_token binary.StrictEqual = sign_token sign.StrictEqual
binary_token binary.StrictNotEqual = sign_token sign.StrictNotEqual
binary_token binary.Less = sign_token sign.Less
binary_token binary.Greater = sign_token sign.Greater
binary_token binary.LessEqual = sign_token sign.LessEqual
binary_token binary.GreaterEqual = sign_token sign.GreaterEqual
binary_token binary.InstanceOf = keyword_token word.InstanceOf
binary_token binary.In = keyword_token word.In
binary_token binary.ShiftLeft = sign_token sign.ShiftLeft
binary_token binary.ShiftRight = sign_token sign.ShiftRight
binary_token binary.UnsignedShiftRight = sign_token sign.UnsignedShiftRight
binary_token binary.Add = sign_token sign.Plus
binary_token binary.Subtract = sign_token sign.Minus
binary_token binary.Multiply = sign_token sign.Star
binary_token binary.Divide = sign_token sign.Slash
binary_token binary.Remainder = sign_token sign.Percent

abbrev pub assign_token : AssignOp → Token
assign_token assign.Set = sign_token sign.Assign
assign_token assign.Add = sign_token sign.PlusAssign
assign_token assign.Subtract = sign_token sign.MinusAssign
assign_token assign.Multiply = sign_token sign.StarAssign
assign_token assign.Divide = sign_token sign.SlashAssign
assign_token assign.Remainder = sign_token sign.PercentAssign
assign_token assign.ShiftLeft = sign_token sign.ShiftLeftAssign
assign_token assign.ShiftRight = sign_token sign.ShiftRightAssign
assign_token assign.UnsignedShiftRight = sign_token sign.UnsignedShiftRightAssign
assign_token assign.BitAnd = sign_token sign.AmpersandAssign
assign_token assign.BitOr = sign_token sign.BarAssign
assign_token assign.BitXor = sign_token sign.CaretAssign

-- ---- what stands in brackets and between parts

abbrev pub in_round : List Token → List Token
in_round ts = sign_token sign.LeftParenthesis ∷ (ts ++ sign_token sign.RightParenthesis ∷ [])

abbrev pub in_square : List Token → List Token
in_square ts = sign_token sign.LeftBracket ∷ (ts ++ sign_token sign.RightBracket ∷ [])

abbrev pub in_braces : List Token → List Token
in_braces ts = sign_token sign.LeftBrace ∷ (ts ++ sign_token sign.RightBrace ∷ [])

-- a comma, where parts follow
abbrev pub comma_if : Bool → List Token
comma_if true = sign_token sign.Comma ∷ []
comma_if false = []

abbrev pub more_names : List BoundName → Bool
more_names [] = false
more_names (x ∷ xs) = true

abbrev pub more_expressions : Expressions → Bool
more_expressions no_expression = false
more_expressions (an_expression e es) = true

abbrev pub more_items : Items → Bool
more_items no_item = false
more_items (an_item o os) = true

abbrev pub more_properties : Properties → Bool
more_properties no_property = false
more_properties (a_property x e ps) = true

abbrev pub more_declared : Declarations → Bool
more_declared no_declared = false
more_declared (a_declared x o ds) = true

-- `else`, where branches follow
abbrev pub else_if : Bool → List Token
else_if true = keyword_token word.Else ∷ []
else_if false = []

abbrev pub more_branches : Branches → Bool
more_branches no_branch = false
more_branches (a_branch e s bs) = true

abbrev pub parameters_tokens : List BoundName → List Token
parameters_tokens [] = []
parameters_tokens (x ∷ xs) = word_token x.name ∷ (comma_if (more_names xs) ++ parameters_tokens xs)

-- the own name of a function expression, or none
abbrev pub own_name_tokens : FunctionTree → List Token
own_name_tokens (a_function None parameters names body) = []
own_name_tokens (a_function (Some x) parameters names body) = word_token x.name ∷ []

-- ---- trees

unfoldable mutual
  -- A function that stands by its number in a program is in no script that was read; its number is printed.
  pub expression_tokens : ExpressionTree → List Token
  expression_tokens (Number p n) = printed (token.Number n) ∷ []
  expression_tokens (Characters p x) = printed (token.Text x) ∷ []
  expression_tokens (Pattern p l) = in_round (printed (token.Pattern l) ∷ [])
  expression_tokens (True p) = keyword_token word.True ∷ []
  expression_tokens (False p) = keyword_token word.False ∷ []
  expression_tokens (Null p) = keyword_token word.Null ∷ []
  expression_tokens (This p) = keyword_token word.This ∷ []
  expression_tokens (Name p x) = word_token x.name ∷ []
  expression_tokens (Array p all) = in_square (items_tokens all)
  expression_tokens (Object p all) = in_round (in_braces (properties_tokens all))
  expression_tokens (Function p f) = in_round (keyword_token word.Function ∷ (own_name_tokens f ++ function_tokens f))
  expression_tokens (Numbered p n) = in_round (keyword_token word.Function ∷ (printed (token.Number (pos n)) ∷ []))
  expression_tokens (Suffixed p e all) = in_round (expression_tokens e ++ suffixes_tokens all)
  expression_tokens (New p e all) = in_round (keyword_token word.New ∷ (expression_tokens e ++ in_round (expressions_tokens all)))
  expression_tokens (Update p Prefix op e) = in_round (update_token op ∷ expression_tokens e)
  expression_tokens (Update p Postfix op e) = in_round (expression_tokens e ++ update_token op ∷ [])
  expression_tokens (Unary p op e) = in_round (unary_token op ∷ expression_tokens e)
  expression_tokens (Chain p e all) = in_round (expression_tokens e ++ operands_tokens all)
  expression_tokens (Conditional p c a b) = in_round (expression_tokens c ++ sign_token sign.Question ∷ (expression_tokens a ++ sign_token sign.Colon ∷ expression_tokens b))
  expression_tokens (Assign p e op v) = in_round (expression_tokens e ++ assign_token op ∷ expression_tokens v)
  expression_tokens (Comma p all) = in_round (expressions_tokens all)

  pub optional_tokens : OptionalExpression → List Token
  optional_tokens absent = []
  optional_tokens (present e) = expression_tokens e

  pub expressions_tokens : Expressions → List Token
  expressions_tokens no_expression = []
  expressions_tokens (an_expression e es) = expression_tokens e ++ (comma_if (more_expressions es) ++ expressions_tokens es)

  -- A hole is written as nothing; a comma stands behind each hole, and behind each other item but the last.
  pub items_tokens : Items → List Token
  items_tokens no_item = []
  items_tokens (an_item o os) = item_tokens o (more_items os) ++ items_tokens os

  pub item_tokens : OptionalExpression → Bool → List Token
  item_tokens absent more = sign_token sign.Comma ∷ []
  item_tokens (present e) more = expression_tokens e ++ comma_if more

  pub properties_tokens : Properties → List Token
  properties_tokens no_property = []
  properties_tokens (a_property x e ps) = printed (token.Text x) ∷ (sign_token sign.Colon ∷ (expression_tokens e ++ (comma_if (more_properties ps) ++ properties_tokens ps)))

  pub suffix_tokens : SuffixTree → List Token
  suffix_tokens (a_member p x) = sign_token sign.Dot ∷ (word_token x ∷ [])
  suffix_tokens (an_index p e) = in_square (expression_tokens e)
  suffix_tokens (a_call p es) = in_round (expressions_tokens es)

  pub suffixes_tokens : Suffixes → List Token
  suffixes_tokens no_suffix = []
  suffixes_tokens (a_suffix s ss) = suffix_tokens s ++ suffixes_tokens ss

  pub operands_tokens : Operands → List Token
  operands_tokens no_operand = []
  operands_tokens (an_operand p op e os) = binary_token op ∷ (expression_tokens e ++ operands_tokens os)

  -- a function from its parameters on
  pub function_tokens : FunctionTree → List Token
  function_tokens (a_function own parameters names body) = in_round (parameters_tokens parameters) ++ in_braces (statements_tokens body)

  pub statement_tokens : StatementTree → List Token
  statement_tokens (Block p ss) = in_braces (statements_tokens ss)
  statement_tokens (Empty p) = sign_token sign.Semicolon ∷ []
  statement_tokens (Evaluate p e) = expression_tokens e ++ sign_token sign.Semicolon ∷ []
  statement_tokens (Debugger p) = keyword_token word.Debugger ∷ (sign_token sign.Semicolon ∷ [])
  statement_tokens (Var p ds) = keyword_token word.Var ∷ (declarations_tokens ds ++ sign_token sign.Semicolon ∷ [])
  statement_tokens (If p bs s) = branches_tokens bs ++ otherwise_tokens s
  statement_tokens (DoWhile p s c) = keyword_token word.Do ∷ (statement_tokens s ++ keyword_token word.While ∷ (in_round (expression_tokens c) ++ sign_token sign.Semicolon ∷ []))
  statement_tokens (While p c s) = keyword_token word.While ∷ (in_round (expression_tokens c) ++ statement_tokens s)
  statement_tokens (For p a c e s) = keyword_token word.For ∷ (in_round (start_tokens a ++ sign_token sign.Semicolon ∷ (optional_tokens c ++ sign_token sign.Semicolon ∷ optional_tokens e)) ++ statement_tokens s)
  statement_tokens (ForIn p t e s) = keyword_token word.For ∷ (in_round (target_tokens t ++ keyword_token word.In ∷ expression_tokens e) ++ statement_tokens s)
  statement_tokens (Continue p) = keyword_token word.Continue ∷ (sign_token sign.Semicolon ∷ [])
  statement_tokens (Break p) = keyword_token word.Break ∷ (sign_token sign.Semicolon ∷ [])
  statement_tokens (Return p o) = keyword_token word.Return ∷ (optional_tokens o ++ sign_token sign.Semicolon ∷ [])
  statement_tokens (Throw p e) = keyword_token word.Throw ∷ (expression_tokens e ++ sign_token sign.Semicolon ∷ [])
  statement_tokens (Switch p e cs) = keyword_token word.Switch ∷ (in_round (expression_tokens e) ++ in_braces (clauses_tokens cs))
  statement_tokens (Try p s c f) = keyword_token word.Try ∷ (statement_tokens s ++ (catch_tokens c ++ finally_tokens f))
  statement_tokens (Declare p x f) = keyword_token word.Function ∷ (word_token x.name ∷ function_tokens f)
  statement_tokens (DeclareNumbered p x n) = keyword_token word.Function ∷ (word_token x.name ∷ (printed (token.Number (pos n)) ∷ []))

  pub statements_tokens : Statements → List Token
  statements_tokens no_statement = []
  statements_tokens (a_statement s ss) = statement_tokens s ++ statements_tokens ss

  pub otherwise_tokens : OptionalStatement → List Token
  otherwise_tokens omitted = []
  otherwise_tokens (given s) = keyword_token word.Else ∷ statement_tokens s

  pub finally_tokens : OptionalStatement → List Token
  finally_tokens omitted = []
  finally_tokens (given s) = keyword_token word.Finally ∷ statement_tokens s

  pub first_value_tokens : OptionalExpression → List Token
  first_value_tokens absent = []
  first_value_tokens (present e) = sign_token sign.Assign ∷ expression_tokens e

  pub declarations_tokens : Declarations → List Token
  declarations_tokens no_declared = []
  declarations_tokens (a_declared x o ds) = word_token x.name ∷ (first_value_tokens o ++ (comma_if (more_declared ds) ++ declarations_tokens ds))

  pub branches_tokens : Branches → List Token
  branches_tokens no_branch = []
  branches_tokens (a_branch c s bs) = keyword_token word.If ∷ (in_round (expression_tokens c) ++ (statement_tokens s ++ (else_if (more_branches bs) ++ branches_tokens bs)))

  pub start_tokens : StartTree → List Token
  start_tokens no_start = []
  start_tokens (start_var p ds) = keyword_token word.Var ∷ declarations_tokens ds
  start_tokens (start_value e) = expression_tokens e

  pub target_tokens : TargetTree → List Token
  target_tokens (target_value e) = expression_tokens e
  target_tokens (target_declared x o) = keyword_token word.Var ∷ (word_token x.name ∷ first_value_tokens o)

  pub test_tokens : OptionalExpression → List Token
  test_tokens absent = keyword_token word.Default ∷ (sign_token sign.Colon ∷ [])
  test_tokens (present e) = keyword_token word.Case ∷ (expression_tokens e ++ sign_token sign.Colon ∷ [])

  pub clauses_tokens : Clauses → List Token
  clauses_tokens no_clause = []
  clauses_tokens (a_clause o ss cs) = test_tokens o ++ (statements_tokens ss ++ clauses_tokens cs)

  pub catch_tokens : CatchTree → List Token
  catch_tokens no_catch = []
  catch_tokens (a_catch x s) = keyword_token word.Catch ∷ (in_round (word_token x.name ∷ []) ++ statement_tokens s)
