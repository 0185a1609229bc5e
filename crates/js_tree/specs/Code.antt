-- Written by tools/write_tree.py from Tree.antt: change that file, and run the script.
-- Each tree has a code of its own, by which a proof tells trees apart: the code can be read back.
use Rattle.std.specs.Prelude.{◌≡◌, ℕ, zero, suc, ℤ, pos, negsuc, List, [], ◌∷◌, Option, Some, None, refl}
use Rattle.std.proofs.Common.{sym, ap, ◌∙◌}
use Rattle.std.specs.Coded.{Coded}
use base.Stored.{Gv, gnil, gnum, gcons, num}
use Rattle.js_pattern_reader.specs.Literal.{Literal}
use Rattle.js_tree.specs.declared.place.Place.{Place}
use Rattle.js_tree.specs.declared.bound.Bound.{Bound}
use Rattle.js_tree.specs.declared.bound.Bound.TheVariants as bound
use Rattle.js_tree.specs.declared.bound.BoundName.{BoundName}
use Rattle.js_tree.specs.declared.operators.UnaryOp.{UnaryOp}
use Rattle.js_tree.specs.declared.operators.UnaryOp.TheVariants as unary_op
use Rattle.js_tree.specs.declared.operators.UpdateForm.{UpdateForm}
use Rattle.js_tree.specs.declared.operators.UpdateForm.TheVariants as update_form
use Rattle.js_tree.specs.declared.operators.UpdateOp.{UpdateOp}
use Rattle.js_tree.specs.declared.operators.UpdateOp.TheVariants as update_op
use Rattle.js_tree.specs.declared.operators.BinaryOp.{BinaryOp}
use Rattle.js_tree.specs.declared.operators.BinaryOp.TheVariants as binary_op
use Rattle.js_tree.specs.declared.operators.AssignOp.{AssignOp}
use Rattle.js_tree.specs.declared.operators.AssignOp.TheVariants as assign_op
use Rattle.js_tree.specs.Tree.{ExpressionTree, Number, Characters, Pattern, True, False, Null, This, Name, Array, Object, Function, Numbered, Suffixed, New, Update, Unary, Chain, Conditional, Assign, Comma, OptionalExpression, absent, present, Expressions, no_expression, an_expression, Items, no_item, an_item, Properties, no_property, a_property, SuffixTree, a_member, an_index, a_call, Suffixes, no_suffix, a_suffix, Operands, no_operand, an_operand, FunctionTree, a_function, StatementTree, Block, Empty, Evaluate, Debugger, Var, If, DoWhile, While, For, ForIn, Continue, Break, Return, Throw, Switch, Try, Declare, DeclareNumbered, OptionalStatement, omitted, given, Statements, no_statement, a_statement, Declarations, no_declared, a_declared, Branches, no_branch, a_branch, StartTree, no_start, start_var, start_value, TargetTree, target_value, target_declared, Clauses, no_clause, a_clause, CatchTree, no_catch, a_catch}

abbrev pub place_gv : Place → Gv
place_gv p = gcons (gnum p.line) (gnum p.column)

abbrev pub place_from : Gv → Place
place_from (gcons a b) = record { line = num a; column = num b }
place_from _ = record { line = 0; column = 0 }

pub place_back : (p : Place) → place_from (place_gv p) ≡ p
place_back p = refl

abbrev pub int_gv : ℤ → Gv
int_gv (pos n) = gcons (gnum 0) (gnum n)
int_gv (negsuc n) = gcons (gnum 1) (gnum n)

abbrev pub int_by : ℕ → ℕ → ℤ
int_by zero n = pos n
int_by (suc tag) n = negsuc n

abbrev pub int_from : Gv → ℤ
int_from (gcons a b) = int_by (num a) (num b)
int_from _ = pos 0

pub int_back : (n : ℤ) → int_from (int_gv n) ≡ n
int_back (pos n) = refl
int_back (negsuc n) = refl

abbrev pub text_gv : List ℕ → Gv
text_gv [] = gnil
text_gv (x ∷ xs) = gcons (gnum x) (text_gv xs)

abbrev pub text_from : Gv → List ℕ
text_from (gcons a b) = num a ∷ text_from b
text_from _ = []

pub text_back : (xs : List ℕ) → text_from (text_gv xs) ≡ xs
text_back [] = refl
text_back (x ∷ xs) = ap (λ ys. x ∷ ys) (text_back xs)

abbrev pub texts_gv : List (List ℕ) → Gv
texts_gv [] = gnil
texts_gv (x ∷ xs) = gcons (text_gv x) (texts_gv xs)

abbrev pub texts_from : Gv → List (List ℕ)
texts_from (gcons a b) = text_from a ∷ texts_from b
texts_from _ = []

pub texts_back : (xs : List (List ℕ)) → texts_from (texts_gv xs) ≡ xs
texts_back [] = refl
texts_back (x ∷ xs) = cc (text_back x, texts_back xs)

abbrev pub literal_gv : Literal → Gv
literal_gv x = gcons (text_gv x.body) (text_gv x.flags)

abbrev pub literal_from : Gv → Literal
literal_from (gcons a b) = record { body = text_from a; flags = text_from b }
literal_from _ = record { body = []; flags = [] }

pub literal_back : (x : Literal) → literal_from (literal_gv x) ≡ x
literal_back x = λ i. record { body = text_back x.body i; flags = text_back x.flags i }

abbrev pub bound_gv : Bound → Gv
bound_gv bound.Unbound = gcons (gnum 0) (gcons gnil gnil)
bound_gv (bound.Slot up slot) = gcons (gnum 1) (gcons (gnum up) (gnum slot))
bound_gv (bound.Own up) = gcons (gnum 2) (gcons (gnum up) gnil)
bound_gv bound.Global = gcons (gnum 3) (gcons gnil gnil)

abbrev pub bound_by : ℕ → ℕ → ℕ → Bound
bound_by zero up slot = bound.Unbound
bound_by (suc zero) up slot = bound.Slot up slot
bound_by (suc (suc zero)) up slot = bound.Own up
bound_by _ up slot = bound.Global

abbrev pub bound_from : Gv → Bound
bound_from (gcons t (gcons a b)) = bound_by (num t) (num a) (num b)
bound_from _ = bound.Unbound

pub bound_back : (b : Bound) → bound_from (bound_gv b) ≡ b
bound_back bound.Unbound = refl
bound_back (bound.Slot up slot) = refl
bound_back (bound.Own up) = refl
bound_back bound.Global = refl

abbrev pub bound_name_gv : BoundName → Gv
bound_name_gv x = gcons (text_gv x.name) (bound_gv x.bound)

abbrev pub bound_name_from : Gv → BoundName
bound_name_from (gcons a b) = record { name = text_from a; bound = bound_from b }
bound_name_from _ = record { name = []; bound = bound.Unbound }

pub bound_name_back : (x : BoundName) → bound_name_from (bound_name_gv x) ≡ x
bound_name_back x = λ i. record { name = text_back x.name i; bound = bound_back x.bound i }

abbrev pub bound_names_gv : List BoundName → Gv
bound_names_gv [] = gnil
bound_names_gv (x ∷ xs) = gcons (bound_name_gv x) (bound_names_gv xs)

abbrev pub bound_names_from : Gv → List BoundName
bound_names_from (gcons a b) = bound_name_from a ∷ bound_names_from b
bound_names_from _ = []

pub bound_names_back : (xs : List BoundName) → bound_names_from (bound_names_gv xs) ≡ xs
bound_names_back [] = refl
bound_names_back (x ∷ xs) = cc (bound_name_back x, bound_names_back xs)

abbrev pub optional_name_gv : Option BoundName → Gv
optional_name_gv None = gnil
optional_name_gv (Some x) = gcons (bound_name_gv x) gnil

abbrev pub optional_name_from : Gv → Option BoundName
optional_name_from (gcons a b) = Some (bound_name_from a)
optional_name_from _ = None

pub optional_name_back : (o : Option BoundName) → optional_name_from (optional_name_gv o) ≡ o
optional_name_back None = refl
optional_name_back (Some x) = cc (bound_name_back x)

-- the choice at a tag
abbrev pub pick : {A : Type 0} → ℕ → List A → A → A
pick n [] d = d
pick zero (x ∷ xs) d = x
pick (suc n) (x ∷ xs) d = pick n xs d

abbrev pub unary_op_gv : UnaryOp → Gv
unary_op_gv unary_op.Delete = gnum 0
unary_op_gv unary_op.Void = gnum 1
unary_op_gv unary_op.TypeOf = gnum 2
unary_op_gv unary_op.Plus = gnum 3
unary_op_gv unary_op.Minus = gnum 4
unary_op_gv unary_op.BitNot = gnum 5
unary_op_gv unary_op.Not = gnum 6

abbrev pub unary_op_from : Gv → UnaryOp
unary_op_from g = pick (num g) (unary_op.Delete ∷ unary_op.Void ∷ unary_op.TypeOf ∷ unary_op.Plus ∷ unary_op.Minus ∷ unary_op.BitNot ∷ unary_op.Not ∷ []) unary_op.Delete

pub unary_op_back : (x : UnaryOp) → unary_op_from (unary_op_gv x) ≡ x
unary_op_back unary_op.Delete = refl
unary_op_back unary_op.Void = refl
unary_op_back unary_op.TypeOf = refl
unary_op_back unary_op.Plus = refl
unary_op_back unary_op.Minus = refl
unary_op_back unary_op.BitNot = refl
unary_op_back unary_op.Not = refl

abbrev pub update_form_gv : UpdateForm → Gv
update_form_gv update_form.Prefix = gnum 0
update_form_gv update_form.Postfix = gnum 1

abbrev pub update_form_from : Gv → UpdateForm
update_form_from g = pick (num g) (update_form.Prefix ∷ update_form.Postfix ∷ []) update_form.Prefix

pub update_form_back : (x : UpdateForm) → update_form_from (update_form_gv x) ≡ x
update_form_back update_form.Prefix = refl
update_form_back update_form.Postfix = refl

abbrev pub update_op_gv : UpdateOp → Gv
update_op_gv update_op.Increment = gnum 0
update_op_gv update_op.Decrement = gnum 1

abbrev pub update_op_from : Gv → UpdateOp
update_op_from g = pick (num g) (update_op.Increment ∷ update_op.Decrement ∷ []) update_op.Increment

pub update_op_back : (x : UpdateOp) → update_op_from (update_op_gv x) ≡ x
update_op_back update_op.Increment = refl
update_op_back update_op.Decrement = refl

abbrev pub binary_op_gv : BinaryOp → Gv
binary_op_gv binary_op.Or = gnum 0
binary_op_gv binary_op.And = gnum 1
binary_op_gv binary_op.BitOr = gnum 2
binary_op_gv binary_op.BitXor = gnum 3
binary_op_gv binary_op.BitAnd = gnum 4
binary_op_gv binary_op.Equal = gnum 5
binary_op_gv binary_op.NotEqual = gnum 6
binary_op_gv binary_op.StrictEqual = gnum 7
binary_op_gv binary_op.StrictNotEqual = gnum 8
binary_op_gv binary_op.Less = gnum 9
binary_op_gv binary_op.Greater = gnum 10
binary_op_gv binary_op.LessEqual = gnum 11
binary_op_gv binary_op.GreaterEqual = gnum 12
binary_op_gv binary_op.InstanceOf = gnum 13
binary_op_gv binary_op.In = gnum 14
binary_op_gv binary_op.ShiftLeft = gnum 15
binary_op_gv binary_op.ShiftRight = gnum 16
binary_op_gv binary_op.UnsignedShiftRight = gnum 17
binary_op_gv binary_op.Add = gnum 18
binary_op_gv binary_op.Subtract = gnum 19
binary_op_gv binary_op.Multiply = gnum 20
binary_op_gv binary_op.Divide = gnum 21
binary_op_gv binary_op.Remainder = gnum 22

abbrev pub binary_op_from : Gv → BinaryOp
binary_op_from g = pick (num g) (binary_op.Or ∷ binary_op.And ∷ binary_op.BitOr ∷ binary_op.BitXor ∷ binary_op.BitAnd ∷ binary_op.Equal ∷ binary_op.NotEqual ∷ binary_op.StrictEqual ∷ binary_op.StrictNotEqual ∷ binary_op.Less ∷ binary_op.Greater ∷ binary_op.LessEqual ∷ binary_op.GreaterEqual ∷ binary_op.InstanceOf ∷ binary_op.In ∷ binary_op.ShiftLeft ∷ binary_op.ShiftRight ∷ binary_op.UnsignedShiftRight ∷ binary_op.Add ∷ binary_op.Subtract ∷ binary_op.Multiply ∷ binary_op.Divide ∷ binary_op.Remainder ∷ []) binary_op.Or

pub binary_op_back : (x : BinaryOp) → binary_op_from (binary_op_gv x) ≡ x
binary_op_back binary_op.Or = refl
binary_op_back binary_op.And = refl
binary_op_back binary_op.BitOr = refl
binary_op_back binary_op.BitXor = refl
binary_op_back binary_op.BitAnd = refl
binary_op_back binary_op.Equal = refl
binary_op_back binary_op.NotEqual = refl
binary_op_back binary_op.StrictEqual = refl
binary_op_back binary_op.StrictNotEqual = refl
binary_op_back binary_op.Less = refl
binary_op_back binary_op.Greater = refl
binary_op_back binary_op.LessEqual = refl
binary_op_back binary_op.GreaterEqual = refl
binary_op_back binary_op.InstanceOf = refl
binary_op_back binary_op.In = refl
binary_op_back binary_op.ShiftLeft = refl
binary_op_back binary_op.ShiftRight = refl
binary_op_back binary_op.UnsignedShiftRight = refl
binary_op_back binary_op.Add = refl
binary_op_back binary_op.Subtract = refl
binary_op_back binary_op.Multiply = refl
binary_op_back binary_op.Divide = refl
binary_op_back binary_op.Remainder = refl

abbrev pub assign_op_gv : AssignOp → Gv
assign_op_gv assign_op.Set = gnum 0
assign_op_gv assign_op.Add = gnum 1
assign_op_gv assign_op.Subtract = gnum 2
assign_op_gv assign_op.Multiply = gnum 3
assign_op_gv assign_op.Divide = gnum 4
assign_op_gv assign_op.Remainder = gnum 5
assign_op_gv assign_op.ShiftLeft = gnum 6
assign_op_gv assign_op.ShiftRight = gnum 7
assign_op_gv assign_op.UnsignedShiftRight = gnum 8
assign_op_gv assign_op.BitAnd = gnum 9
assign_op_gv assign_op.BitOr = gnum 10
assign_op_gv assign_op.BitXor = gnum 11

abbrev pub assign_op_from : Gv → AssignOp
assign_op_from g = pick (num g) (assign_op.Set ∷ assign_op.Add ∷ assign_op.Subtract ∷ assign_op.Multiply ∷ assign_op.Divide ∷ assign_op.Remainder ∷ assign_op.ShiftLeft ∷ assign_op.ShiftRight ∷ assign_op.UnsignedShiftRight ∷ assign_op.BitAnd ∷ assign_op.BitOr ∷ assign_op.BitXor ∷ []) assign_op.Set

pub assign_op_back : (x : AssignOp) → assign_op_from (assign_op_gv x) ≡ x
assign_op_back assign_op.Set = refl
assign_op_back assign_op.Add = refl
assign_op_back assign_op.Subtract = refl
assign_op_back assign_op.Multiply = refl
assign_op_back assign_op.Divide = refl
assign_op_back assign_op.Remainder = refl
assign_op_back assign_op.ShiftLeft = refl
assign_op_back assign_op.ShiftRight = refl
assign_op_back assign_op.UnsignedShiftRight = refl
assign_op_back assign_op.BitAnd = refl
assign_op_back assign_op.BitOr = refl
assign_op_back assign_op.BitXor = refl

abbrev mutual
  pub expression_gv : ExpressionTree → Gv
  expression_gv (Number x0 x1) = gcons (gnum 0) (gcons (place_gv x0) (gcons (int_gv x1) (gcons gnil (gcons gnil gnil))))
  expression_gv (Characters x0 x1) = gcons (gnum 1) (gcons (place_gv x0) (gcons (text_gv x1) (gcons gnil (gcons gnil gnil))))
  expression_gv (Pattern x0 x1) = gcons (gnum 2) (gcons (place_gv x0) (gcons (literal_gv x1) (gcons gnil (gcons gnil gnil))))
  expression_gv (True x0) = gcons (gnum 3) (gcons (place_gv x0) (gcons gnil (gcons gnil (gcons gnil gnil))))
  expression_gv (False x0) = gcons (gnum 4) (gcons (place_gv x0) (gcons gnil (gcons gnil (gcons gnil gnil))))
  expression_gv (Null x0) = gcons (gnum 5) (gcons (place_gv x0) (gcons gnil (gcons gnil (gcons gnil gnil))))
  expression_gv (This x0) = gcons (gnum 6) (gcons (place_gv x0) (gcons gnil (gcons gnil (gcons gnil gnil))))
  expression_gv (Name x0 x1) = gcons (gnum 7) (gcons (place_gv x0) (gcons (bound_name_gv x1) (gcons gnil (gcons gnil gnil))))
  expression_gv (Array x0 x1) = gcons (gnum 8) (gcons (place_gv x0) (gcons (items_gv x1) (gcons gnil (gcons gnil gnil))))
  expression_gv (Object x0 x1) = gcons (gnum 9) (gcons (place_gv x0) (gcons (properties_gv x1) (gcons gnil (gcons gnil gnil))))
  expression_gv (Function x0 x1) = gcons (gnum 10) (gcons (place_gv x0) (gcons (function_gv x1) (gcons gnil (gcons gnil gnil))))
  expression_gv (Numbered x0 x1) = gcons (gnum 11) (gcons (place_gv x0) (gcons (gnum x1) (gcons gnil (gcons gnil gnil))))
  expression_gv (Suffixed x0 x1 x2) = gcons (gnum 12) (gcons (place_gv x0) (gcons (expression_gv x1) (gcons (suffixes_gv x2) (gcons gnil gnil))))
  expression_gv (New x0 x1 x2) = gcons (gnum 13) (gcons (place_gv x0) (gcons (expression_gv x1) (gcons (expressions_gv x2) (gcons gnil gnil))))
  expression_gv (Update x0 x1 x2 x3) = gcons (gnum 14) (gcons (place_gv x0) (gcons (update_form_gv x1) (gcons (update_op_gv x2) (gcons (expression_gv x3) gnil))))
  expression_gv (Unary x0 x1 x2) = gcons (gnum 15) (gcons (place_gv x0) (gcons (unary_op_gv x1) (gcons (expression_gv x2) (gcons gnil gnil))))
  expression_gv (Chain x0 x1 x2) = gcons (gnum 16) (gcons (place_gv x0) (gcons (expression_gv x1) (gcons (operands_gv x2) (gcons gnil gnil))))
  expression_gv (Conditional x0 x1 x2 x3) = gcons (gnum 17) (gcons (place_gv x0) (gcons (expression_gv x1) (gcons (expression_gv x2) (gcons (expression_gv x3) gnil))))
  expression_gv (Assign x0 x1 x2 x3) = gcons (gnum 18) (gcons (place_gv x0) (gcons (expression_gv x1) (gcons (assign_op_gv x2) (gcons (expression_gv x3) gnil))))
  expression_gv (Comma x0 x1) = gcons (gnum 19) (gcons (place_gv x0) (gcons (expressions_gv x1) (gcons gnil (gcons gnil gnil))))

  pub optional_expression_gv : OptionalExpression → Gv
  optional_expression_gv absent = gcons (gnum 0) (gcons gnil gnil)
  optional_expression_gv (present x0) = gcons (gnum 1) (gcons (expression_gv x0) gnil)

  pub expressions_gv : Expressions → Gv
  expressions_gv no_expression = gcons (gnum 0) (gcons gnil (gcons gnil gnil))
  expressions_gv (an_expression x0 x1) = gcons (gnum 1) (gcons (expression_gv x0) (gcons (expressions_gv x1) gnil))

  pub items_gv : Items → Gv
  items_gv no_item = gcons (gnum 0) (gcons gnil (gcons gnil gnil))
  items_gv (an_item x0 x1) = gcons (gnum 1) (gcons (optional_expression_gv x0) (gcons (items_gv x1) gnil))

  pub properties_gv : Properties → Gv
  properties_gv no_property = gcons (gnum 0) (gcons gnil (gcons gnil (gcons gnil gnil)))
  properties_gv (a_property x0 x1 x2) = gcons (gnum 1) (gcons (text_gv x0) (gcons (expression_gv x1) (gcons (properties_gv x2) gnil)))

  pub suffix_gv : SuffixTree → Gv
  suffix_gv (a_member x0 x1) = gcons (gnum 0) (gcons (place_gv x0) (gcons (text_gv x1) gnil))
  suffix_gv (an_index x0 x1) = gcons (gnum 1) (gcons (place_gv x0) (gcons (expression_gv x1) gnil))
  suffix_gv (a_call x0 x1) = gcons (gnum 2) (gcons (place_gv x0) (gcons (expressions_gv x1) gnil))

  pub suffixes_gv : Suffixes → Gv
  suffixes_gv no_suffix = gcons (gnum 0) (gcons gnil (gcons gnil gnil))
  suffixes_gv (a_suffix x0 x1) = gcons (gnum 1) (gcons (suffix_gv x0) (gcons (suffixes_gv x1) gnil))

  pub operands_gv : Operands → Gv
  operands_gv no_operand = gcons (gnum 0) (gcons gnil (gcons gnil (gcons gnil (gcons gnil gnil))))
  operands_gv (an_operand x0 x1 x2 x3) = gcons (gnum 1) (gcons (place_gv x0) (gcons (binary_op_gv x1) (gcons (expression_gv x2) (gcons (operands_gv x3) gnil))))

  pub function_gv : FunctionTree → Gv
  function_gv (a_function x0 x1 x2 x3) = gcons (gnum 0) (gcons (optional_name_gv x0) (gcons (bound_names_gv x1) (gcons (texts_gv x2) (gcons (statements_gv x3) gnil))))

  pub statement_gv : StatementTree → Gv
  statement_gv (Block x0 x1) = gcons (gnum 0) (gcons (place_gv x0) (gcons (statements_gv x1) (gcons gnil (gcons gnil (gcons gnil gnil)))))
  statement_gv (Empty x0) = gcons (gnum 1) (gcons (place_gv x0) (gcons gnil (gcons gnil (gcons gnil (gcons gnil gnil)))))
  statement_gv (Evaluate x0 x1) = gcons (gnum 2) (gcons (place_gv x0) (gcons (expression_gv x1) (gcons gnil (gcons gnil (gcons gnil gnil)))))
  statement_gv (Debugger x0) = gcons (gnum 3) (gcons (place_gv x0) (gcons gnil (gcons gnil (gcons gnil (gcons gnil gnil)))))
  statement_gv (Var x0 x1) = gcons (gnum 4) (gcons (place_gv x0) (gcons (declarations_gv x1) (gcons gnil (gcons gnil (gcons gnil gnil)))))
  statement_gv (If x0 x1 x2) = gcons (gnum 5) (gcons (place_gv x0) (gcons (branches_gv x1) (gcons (optional_statement_gv x2) (gcons gnil (gcons gnil gnil)))))
  statement_gv (DoWhile x0 x1 x2) = gcons (gnum 6) (gcons (place_gv x0) (gcons (statement_gv x1) (gcons (expression_gv x2) (gcons gnil (gcons gnil gnil)))))
  statement_gv (While x0 x1 x2) = gcons (gnum 7) (gcons (place_gv x0) (gcons (expression_gv x1) (gcons (statement_gv x2) (gcons gnil (gcons gnil gnil)))))
  statement_gv (For x0 x1 x2 x3 x4) = gcons (gnum 8) (gcons (place_gv x0) (gcons (start_gv x1) (gcons (optional_expression_gv x2) (gcons (optional_expression_gv x3) (gcons (statement_gv x4) gnil)))))
  statement_gv (ForIn x0 x1 x2 x3) = gcons (gnum 9) (gcons (place_gv x0) (gcons (target_gv x1) (gcons (expression_gv x2) (gcons (statement_gv x3) (gcons gnil gnil)))))
  statement_gv (Continue x0) = gcons (gnum 10) (gcons (place_gv x0) (gcons gnil (gcons gnil (gcons gnil (gcons gnil gnil)))))
  statement_gv (Break x0) = gcons (gnum 11) (gcons (place_gv x0) (gcons gnil (gcons gnil (gcons gnil (gcons gnil gnil)))))
  statement_gv (Return x0 x1) = gcons (gnum 12) (gcons (place_gv x0) (gcons (optional_expression_gv x1) (gcons gnil (gcons gnil (gcons gnil gnil)))))
  statement_gv (Throw x0 x1) = gcons (gnum 13) (gcons (place_gv x0) (gcons (expression_gv x1) (gcons gnil (gcons gnil (gcons gnil gnil)))))
  statement_gv (Switch x0 x1 x2) = gcons (gnum 14) (gcons (place_gv x0) (gcons (expression_gv x1) (gcons (clauses_gv x2) (gcons gnil (gcons gnil gnil)))))
  statement_gv (Try x0 x1 x2 x3) = gcons (gnum 15) (gcons (place_gv x0) (gcons (statement_gv x1) (gcons (catch_gv x2) (gcons (optional_statement_gv x3) (gcons gnil gnil)))))
  statement_gv (Declare x0 x1 x2) = gcons (gnum 16) (gcons (place_gv x0) (gcons (bound_name_gv x1) (gcons (function_gv x2) (gcons gnil (gcons gnil gnil)))))
  statement_gv (DeclareNumbered x0 x1 x2) = gcons (gnum 17) (gcons (place_gv x0) (gcons (bound_name_gv x1) (gcons (gnum x2) (gcons gnil (gcons gnil gnil)))))

  pub optional_statement_gv : OptionalStatement → Gv
  optional_statement_gv omitted = gcons (gnum 0) (gcons gnil gnil)
  optional_statement_gv (given x0) = gcons (gnum 1) (gcons (statement_gv x0) gnil)

  pub statements_gv : Statements → Gv
  statements_gv no_statement = gcons (gnum 0) (gcons gnil (gcons gnil gnil))
  statements_gv (a_statement x0 x1) = gcons (gnum 1) (gcons (statement_gv x0) (gcons (statements_gv x1) gnil))

  pub declarations_gv : Declarations → Gv
  declarations_gv no_declared = gcons (gnum 0) (gcons gnil (gcons gnil (gcons gnil gnil)))
  declarations_gv (a_declared x0 x1 x2) = gcons (gnum 1) (gcons (bound_name_gv x0) (gcons (optional_expression_gv x1) (gcons (declarations_gv x2) gnil)))

  pub branches_gv : Branches → Gv
  branches_gv no_branch = gcons (gnum 0) (gcons gnil (gcons gnil (gcons gnil gnil)))
  branches_gv (a_branch x0 x1 x2) = gcons (gnum 1) (gcons (expression_gv x0) (gcons (statement_gv x1) (gcons (branches_gv x2) gnil)))

  pub start_gv : StartTree → Gv
  start_gv no_start = gcons (gnum 0) (gcons gnil (gcons gnil gnil))
  start_gv (start_var x0 x1) = gcons (gnum 1) (gcons (place_gv x0) (gcons (declarations_gv x1) gnil))
  start_gv (start_value x0) = gcons (gnum 2) (gcons (expression_gv x0) (gcons gnil gnil))

  pub target_gv : TargetTree → Gv
  target_gv (target_value x0) = gcons (gnum 0) (gcons (expression_gv x0) (gcons gnil gnil))
  target_gv (target_declared x0 x1) = gcons (gnum 1) (gcons (bound_name_gv x0) (gcons (optional_expression_gv x1) gnil))

  pub clauses_gv : Clauses → Gv
  clauses_gv no_clause = gcons (gnum 0) (gcons gnil (gcons gnil (gcons gnil gnil)))
  clauses_gv (a_clause x0 x1 x2) = gcons (gnum 1) (gcons (optional_expression_gv x0) (gcons (statements_gv x1) (gcons (clauses_gv x2) gnil)))

  pub catch_gv : CatchTree → Gv
  catch_gv no_catch = gcons (gnum 0) (gcons gnil (gcons gnil gnil))
  catch_gv (a_catch x0 x1) = gcons (gnum 1) (gcons (bound_name_gv x0) (gcons (statement_gv x1) gnil))

abbrev mutual
  pub expression_from : Gv → ExpressionTree
  expression_from (gcons t (gcons a (gcons b (gcons c (gcons d _))))) = pick (num t) ((Number (place_from a) (int_from b)) ∷ (Characters (place_from a) (text_from b)) ∷ (Pattern (place_from a) (literal_from b)) ∷ (True (place_from a)) ∷ (False (place_from a)) ∷ (Null (place_from a)) ∷ (This (place_from a)) ∷ (Name (place_from a) (bound_name_from b)) ∷ (Array (place_from a) (items_from b)) ∷ (Object (place_from a) (properties_from b)) ∷ (Function (place_from a) (function_from b)) ∷ (Numbered (place_from a) (num b)) ∷ (Suffixed (place_from a) (expression_from b) (suffixes_from c)) ∷ (New (place_from a) (expression_from b) (expressions_from c)) ∷ (Update (place_from a) (update_form_from b) (update_op_from c) (expression_from d)) ∷ (Unary (place_from a) (unary_op_from b) (expression_from c)) ∷ (Chain (place_from a) (expression_from b) (operands_from c)) ∷ (Conditional (place_from a) (expression_from b) (expression_from c) (expression_from d)) ∷ (Assign (place_from a) (expression_from b) (assign_op_from c) (expression_from d)) ∷ (Comma (place_from a) (expressions_from b)) ∷ []) (Number (place_from gnil) (int_from gnil))
  expression_from _ = (Number (place_from gnil) (int_from gnil))

  pub optional_expression_from : Gv → OptionalExpression
  optional_expression_from (gcons t (gcons a _)) = pick (num t) (absent ∷ (present (expression_from a)) ∷ []) absent
  optional_expression_from _ = absent

  pub expressions_from : Gv → Expressions
  expressions_from (gcons t (gcons a (gcons b _))) = pick (num t) (no_expression ∷ (an_expression (expression_from a) (expressions_from b)) ∷ []) no_expression
  expressions_from _ = no_expression

  pub items_from : Gv → Items
  items_from (gcons t (gcons a (gcons b _))) = pick (num t) (no_item ∷ (an_item (optional_expression_from a) (items_from b)) ∷ []) no_item
  items_from _ = no_item

  pub properties_from : Gv → Properties
  properties_from (gcons t (gcons a (gcons b (gcons c _)))) = pick (num t) (no_property ∷ (a_property (text_from a) (expression_from b) (properties_from c)) ∷ []) no_property
  properties_from _ = no_property

  pub suffix_from : Gv → SuffixTree
  suffix_from (gcons t (gcons a (gcons b _))) = pick (num t) ((a_member (place_from a) (text_from b)) ∷ (an_index (place_from a) (expression_from b)) ∷ (a_call (place_from a) (expressions_from b)) ∷ []) (a_member (place_from gnil) (text_from gnil))
  suffix_from _ = (a_member (place_from gnil) (text_from gnil))

  pub suffixes_from : Gv → Suffixes
  suffixes_from (gcons t (gcons a (gcons b _))) = pick (num t) (no_suffix ∷ (a_suffix (suffix_from a) (suffixes_from b)) ∷ []) no_suffix
  suffixes_from _ = no_suffix

  pub operands_from : Gv → Operands
  operands_from (gcons t (gcons a (gcons b (gcons c (gcons d _))))) = pick (num t) (no_operand ∷ (an_operand (place_from a) (binary_op_from b) (expression_from c) (operands_from d)) ∷ []) no_operand
  operands_from _ = no_operand

  pub function_from : Gv → FunctionTree
  function_from (gcons t (gcons a (gcons b (gcons c (gcons d _))))) = pick (num t) ((a_function (optional_name_from a) (bound_names_from b) (texts_from c) (statements_from d)) ∷ []) (a_function (optional_name_from gnil) (bound_names_from gnil) (texts_from gnil) no_statement)
  function_from _ = (a_function (optional_name_from gnil) (bound_names_from gnil) (texts_from gnil) no_statement)

  pub statement_from : Gv → StatementTree
  statement_from (gcons t (gcons a (gcons b (gcons c (gcons d (gcons e _)))))) = pick (num t) ((Block (place_from a) (statements_from b)) ∷ (Empty (place_from a)) ∷ (Evaluate (place_from a) (expression_from b)) ∷ (Debugger (place_from a)) ∷ (Var (place_from a) (declarations_from b)) ∷ (If (place_from a) (branches_from b) (optional_statement_from c)) ∷ (DoWhile (place_from a) (statement_from b) (expression_from c)) ∷ (While (place_from a) (expression_from b) (statement_from c)) ∷ (For (place_from a) (start_from b) (optional_expression_from c) (optional_expression_from d) (statement_from e)) ∷ (ForIn (place_from a) (target_from b) (expression_from c) (statement_from d)) ∷ (Continue (place_from a)) ∷ (Break (place_from a)) ∷ (Return (place_from a) (optional_expression_from b)) ∷ (Throw (place_from a) (expression_from b)) ∷ (Switch (place_from a) (expression_from b) (clauses_from c)) ∷ (Try (place_from a) (statement_from b) (catch_from c) (optional_statement_from d)) ∷ (Declare (place_from a) (bound_name_from b) (function_from c)) ∷ (DeclareNumbered (place_from a) (bound_name_from b) (num c)) ∷ []) (Empty (place_from gnil))
  statement_from _ = (Empty (place_from gnil))

  pub optional_statement_from : Gv → OptionalStatement
  optional_statement_from (gcons t (gcons a _)) = pick (num t) (omitted ∷ (given (statement_from a)) ∷ []) omitted
  optional_statement_from _ = omitted

  pub statements_from : Gv → Statements
  statements_from (gcons t (gcons a (gcons b _))) = pick (num t) (no_statement ∷ (a_statement (statement_from a) (statements_from b)) ∷ []) no_statement
  statements_from _ = no_statement

  pub declarations_from : Gv → Declarations
  declarations_from (gcons t (gcons a (gcons b (gcons c _)))) = pick (num t) (no_declared ∷ (a_declared (bound_name_from a) (optional_expression_from b) (declarations_from c)) ∷ []) no_declared
  declarations_from _ = no_declared

  pub branches_from : Gv → Branches
  branches_from (gcons t (gcons a (gcons b (gcons c _)))) = pick (num t) (no_branch ∷ (a_branch (expression_from a) (statement_from b) (branches_from c)) ∷ []) no_branch
  branches_from _ = no_branch

  pub start_from : Gv → StartTree
  start_from (gcons t (gcons a (gcons b _))) = pick (num t) (no_start ∷ (start_var (place_from a) (declarations_from b)) ∷ (start_value (expression_from a)) ∷ []) no_start
  start_from _ = no_start

  pub target_from : Gv → TargetTree
  target_from (gcons t (gcons a (gcons b _))) = pick (num t) ((target_value (expression_from a)) ∷ (target_declared (bound_name_from a) (optional_expression_from b)) ∷ []) (target_value (Number (place_from gnil) (int_from gnil)))
  target_from _ = (target_value (Number (place_from gnil) (int_from gnil)))

  pub clauses_from : Gv → Clauses
  clauses_from (gcons t (gcons a (gcons b (gcons c _)))) = pick (num t) (no_clause ∷ (a_clause (optional_expression_from a) (statements_from b) (clauses_from c)) ∷ []) no_clause
  clauses_from _ = no_clause

  pub catch_from : Gv → CatchTree
  catch_from (gcons t (gcons a (gcons b _))) = pick (num t) (no_catch ∷ (a_catch (bound_name_from a) (statement_from b)) ∷ []) no_catch
  catch_from _ = no_catch

mutual
  pub expression_back : (x : ExpressionTree) → expression_from (expression_gv x) ≡ x
  expression_back (Number x0 x1) = cc (place_back x0, int_back x1)
  expression_back (Characters x0 x1) = cc (place_back x0, text_back x1)
  expression_back (Pattern x0 x1) = cc (place_back x0, literal_back x1)
  expression_back (True x0) = cc (place_back x0)
  expression_back (False x0) = cc (place_back x0)
  expression_back (Null x0) = cc (place_back x0)
  expression_back (This x0) = cc (place_back x0)
  expression_back (Name x0 x1) = cc (place_back x0, bound_name_back x1)
  expression_back (Array x0 x1) = cc (place_back x0, items_back x1)
  expression_back (Object x0 x1) = cc (place_back x0, properties_back x1)
  expression_back (Function x0 x1) = cc (place_back x0, function_back x1)
  expression_back (Numbered x0 x1) = cc (place_back x0)
  expression_back (Suffixed x0 x1 x2) = cc (place_back x0, expression_back x1, suffixes_back x2)
  expression_back (New x0 x1 x2) = cc (place_back x0, expression_back x1, expressions_back x2)
  expression_back (Update x0 x1 x2 x3) = cc (place_back x0, update_form_back x1, update_op_back x2, expression_back x3)
  expression_back (Unary x0 x1 x2) = cc (place_back x0, unary_op_back x1, expression_back x2)
  expression_back (Chain x0 x1 x2) = cc (place_back x0, expression_back x1, operands_back x2)
  expression_back (Conditional x0 x1 x2 x3) = cc (place_back x0, expression_back x1, expression_back x2, expression_back x3)
  expression_back (Assign x0 x1 x2 x3) = cc (place_back x0, expression_back x1, assign_op_back x2, expression_back x3)
  expression_back (Comma x0 x1) = cc (place_back x0, expressions_back x1)

  pub optional_expression_back : (x : OptionalExpression) → optional_expression_from (optional_expression_gv x) ≡ x
  optional_expression_back absent = refl
  optional_expression_back (present x0) = cc (expression_back x0)

  pub expressions_back : (x : Expressions) → expressions_from (expressions_gv x) ≡ x
  expressions_back no_expression = refl
  expressions_back (an_expression x0 x1) = cc (expression_back x0, expressions_back x1)

  pub items_back : (x : Items) → items_from (items_gv x) ≡ x
  items_back no_item = refl
  items_back (an_item x0 x1) = cc (optional_expression_back x0, items_back x1)

  pub properties_back : (x : Properties) → properties_from (properties_gv x) ≡ x
  properties_back no_property = refl
  properties_back (a_property x0 x1 x2) = cc (text_back x0, expression_back x1, properties_back x2)

  pub suffix_back : (x : SuffixTree) → suffix_from (suffix_gv x) ≡ x
  suffix_back (a_member x0 x1) = cc (place_back x0, text_back x1)
  suffix_back (an_index x0 x1) = cc (place_back x0, expression_back x1)
  suffix_back (a_call x0 x1) = cc (place_back x0, expressions_back x1)

  pub suffixes_back : (x : Suffixes) → suffixes_from (suffixes_gv x) ≡ x
  suffixes_back no_suffix = refl
  suffixes_back (a_suffix x0 x1) = cc (suffix_back x0, suffixes_back x1)

  pub operands_back : (x : Operands) → operands_from (operands_gv x) ≡ x
  operands_back no_operand = refl
  operands_back (an_operand x0 x1 x2 x3) = cc (place_back x0, binary_op_back x1, expression_back x2, operands_back x3)

  pub function_back : (x : FunctionTree) → function_from (function_gv x) ≡ x
  function_back (a_function x0 x1 x2 x3) = cc (optional_name_back x0, bound_names_back x1, texts_back x2, statements_back x3)

  pub statement_back : (x : StatementTree) → statement_from (statement_gv x) ≡ x
  statement_back (Block x0 x1) = cc (place_back x0, statements_back x1)
  statement_back (Empty x0) = cc (place_back x0)
  statement_back (Evaluate x0 x1) = cc (place_back x0, expression_back x1)
  statement_back (Debugger x0) = cc (place_back x0)
  statement_back (Var x0 x1) = cc (place_back x0, declarations_back x1)
  statement_back (If x0 x1 x2) = cc (place_back x0, branches_back x1, optional_statement_back x2)
  statement_back (DoWhile x0 x1 x2) = cc (place_back x0, statement_back x1, expression_back x2)
  statement_back (While x0 x1 x2) = cc (place_back x0, expression_back x1, statement_back x2)
  statement_back (For x0 x1 x2 x3 x4) = cc (place_back x0, start_back x1, optional_expression_back x2, optional_expression_back x3, statement_back x4)
  statement_back (ForIn x0 x1 x2 x3) = cc (place_back x0, target_back x1, expression_back x2, statement_back x3)
  statement_back (Continue x0) = cc (place_back x0)
  statement_back (Break x0) = cc (place_back x0)
  statement_back (Return x0 x1) = cc (place_back x0, optional_expression_back x1)
  statement_back (Throw x0 x1) = cc (place_back x0, expression_back x1)
  statement_back (Switch x0 x1 x2) = cc (place_back x0, expression_back x1, clauses_back x2)
  statement_back (Try x0 x1 x2 x3) = cc (place_back x0, statement_back x1, catch_back x2, optional_statement_back x3)
  statement_back (Declare x0 x1 x2) = cc (place_back x0, bound_name_back x1, function_back x2)
  statement_back (DeclareNumbered x0 x1 x2) = cc (place_back x0, bound_name_back x1)

  pub optional_statement_back : (x : OptionalStatement) → optional_statement_from (optional_statement_gv x) ≡ x
  optional_statement_back omitted = refl
  optional_statement_back (given x0) = cc (statement_back x0)

  pub statements_back : (x : Statements) → statements_from (statements_gv x) ≡ x
  statements_back no_statement = refl
  statements_back (a_statement x0 x1) = cc (statement_back x0, statements_back x1)

  pub declarations_back : (x : Declarations) → declarations_from (declarations_gv x) ≡ x
  declarations_back no_declared = refl
  declarations_back (a_declared x0 x1 x2) = cc (bound_name_back x0, optional_expression_back x1, declarations_back x2)

  pub branches_back : (x : Branches) → branches_from (branches_gv x) ≡ x
  branches_back no_branch = refl
  branches_back (a_branch x0 x1 x2) = cc (expression_back x0, statement_back x1, branches_back x2)

  pub start_back : (x : StartTree) → start_from (start_gv x) ≡ x
  start_back no_start = refl
  start_back (start_var x0 x1) = cc (place_back x0, declarations_back x1)
  start_back (start_value x0) = cc (expression_back x0)

  pub target_back : (x : TargetTree) → target_from (target_gv x) ≡ x
  target_back (target_value x0) = cc (expression_back x0)
  target_back (target_declared x0 x1) = cc (bound_name_back x0, optional_expression_back x1)

  pub clauses_back : (x : Clauses) → clauses_from (clauses_gv x) ≡ x
  clauses_back no_clause = refl
  clauses_back (a_clause x0 x1 x2) = cc (optional_expression_back x0, statements_back x1, clauses_back x2)

  pub catch_back : (x : CatchTree) → catch_from (catch_gv x) ≡ x
  catch_back no_catch = refl
  catch_back (a_catch x0 x1) = cc (bound_name_back x0, statement_back x1)

abbrev pub expression_code : Coded ExpressionTree
expression_code = record { code = expression_gv; inj = λ x y e. sym (expression_back x) ∙ ap expression_from e ∙ expression_back y }

abbrev pub statement_code : Coded StatementTree
statement_code = record { code = statement_gv; inj = λ x y e. sym (statement_back x) ∙ ap statement_from e ∙ statement_back y }
