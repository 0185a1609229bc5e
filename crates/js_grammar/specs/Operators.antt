-- Operators by their tokens (ECMA-262 5.1, sections 11.3 to 11.13), the levels of the binary ones, and targets.
use Rattle.std.specs.Prelude.{ℕ, List, [], ◌∷◌, Option, Some, None, Bool, true, false, nat_eq, if◌then◌else◌}
use Rattle.js_tree.specs.declared.token.Token.{Token}
use Rattle.js_tree.specs.declared.token.TokenKind.{TokenKind}
use Rattle.js_tree.specs.declared.token.TokenKind.TheVariants as token
use Rattle.js_tree.specs.declared.sign.Sign.{Sign}
use Rattle.js_tree.specs.declared.sign.Sign.TheVariants as sign
use Rattle.js_tree.specs.declared.operators.UnaryOp.{UnaryOp}
use Rattle.js_tree.specs.declared.operators.UnaryOp.TheVariants as unary
use Rattle.js_tree.specs.declared.operators.UpdateOp.{UpdateOp}
use Rattle.js_tree.specs.declared.operators.UpdateOp.TheVariants.{Increment, Decrement}
use Rattle.js_tree.specs.declared.operators.BinaryOp.{BinaryOp}
use Rattle.js_tree.specs.declared.operators.BinaryOp.TheVariants as binary
use Rattle.js_tree.specs.declared.operators.AssignOp.{AssignOp}
use Rattle.js_tree.specs.declared.operators.AssignOp.TheVariants as assign
use Rattle.js_tree.specs.Tree.{ExpressionTree, Name, Suffixed, SuffixTree, a_member, an_index, a_call, Suffixes, no_suffix, a_suffix}
use Rattle.js_tree.specs.declared.keyword.Keyword.{Keyword}
use Rattle.js_tree.specs.declared.keyword.Keyword.TheVariants as word
use Rattle.js_grammar.specs.declared.form.Form.{Form}
use Rattle.js_grammar.specs.declared.form.Form.TheVariants.{Plain}
use Rattle.js_grammar.specs.Words.{keyword_of}

-- ---- prefix operators (11.4)

abbrev pub unary_sign : Sign → Option UnaryOp
unary_sign sign.Plus = Some unary.Plus
unary_sign sign.Minus = Some unary.Minus
unary_sign sign.Tilde = Some unary.BitNot
unary_sign sign.Exclamation = Some unary.Not
unary_sign _ = None

abbrev pub unary_word : Option Keyword → Option UnaryOp
unary_word (Some word.Delete) = Some unary.Delete
unary_word (Some word.Void) = Some unary.Void
unary_word (Some word.TypeOf) = Some unary.TypeOf
unary_word _ = None

abbrev pub unary_in : TokenKind → Option UnaryOp
unary_in (token.Sign s) = unary_sign s
unary_in (token.Word w) = unary_word (keyword_of w)
unary_in _ = None

-- the prefix operator that comes next, other than `++` and `--`
abbrev pub next_unary : List Token → Option UnaryOp
next_unary [] = None
next_unary (t ∷ ts) = unary_in t.kind

-- ---- `++` and `--` (11.3, 11.4.4, 11.4.5)

abbrev pub update_in : TokenKind → Option UpdateOp
update_in (token.Sign sign.PlusPlus) = Some Increment
update_in (token.Sign sign.MinusMinus) = Some Decrement
update_in _ = None

abbrev pub next_update : List Token → Option UpdateOp
next_update [] = None
next_update (t ∷ ts) = update_in t.kind

-- behind a line's end it isn't a postfix operator
abbrev pub next_postfix : List Token → Option UpdateOp
next_postfix [] = None
next_postfix (t ∷ ts) = if t.after_line then None else update_in t.kind

-- ---- binary operators (11.5 to 11.11)

abbrev pub binary_sign : Sign → Option BinaryOp
binary_sign sign.OrOr = Some binary.Or
binary_sign sign.AndAnd = Some binary.And
binary_sign sign.Bar = Some binary.BitOr
binary_sign sign.Caret = Some binary.BitXor
binary_sign sign.Ampersand = Some binary.BitAnd
binary_sign sign.Equal = Some binary.Equal
binary_sign sign.NotEqual = Some binary.NotEqual
binary_sign sign.StrictEqual = Some binary.StrictEqual
binary_sign sign.StrictNotEqual = Some binary.StrictNotEqual
binary_sign sign.Less = Some binary.Less
binary_sign sign.Greater = Some binary.Greater
binary_sign sign.LessEqual = Some binary.LessEqual
binary_sign sign.GreaterEqual = Some binary.GreaterEqual
binary_sign sign.ShiftLeft = Some binary.ShiftLeft
binary_sign sign.ShiftRight = Some binary.ShiftRight
binary_sign sign.UnsignedShiftRight = Some binary.UnsignedShiftRight
binary_sign sign.Plus = Some binary.Add
binary_sign sign.Minus = Some binary.Subtract
binary_sign sign.Star = Some binary.Multiply
binary_sign sign.Slash = Some binary.Divide
binary_sign sign.Percent = Some binary.Remainder
binary_sign _ = None

abbrev pub binary_word : Form → Option Keyword → Option BinaryOp
binary_word form (Some word.InstanceOf) = Some binary.InstanceOf
binary_word Plain (Some word.In) = Some binary.In
binary_word form _ = None

abbrev pub binary_in : Form → TokenKind → Option BinaryOp
binary_in form (token.Sign s) = binary_sign s
binary_in form (token.Word w) = binary_word form (keyword_of w)
binary_in form _ = None

-- the binary operator that comes next
abbrev pub next_binary : Form → List Token → Option BinaryOp
next_binary form [] = None
next_binary form (t ∷ ts) = binary_in form t.kind

-- its level: 0 binds strongest, and 9 weakest
abbrev pub level_of : BinaryOp → ℕ
level_of binary.Or = 9
level_of binary.And = 8
level_of binary.BitOr = 7
level_of binary.BitXor = 6
level_of binary.BitAnd = 5
level_of binary.Equal = 4
level_of binary.NotEqual = 4
level_of binary.StrictEqual = 4
level_of binary.StrictNotEqual = 4
level_of binary.Less = 3
level_of binary.Greater = 3
level_of binary.LessEqual = 3
level_of binary.GreaterEqual = 3
level_of binary.InstanceOf = 3
level_of binary.In = 3
level_of binary.ShiftLeft = 2
level_of binary.ShiftRight = 2
level_of binary.UnsignedShiftRight = 2
level_of binary.Add = 1
level_of binary.Subtract = 1
level_of binary.Multiply = 0
level_of binary.Divide = 0
level_of binary.Remainder = 0

abbrev pub at_level : ℕ → Option BinaryOp → Option BinaryOp
at_level k None = None
at_level k (Some op) = if nat_eq (level_of op) k then Some op else None

-- ---- assignment (11.13)

abbrev pub assign_sign : Sign → Option AssignOp
assign_sign sign.Assign = Some assign.Set
assign_sign sign.PlusAssign = Some assign.Add
assign_sign sign.MinusAssign = Some assign.Subtract
assign_sign sign.StarAssign = Some assign.Multiply
assign_sign sign.SlashAssign = Some assign.Divide
assign_sign sign.PercentAssign = Some assign.Remainder
assign_sign sign.ShiftLeftAssign = Some assign.ShiftLeft
assign_sign sign.ShiftRightAssign = Some assign.ShiftRight
assign_sign sign.UnsignedShiftRightAssign = Some assign.UnsignedShiftRight
assign_sign sign.AmpersandAssign = Some assign.BitAnd
assign_sign sign.BarAssign = Some assign.BitOr
assign_sign sign.CaretAssign = Some assign.BitXor
assign_sign _ = None

abbrev pub assign_in : TokenKind → Option AssignOp
assign_in (token.Sign s) = assign_sign s
assign_in _ = None

abbrev pub next_assign : List Token → Option AssignOp
next_assign [] = None
next_assign (t ∷ ts) = assign_in t.kind

-- a member or an index, to which a value can be assigned
abbrev pub is_part : SuffixTree → Bool
is_part (a_member p x) = true
is_part (an_index p e) = true
is_part (a_call p es) = false

-- whether the last suffix is a member or an index, where before says so of none
abbrev pub ends_in_part : Bool → Suffixes → Bool
ends_in_part before no_suffix = before
ends_in_part before (a_suffix s ss) = ends_in_part (is_part s) ss

-- what a value can be assigned to: a name, a member or an index
abbrev pub is_target : ExpressionTree → Bool
is_target (Name p x) = true
is_target (Suffixed p e ss) = ends_in_part false ss
is_target _ = false
