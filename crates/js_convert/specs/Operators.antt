-- Operators on primitive values (ECMA-262 5.1, sections 11.5 to 11.10), cut to whole numbers. Where both operands are
-- at fault, Range on any side comes first, then Fraction, then not-a-number, then a divisor of 0.
use Rattle.std.specs.Prelude.{ℕ, ◌*◌, ◌/◌, ◌%◌, ◌^◌, ℤ, pos, ◌+ℤ◌, ◌-ℤ◌, ◌*ℤ◌, ◌++◌, Bool, true, false, not, ◌&&◌, ◌||◌, Option, Some, None, Result, Ok, Err, if◌then◌else◌, bit_and, bit_or, bit_xor, nat_eq}
use Rattle.std.specs.Str.{bytes_eq}
use Rattle.std.specs.Ordering.{nat_cmp, is_lt, int_cmp, int_eq}
use Rattle.std.specs.Cmp.Lexicographic.{slice_cmp}
use Rattle.std.specs.Int.{w32, cast_signed, int_shr}
use Rattle.whole_number.specs.declared.answer.WholeAnswer.{WholeAnswer}
use Rattle.whole_number.specs.declared.answer.WholeAnswer.TheVariants as whole
use Rattle.whole_number.specs.Whole.{whole_of, quotient_of, remainder_of, uint32_of}
use Rattle.heap_values.specs.declared.value.Value.{Value}
use Rattle.heap_values.specs.declared.value.Value.TheVariants as value
use Rattle.js_convert.specs.declared.numeric.Numeric.{Numeric}
use Rattle.js_convert.specs.declared.numeric.Numeric.TheVariants as numeric
use Rattle.js_tree.specs.declared.operators.BinaryOp.{BinaryOp}
use Rattle.js_tree.specs.declared.operators.BinaryOp.TheVariants.{BitOr, BitXor, BitAnd, Equal, NotEqual, StrictEqual, StrictNotEqual, Less, Greater, LessEqual, GreaterEqual, ShiftLeft, ShiftRight, UnsignedShiftRight, Add, Subtract, Multiply, Divide, Remainder}
use Rattle.js_convert.specs.declared.answer.ConvertAnswer.{ConvertAnswer}
use Rattle.js_convert.specs.declared.answer.ConvertAnswer.TheVariants as answer
use Rattle.js_convert.specs.Numeric.{numeric_of}
use Rattle.js_convert.specs.Texts.{text_of}

-- ---- two operands as numbers

abbrev pub is_range : Numeric → Bool
is_range numeric.Range = true
is_range _ = false

abbrev pub is_fraction : Numeric → Bool
is_fraction numeric.Fraction = true
is_fraction _ = false

-- the first refusal of the two, or else r
abbrev pub unless_refused : {A : Type 0} → Numeric → Numeric → Result A ConvertAnswer → Result A ConvertAnswer
unless_refused a b r = if is_range a || is_range b then Err answer.NumberRange
    else if is_fraction a || is_fraction b then Err answer.Fraction
    else r

-- both numbers
abbrev pub both_whole : Numeric → Numeric → Result (ℤ × ℤ) ConvertAnswer
both_whole (numeric.Whole x) (numeric.Whole y) = Ok (x, y)
both_whole _ _ = Err answer.NotANumber

abbrev pub numbers_of : Value → Value → Result (ℤ × ℤ) ConvertAnswer
numbers_of a b = unless_refused (numeric_of a) (numeric_of b) (both_whole (numeric_of a) (numeric_of b))

-- the 32 bits of a number; not-a-number has none (9.5)
abbrev pub bits_of : Numeric → ℕ
bits_of (numeric.Whole n) = uint32_of n
bits_of _ = 0

abbrev pub bit_pair_of : Value → Value → Result (ℕ × ℕ) ConvertAnswer
bit_pair_of a b = unless_refused (numeric_of a) (numeric_of b) (Ok (bits_of (numeric_of a), bits_of (numeric_of b)))

-- a number that is compared; none for not-a-number
abbrev pub side_of : Numeric → Option ℤ
side_of (numeric.Whole n) = Some n
side_of _ = None

abbrev pub sides_of : Value → Value → Result (Option ℤ × Option ℤ) ConvertAnswer
sides_of a b = unless_refused (numeric_of a) (numeric_of b) (Ok (side_of (numeric_of a), side_of (numeric_of b)))

-- ---- arithmetic (11.5, 11.6) and bits (11.7, 11.10)

abbrev pub fault_of : WholeAnswer → ConvertAnswer
fault_of whole.Range = answer.NumberRange
fault_of whole.Fraction = answer.Fraction
fault_of whole.DivisionByZero = answer.DivisionByZero

abbrev pub number_value : Result ℤ WholeAnswer → Result Value ConvertAnswer
number_value (Ok n) = Ok (value.Number n)
number_value (Err e) = Err (fault_of e)

abbrev pub on_pair : {A : Type 0} → (A → A → Result Value ConvertAnswer) → Result (A × A) ConvertAnswer → Result Value ConvertAnswer
on_pair f (Ok p) = f p.0 p.1
on_pair f (Err e) = Err e

abbrev pub arithmetic : (ℤ → ℤ → Result ℤ WholeAnswer) → Value → Value → Result Value ConvertAnswer
arithmetic f a b = on_pair (λ x y. number_value (f x y)) (numbers_of a b)

-- bits as a number of signed 32 bits
abbrev pub bits_value : ℕ → Value
bits_value bits = value.Number (cast_signed w32 bits)

abbrev pub bitwise : (ℕ → ℕ → ℕ) → Value → Value → Result Value ConvertAnswer
bitwise f a b = on_pair (λ x y. Ok (bits_value (f x y))) (bit_pair_of a b)

-- the left operand's bits shifted to the right, with its sign (11.7.2)
abbrev pub shifted_signed : ℕ → ℕ → Result Value ConvertAnswer
shifted_signed x y = Ok (value.Number (int_shr (cast_signed w32 x) (y % 32)))

abbrev pub is_text : Value → Bool
is_text (value.Text t) = true
is_text _ = false

-- two texts joined, where one side is a text; else the sum (11.6.1)
abbrev pub sum_value : Value → Value → Result Value ConvertAnswer
sum_value a b = if is_text a || is_text b then Ok (value.Text (text_of a ++ text_of b)) else arithmetic (λ x y. whole_of (x +ℤ y)) a b

-- ---- order (11.8)

abbrev pub less_sides : Option ℤ → Option ℤ → Option Bool
less_sides (Some x) (Some y) = Some (is_lt (int_cmp x y))
less_sides _ _ = None

abbrev pub less_pair : Result (Option ℤ × Option ℤ) ConvertAnswer → Result (Option Bool) ConvertAnswer
less_pair (Ok p) = Ok (less_sides p.0 p.1)
less_pair (Err e) = Err e

-- whether a is less than b: two texts by units, else numbers; none where a side is not-a-number (11.8.5)
abbrev pub less_of : Value → Value → Result (Option Bool) ConvertAnswer
less_of (value.Text s) (value.Text t) = Ok (Some (is_lt (slice_cmp nat_cmp s t)))
less_of a b = less_pair (sides_of a b)

-- `a < b`: not-a-number gives false
abbrev pub less_truth : Option Bool → Value
less_truth None = value.Bool false
less_truth (Some truth) = value.Bool truth

-- `a <= b` of whether b is less than a: not-a-number gives false here too
abbrev pub not_less_truth : Option Bool → Value
not_less_truth None = value.Bool false
not_less_truth (Some truth) = value.Bool (not truth)

abbrev pub on_less : (Option Bool → Value) → Result (Option Bool) ConvertAnswer → Result Value ConvertAnswer
on_less f (Ok less) = Ok (f less)
on_less f (Err e) = Err e

-- ---- equality (11.9)

abbrev pub same_truth : Bool → Bool → Bool
same_truth true y = y
same_truth false y = not y

-- the same type and the same value; objects by identity (11.9.6)
abbrev pub strictly_equal : Value → Value → Bool
strictly_equal value.Undefined value.Undefined = true
strictly_equal value.Null value.Null = true
strictly_equal (value.Bool x) (value.Bool y) = same_truth x y
strictly_equal (value.Number x) (value.Number y) = int_eq x y
strictly_equal (value.Text x) (value.Text y) = bytes_eq x y
strictly_equal (value.Object x) (value.Object y) = nat_eq x.0 y.0
strictly_equal a b = false

abbrev pub is_nothing : Value → Bool
is_nothing value.Undefined = true
is_nothing value.Null = true
is_nothing v = false

abbrev pub is_object : Value → Bool
is_object (value.Object id) = true
is_object v = false

abbrev pub is_same_type : Value → Value → Bool
is_same_type (value.Bool x) (value.Bool y) = true
is_same_type (value.Number x) (value.Number y) = true
is_same_type (value.Text x) (value.Text y) = true
is_same_type (value.Object x) (value.Object y) = true
is_same_type a b = false

abbrev pub equal_sides : Option ℤ → Option ℤ → Bool
equal_sides (Some x) (Some y) = int_eq x y
equal_sides x y = false

abbrev pub equal_pair : Result (Option ℤ × Option ℤ) ConvertAnswer → Result Bool ConvertAnswer
equal_pair (Ok p) = Ok (equal_sides p.0 p.1)
equal_pair (Err e) = Err e

-- undefined and null are equal, one type goes by the same value, an object differs from a primitive value that it
-- wasn't made, and other primitive values are compared as numbers (11.9.3)
abbrev pub loosely_equal : Value → Value → Result Bool ConvertAnswer
loosely_equal a b = if is_nothing a || is_nothing b then Ok (is_nothing a && is_nothing b)
    else if is_same_type a b then Ok (strictly_equal a b)
    else if is_object a || is_object b then Ok false
    else equal_pair (sides_of a b)

abbrev pub truth_value : Result Bool ConvertAnswer → Result Value ConvertAnswer
truth_value (Ok truth) = Ok (value.Bool truth)
truth_value (Err e) = Err e

abbrev pub untruth_value : Result Bool ConvertAnswer → Result Value ConvertAnswer
untruth_value (Ok truth) = Ok (value.Bool (not truth))
untruth_value (Err e) = Err e

-- ---- the operator table

-- the value of an operator on primitive values. `||`, `&&`, `instanceof` and `in` look at more than two such values:
-- they are never asked here
abbrev pub operator_value : BinaryOp → Value → Value → Result Value ConvertAnswer
operator_value BitOr a b = bitwise bit_or a b
operator_value BitXor a b = bitwise bit_xor a b
operator_value BitAnd a b = bitwise bit_and a b
operator_value Equal a b = truth_value (loosely_equal a b)
operator_value NotEqual a b = untruth_value (loosely_equal a b)
operator_value StrictEqual a b = Ok (value.Bool (strictly_equal a b))
operator_value StrictNotEqual a b = Ok (value.Bool (not (strictly_equal a b)))
operator_value Less a b = on_less less_truth (less_of a b)
operator_value Greater a b = on_less less_truth (less_of b a)
operator_value LessEqual a b = on_less not_less_truth (less_of b a)
operator_value GreaterEqual a b = on_less not_less_truth (less_of a b)
operator_value ShiftLeft a b = bitwise (λ x y. (x * 2 ^ (y % 32)) % 2 ^ 32) a b
operator_value ShiftRight a b = on_pair shifted_signed (bit_pair_of a b)
operator_value UnsignedShiftRight a b = on_pair (λ x y. Ok (value.Number (pos (x / 2 ^ (y % 32))))) (bit_pair_of a b)
operator_value Add a b = sum_value a b
operator_value Subtract a b = arithmetic (λ x y. whole_of (x -ℤ y)) a b
operator_value Multiply a b = arithmetic (λ x y. whole_of (x *ℤ y)) a b
operator_value Divide a b = arithmetic quotient_of a b
operator_value Remainder a b = arithmetic remainder_of a b
operator_value _ a b = Ok value.Undefined
