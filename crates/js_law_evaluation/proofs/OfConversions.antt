-- Conversions and operators have one end and ask for lookup names alone, where calls do.
use Rattle.std.proofs.Common.{refl, ℤ, pos, List, [], ◌∷◌, Bool, true, false, Result, Ok, Err}
use Rattle.std.specs.Prelude.{ℕ, ◌+ℤ◌, ◌-ℤ◌, codes}
use Rattle.js_tree.specs.declared.place.Place.{Place}
use Rattle.js_tree.specs.declared.operators.BinaryOp.{BinaryOp}
use Rattle.js_tree.specs.declared.operators.BinaryOp.TheVariants as op
use Rattle.js_tree.specs.declared.operators.UpdateOp.{UpdateOp}
use Rattle.js_tree.specs.declared.operators.UpdateOp.TheVariants as update
use Rattle.heap_values.specs.declared.ids.ObjectId.{ObjectId}
use Rattle.heap_values.specs.declared.value.Value.{Value}
use Rattle.heap_values.specs.declared.value.Value.TheVariants.{Bool as Truth, Object}
use Rattle.whole_number.specs.declared.answer.WholeAnswer.{WholeAnswer}
use Rattle.whole_number.specs.declared.answer.WholeAnswer.TheVariants as whole
use Rattle.whole_number.specs.Whole.{whole_of}
use Rattle.js_convert.specs.declared.answer.ConvertAnswer.{ConvertAnswer}
use Rattle.js_convert.specs.declared.numeric.Numeric.{Numeric}
use Rattle.js_convert.specs.declared.numeric.Numeric.TheVariants as numeric
use Rattle.js_convert.specs.Numeric.{numeric_of}
use Rattle.js_convert.specs.Texts.{text_of}
use Rattle.js_convert.specs.Operators.{operator_value, is_object}
use Rattle.js_evaluation.specs.Objects.{is_callable}
use Rattle.js_evaluation.specs.Conversions.{Call, number_methods, text_methods, call_value_if, call_value, primitive_by, to_primitive, number_or_fault, to_number, to_text, bits_or_fault, to_bits, operated, takes_primitives, operate, is_in, instance_of_by, instance_of, binary, whole_or_fault, stepped}
use Rattle.js_law_evaluation.proofs.OfState.{Ends, gives, fails, reads, ◌onto◌, either, throw_type_error-ends}
use Rattle.js_law_evaluation.proofs.OfHanded.{given-ends}
use Rattle.js_law_evaluation.proofs.OfObjects.{get-ends, has_property-ends, stands_among-ends}

pub number_or_fault-ends : (call : Call) (n : Numeric) (place : Place) → Ends (number_or_fault call n place)
number_or_fault-ends call (numeric.Whole n) place = gives n
number_or_fault-ends call numeric.NotANumber place = fails _ place
number_or_fault-ends call numeric.Fraction place = fails _ place
number_or_fault-ends call numeric.Range place = fails _ place

bits_or_fault-ends : (call : Call) (n : Numeric) (place : Place) → Ends (bits_or_fault call n place)
bits_or_fault-ends call (numeric.Whole n) place = gives _
bits_or_fault-ends call numeric.NotANumber place = gives _
bits_or_fault-ends call numeric.Fraction place = fails _ place
bits_or_fault-ends call numeric.Range place = fails _ place

whole_or_fault-ends : (call : Call) (result : Result ℤ WholeAnswer) (place : Place) → Ends (whole_or_fault call result place)
whole_or_fault-ends call (Ok n) place = gives n
whole_or_fault-ends call (Err whole.Range) place = fails _ place
whole_or_fault-ends call (Err whole.Fraction) place = fails _ place
whole_or_fault-ends call (Err whole.DivisionByZero) place = fails _ place

pub stepped-ends : (call : Call) (o : UpdateOp) (n : ℤ) (place : Place) → Ends (stepped call o n place)
stepped-ends call update.Increment n place = whole_or_fault-ends call (whole_of (n +ℤ pos 1)) place
stepped-ends call update.Decrement n place = whole_or_fault-ends call (whole_of (n -ℤ pos 1)) place

operated-ends : (call : Call) (result : Result Value ConvertAnswer) (place : Place) → Ends (operated call result place)
operated-ends call (Ok v) place = given-ends v place
operated-ends call (Err e) place = fails _ place

instance_of_by-ends : (call : Call) (v f : Value) (place : Place) → Ends (instance_of_by call v f place)
instance_of_by-ends call (Object id) f place =
    get-ends f (codes "prototype") place onto (λ prototype. stands_among-ends id prototype place)
instance_of_by-ends call v f place = gives (Truth false)

instance_of-ends : (call : Call) (a b : Value) (place : Place) → Ends (instance_of call a b place)
instance_of-ends call a b place =
    reads (λ m s. refl) (λ s. either (is_callable s.heap b) (instance_of_by-ends call a b place) (throw_type_error-ends (codes "not a function") place))

-- ---- where calls come to one end

abbrev pub CallsEnd : Call → Type 0
CallsEnd call = (f : ObjectId) (this : Value) (vs : List Value) (place : Place) → Ends (call f this vs place)

module _ (call : Call) (call-ends : CallsEnd call) where
  call_value_if-ends : (b : Bool) (f this : Value) (vs : List Value) (place : Place) → Ends (call_value_if call b f this vs place)
  call_value_if-ends true (Object f) this vs place = call-ends f this vs place
  call_value_if-ends b f this vs place = throw_type_error-ends (codes "not a function") place

  pub call_value-ends : (f this : Value) (vs : List Value) (place : Place) → Ends (call_value call f this vs place)
  call_value-ends f this vs place = reads (λ m s. refl) (λ s. call_value_if-ends (is_callable s.heap f) f this vs place)

  primitive_by-ends : (methods : List (List ℕ)) (id : ObjectId) (place : Place) → Ends (primitive_by call methods id place)
  primitive_by-ends [] id place = throw_type_error-ends (codes "not an object") place
  primitive_by-ends (m ∷ ms) id place = get-ends (Object id) m place onto (λ f. reads (λ m s. refl) (λ s. either (is_callable s.heap f)
      (call_value-ends f (Object id) [] place onto (λ v. either (is_object v) (primitive_by-ends ms id place) (gives v)))
      (primitive_by-ends ms id place)))

  pub to_primitive-ends : (methods : List (List ℕ)) (v : Value) (place : Place) → Ends (to_primitive call methods v place)
  to_primitive-ends methods (Object id) place = primitive_by-ends methods id place
  to_primitive-ends methods v place = gives v

  pub to_number-ends : (v : Value) (place : Place) → Ends (to_number call v place)
  to_number-ends v place = to_primitive-ends number_methods v place onto (λ p. number_or_fault-ends call (numeric_of p) place)

  pub to_text-ends : (v : Value) (place : Place) → Ends (to_text call v place)
  to_text-ends v place = to_primitive-ends text_methods v place onto (λ p. gives (text_of p))

  pub to_bits-ends : (v : Value) (place : Place) → Ends (to_bits call v place)
  to_bits-ends v place = to_primitive-ends number_methods v place onto (λ p. bits_or_fault-ends call (numeric_of p) place)

  operate-ends : (o : BinaryOp) (a b : Value) (place : Place) → Ends (operate call o a b place)
  operate-ends o a b place = either (takes_primitives call o a b)
      (to_primitive-ends number_methods a place onto (λ x. to_primitive-ends number_methods b place onto (λ y. operated-ends call (operator_value o x y) place)))
      (operated-ends call (operator_value o a b) place)

  is_in-ends : (a b : Value) (place : Place) → Ends (is_in call a b place)
  is_in-ends a (Object id) place = to_text-ends a place onto (λ name. has_property-ends id name place)
  is_in-ends a b place = throw_type_error-ends (codes "not an object") place

  pub binary-ends : (o : BinaryOp) (a b : Value) (place : Place) → Ends (binary call o a b place)
  binary-ends op.In a b place = is_in-ends a b place
  binary-ends op.InstanceOf a b place = instance_of-ends call a b place
  binary-ends o a b place = operate-ends o a b place
