-- Conversions and operators, where calls agree.
use Rattle.std.proofs.Common.{ℤ, pos, List, [], ◌∷◌, Bool, true, false, Result, Ok, Err, refl}
use Rattle.std.specs.Prelude.{ℕ, ◌+ℤ◌, ◌-ℤ◌, codes}
use Rattle.js_tree.specs.declared.place.Place.{Place}
use Rattle.js_tree.specs.declared.operators.BinaryOp.{BinaryOp}
use Rattle.js_tree.specs.declared.operators.BinaryOp.TheVariants as op
use Rattle.js_tree.specs.declared.operators.UpdateOp.{UpdateOp}
use Rattle.js_tree.specs.declared.operators.UpdateOp.TheVariants as update
use Rattle.whole_number.specs.declared.answer.WholeAnswer.{WholeAnswer}
use Rattle.whole_number.specs.declared.answer.WholeAnswer.TheVariants as whole
use Rattle.whole_number.specs.Whole.{whole_of}
use Rattle.heap_values.specs.declared.ids.ObjectId.{ObjectId}
use Rattle.heap_values.specs.declared.value.Value.{Value}
use Rattle.heap_values.specs.declared.value.Value.TheVariants.{Bool as Truth, Object}
use Rattle.js_convert.specs.declared.answer.ConvertAnswer.{ConvertAnswer}
use Rattle.js_convert.specs.declared.numeric.Numeric.{Numeric}
use Rattle.js_convert.specs.declared.numeric.Numeric.TheVariants as numeric
use Rattle.js_convert.specs.Numeric.{numeric_of}
use Rattle.js_convert.specs.Texts.{text_of}
use Rattle.js_convert.specs.Operators.{operator_value, is_object}
use Rattle.js_evaluation.specs.State.{RunState}
use Rattle.js_evaluation.specs.Objects.{is_callable}
use Rattle.js_evaluation.specs.Conversions.{Call, number_methods, text_methods, call_value_if, call_value, primitive_by, to_primitive, number_or_fault, to_number, to_text, bits_or_fault, to_bits, operated, takes_primitives, operate, is_in, instance_of_by, instance_of, binary, whole_or_fault, stepped}
use Rattle.js_law_right.specs.Right.{Setting}
use Rattle.js_law_names.proofs.Agreeing.{Agrees, gives, fails, sees, ◌onto◌, either}
use Rattle.js_law_names.proofs.OfState.{throw_type_error-agrees}
use Rattle.js_law_names.proofs.OfObjects.{get-agrees, has_property-agrees, stands_among-agrees}
use Rattle.js_law_names.proofs.OfHanded.{given-agrees}

-- calls of two runs
abbrev pub CallsAgree : (ℕ → Setting) → Call → Call → Type 0
CallsAgree setting call call' = (z : RunState) (f : ObjectId) (this : Value) (vs : List Value) (place : Place) → Agrees setting z (call f this vs place) (call' f this vs place)

module _ {setting : ℕ → Setting} where
  pub number_or_fault-agrees : {z : RunState} (call call' : Call) (n : Numeric) (place : Place)
      → Agrees setting z (number_or_fault call n place) (number_or_fault call' n place)
  number_or_fault-agrees call call' (numeric.Whole n) place = gives n
  number_or_fault-agrees call call' numeric.NotANumber place = fails _ place
  number_or_fault-agrees call call' numeric.Fraction place = fails _ place
  number_or_fault-agrees call call' numeric.Range place = fails _ place

  bits_or_fault-agrees : {z : RunState} (call call' : Call) (n : Numeric) (place : Place)
      → Agrees setting z (bits_or_fault call n place) (bits_or_fault call' n place)
  bits_or_fault-agrees call call' (numeric.Whole n) place = gives _
  bits_or_fault-agrees call call' numeric.NotANumber place = gives _
  bits_or_fault-agrees call call' numeric.Fraction place = fails _ place
  bits_or_fault-agrees call call' numeric.Range place = fails _ place

  whole_or_fault-agrees : {z : RunState} (call call' : Call) (result : Result ℤ WholeAnswer) (place : Place)
      → Agrees setting z (whole_or_fault call result place) (whole_or_fault call' result place)
  whole_or_fault-agrees call call' (Ok n) place = gives n
  whole_or_fault-agrees call call' (Err whole.Range) place = fails _ place
  whole_or_fault-agrees call call' (Err whole.Fraction) place = fails _ place
  whole_or_fault-agrees call call' (Err whole.DivisionByZero) place = fails _ place

  pub stepped-agrees : {z : RunState} (call call' : Call) (o : UpdateOp) (n : ℤ) (place : Place)
      → Agrees setting z (stepped call o n place) (stepped call' o n place)
  stepped-agrees call call' update.Increment n place = whole_or_fault-agrees call call' (whole_of (n +ℤ pos 1)) place
  stepped-agrees call call' update.Decrement n place = whole_or_fault-agrees call call' (whole_of (n -ℤ pos 1)) place

  operated-agrees : {z : RunState} (call call' : Call) (result : Result Value ConvertAnswer) (place : Place)
      → Agrees setting z (operated call result place) (operated call' result place)
  operated-agrees call call' (Ok v) place = given-agrees v place
  operated-agrees call call' (Err e) place = fails _ place

  instance_of_by-agrees : {z : RunState} (call call' : Call) (v f : Value) (place : Place)
      → Agrees setting z (instance_of_by call v f place) (instance_of_by call' v f place)
  instance_of_by-agrees call call' (Object id) f place =
      get-agrees f (codes "prototype") place onto (λ prototype. stands_among-agrees id prototype place)
  instance_of_by-agrees call call' v f place = gives (Truth false)

  instance_of-agrees : {z : RunState} (call call' : Call) (a b : Value) (place : Place)
      → Agrees setting z (instance_of call a b place) (instance_of call' a b place)
  instance_of-agrees call call' a b place =
      sees (λ z _l _f. either (is_callable z.heap b) (instance_of_by-agrees call call' a b place) (throw_type_error-agrees (codes "not a function") place)) (λ z. refl)

  -- ---- where calls agree

  module _ (call call' : Call) (call-agrees : CallsAgree setting call call') where
    call_value_if-agrees : {z : RunState} (b : Bool) (f this : Value) (vs : List Value) (place : Place)
        → Agrees setting z (call_value_if call b f this vs place) (call_value_if call' b f this vs place)
    call_value_if-agrees true (Object f) this vs place = call-agrees _ f this vs place
    call_value_if-agrees b f this vs place = throw_type_error-agrees (codes "not a function") place

    pub call_value-agrees : {z : RunState} (f this : Value) (vs : List Value) (place : Place)
        → Agrees setting z (call_value call f this vs place) (call_value call' f this vs place)
    call_value-agrees f this vs place = sees (λ z _l _f. call_value_if-agrees (is_callable z.heap f) f this vs place) (λ z. refl)

    primitive_by-agrees : {z : RunState} (methods : List (List ℕ)) (id : ObjectId) (place : Place)
        → Agrees setting z (primitive_by call methods id place) (primitive_by call' methods id place)
    primitive_by-agrees [] id place = throw_type_error-agrees (codes "not an object") place
    primitive_by-agrees (m ∷ ms) id place = get-agrees (Object id) m place onto (λ f. sees (λ z _l _f. either (is_callable z.heap f)
        (call_value-agrees f (Object id) [] place onto (λ v. either (is_object v) (primitive_by-agrees ms id place) (gives v)))
        (primitive_by-agrees ms id place)) (λ z. refl))

    pub to_primitive-agrees : {z : RunState} (methods : List (List ℕ)) (v : Value) (place : Place)
        → Agrees setting z (to_primitive call methods v place) (to_primitive call' methods v place)
    to_primitive-agrees methods (Object id) place = primitive_by-agrees methods id place
    to_primitive-agrees methods v place = gives v

    pub to_number-agrees : {z : RunState} (v : Value) (place : Place)
        → Agrees setting z (to_number call v place) (to_number call' v place)
    to_number-agrees v place = to_primitive-agrees number_methods v place onto (λ p. number_or_fault-agrees call call' (numeric_of p) place)

    pub to_text-agrees : {z : RunState} (v : Value) (place : Place)
        → Agrees setting z (to_text call v place) (to_text call' v place)
    to_text-agrees v place = to_primitive-agrees text_methods v place onto (λ p. gives (text_of p))

    pub to_bits-agrees : {z : RunState} (v : Value) (place : Place)
        → Agrees setting z (to_bits call v place) (to_bits call' v place)
    to_bits-agrees v place = to_primitive-agrees number_methods v place onto (λ p. bits_or_fault-agrees call call' (numeric_of p) place)

    operate-agrees : {z : RunState} (o : BinaryOp) (a b : Value) (place : Place)
        → Agrees setting z (operate call o a b place) (operate call' o a b place)
    operate-agrees o a b place = either (takes_primitives call o a b)
        (to_primitive-agrees number_methods a place onto (λ x. to_primitive-agrees number_methods b place onto (λ y. operated-agrees call call' (operator_value o x y) place)))
        (operated-agrees call call' (operator_value o a b) place)

    is_in-agrees : {z : RunState} (a b : Value) (place : Place)
        → Agrees setting z (is_in call a b place) (is_in call' a b place)
    is_in-agrees a (Object id) place = to_text-agrees a place onto (λ name. has_property-agrees id name place)
    is_in-agrees a b place = throw_type_error-agrees (codes "not an object") place

    pub binary-agrees : {z : RunState} (o : BinaryOp) (a b : Value) (place : Place)
        → Agrees setting z (binary call o a b place) (binary call' o a b place)
    binary-agrees op.In a b place = is_in-agrees a b place
    binary-agrees op.InstanceOf a b place = instance_of-agrees call call' a b place
    binary-agrees o a b place = operate-agrees o a b place
