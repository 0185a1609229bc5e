-- What natives do that call nothing has one end and asks nobody.
use Rattle.std.proofs.Common.{refl, ℕ, List, [], ◌∷◌, true, false, Option, Some, None, Result, Ok, Err, map}
use Rattle.std.specs.Prelude.{codes, is_some}
use Rattle.js_tree.specs.declared.place.Place.{Place}
use Rattle.js_pattern_reader.specs.Literal.{Literal}
use Rattle.heap_values.specs.declared.answer.HeapAnswer.{HeapAnswer}
use Rattle.heap_values.specs.declared.built_in.BuiltIn.{BuiltIn}
use Rattle.heap_values.specs.declared.built_in.BuiltIn.TheVariants as built_in
use Rattle.heap_values.specs.declared.ids.Kind.TheVariants as kind
use Rattle.heap_values.specs.declared.ids.ObjectId.{ObjectId}
use Rattle.heap_values.specs.declared.value.Value.{Value}
use Rattle.heap_values.specs.declared.value.Value.TheVariants as value
use Rattle.heap_values.specs.Views.{HeapView}
use Rattle.object_heap.specs.Heap.{object_at, own_found_in}
use Rattle.array_builtins.specs.declared.call.ArrayMethod.{ArrayMethod}
use Rattle.array_builtins.specs.Call.{array_result}
use Rattle.number_builtins.specs.declared.call.NumberMethod.{NumberMethod}
use Rattle.number_builtins.specs.declared.call.NumberResult.{NumberResult}
use Rattle.number_builtins.specs.declared.call.NumberResult.TheVariants as number
use Rattle.number_builtins.specs.Call.{number_result}
use Rattle.text_builtins.specs.declared.call.TextMethod.{TextMethod}
use Rattle.text_builtins.specs.declared.call.TextResult.{TextResult}
use Rattle.text_builtins.specs.declared.call.TextResult.TheVariants as text
use Rattle.text_builtins.specs.Call.{text_result}
use Rattle.js_convert.specs.Texts.{text_of}
use Rattle.js_evaluation.specs.declared.native.PlainNative.{PlainNative}
use Rattle.js_evaluation.specs.declared.native.PlainNative.TheVariants as plain
use Rattle.js_evaluation.specs.State.{built_in_object}
use Rattle.js_evaluation.specs.Objects.{own_of}
use Rattle.js_evaluation.specs.Handed.{argument}
use Rattle.js_evaluation.specs.NativeTable.{error_prototype}
use Rattle.js_evaluation.specs.NativeWork as def
use Rattle.js_law_evaluation.proofs.OfState.{Ends, gives, fails, halts, reads, ◌onto◌, ◌then◌, with_heap-ends, make-ends, define-ends, spend-ends, test_text-ends, throw_error-ends, throw_type_error-ends}
use Rattle.js_law_evaluation.proofs.OfHanded.{gives_text-ends, given-ends}
use Rattle.js_law_evaluation.proofs.OfObjects.{put_on-ends, is_there-ends, elements_from-ends}

-- ---- lists

pub array_of-ends : (vs : List Value) (place : Place) → Ends (def.array_of vs place)
array_of-ends vs place =
    make-ends kind.Array (Some (built_in_object built_in.ArrayPrototype)) place onto (λ made.
    elements_from-ends place made 0 vs then gives (value.Object made))

spend_all-ends : (ts : List (List ℕ)) (place : Place) → Ends (def.spend_all ts place)
spend_all-ends [] place = gives tt
spend_all-ends (t ∷ ts) place = spend-ends t place then spend_all-ends ts place

gives_texts-ends : (ts : List (List ℕ)) (place : Place) → Ends (def.gives_texts ts place)
gives_texts-ends ts place = spend_all-ends ts place then array_of-ends (map value.Text ts) place

-- ---- objects

new_object-ends : (place : Place) → Ends (def.new_object place)
new_object-ends place =
    make-ends kind.Plain (Some (built_in_object built_in.ObjectPrototype)) place onto (λ id. gives (value.Object id))

object_of-ends : (v : Value) (place : Place) → Ends (def.object_of v place)
object_of-ends value.Undefined place = new_object-ends place
object_of-ends value.Null place = new_object-ends place
object_of-ends (value.Object id) place = gives (value.Object id)
object_of-ends (value.Bool b) place = halts _
object_of-ends (value.Number n) place = halts _
object_of-ends (value.Text t) place = halts _

keys_value-ends : (v : Value) (place : Place) → Ends (def.keys_value v place)
keys_value-ends (value.Object id) place = reads (λ m s. refl) (λ s. gives_texts-ends (def.keys_in s.heap (value.Object id)) place)
keys_value-ends v place = throw_type_error-ends (codes "not an object") place

has_own-ends : (v : Value) (name : List ℕ) (place : Place) → Ends (def.has_own v name place)
has_own-ends (value.Object id) name place = reads (λ m s. refl) (λ s. is_there-ends (own_found_in (object_at s.heap id) name) place)
has_own-ends v name place = gives (value.Bool (is_some (own_of v name)))

-- ---- arrays

array_made-ends : (vs : List Value) (place : Place) → Ends (def.array_made vs place)
array_made-ends (value.Number n ∷ []) place =
    make-ends kind.Array (Some (built_in_object built_in.ArrayPrototype)) place onto (λ made.
    put_on-ends made (codes "length") (value.Number n) place then gives (value.Object made))
array_made-ends vs place = array_of-ends vs place

array_end-ends : (place : Place) (result : Result (Value × HeapView) HeapAnswer) → Ends (def.array_end place result)
array_end-ends place (Ok x) = with_heap-ends x.1 then given-ends x.0 place
array_end-ends place (Err e) = fails _ place

array_work-ends : (m : ArrayMethod) (vs : List Value) (place : Place) → Ends (def.array_work m vs place)
array_work-ends m (value.Object id ∷ vs) place = reads (λ m s. refl) (λ s. array_end-ends place (array_result m s.heap id vs))
array_work-ends m vs place = gives value.Undefined

-- ---- texts

text_end-ends : (r : TextResult) (place : Place) → Ends (def.text_end r place)
text_end-ends (text.Text t) place = gives_text-ends t place
text_end-ends (text.Texts ts) place = gives_texts-ends ts place
text_end-ends (text.Number n) place = gives (value.Number n)
text_end-ends text.NotANumber place = fails _ place
text_end-ends text.TooLong place = fails _ place

pub text_work-ends : (m : TextMethod) (vs : List Value) (place : Place) → Ends (def.text_work m vs place)
text_work-ends m (value.Text t ∷ vs) place = test_text-ends t place then text_end-ends (text_result m t (map def.as_text_arg vs)) place
text_work-ends m vs place = gives value.Undefined

string_of-ends : (vs : List Value) (place : Place) → Ends (def.string_of vs place)
string_of-ends [] place = gives_text-ends [] place
string_of-ends (v ∷ vs) place = given-ends v place

-- ---- numbers

number_of-ends : (vs : List Value) (place : Place) → Ends (def.number_of vs place)
number_of-ends [] place = gives _
number_of-ends (value.Number n ∷ vs) place = gives (value.Number n)
number_of-ends vs place = fails _ place

number_end-ends : (r : NumberResult) (place : Place) → Ends (def.number_end r place)
number_end-ends (number.Number n) place = gives (value.Number n)
number_end-ends (number.Text t) place = gives_text-ends t place
number_end-ends number.Range place = fails _ place
number_end-ends number.NotANumber place = fails _ place
number_end-ends number.BadRadix place = throw_error-ends built_in.RangeErrorPrototype (codes "invalid radix") place

number_work-ends : (m : NumberMethod) (vs : List Value) (place : Place) → Ends (def.number_work m vs place)
number_work-ends m vs place = number_end-ends (number_result m (map def.as_number_arg vs)) place

-- ---- patterns

pattern_text-ends : (l : Option Literal) (place : Place) → Ends (def.pattern_text l place)
pattern_text-ends None place = gives value.Undefined
pattern_text-ends (Some l) place = gives_text-ends (def.literal_text l) place

-- ---- errors

error_with-ends : (error : ObjectId) (message : Value) (place : Place) → Ends (def.error_with error message place)
error_with-ends error value.Undefined place = gives (value.Object error)
error_with-ends error message place = define-ends error (codes "message") message false true place then gives (value.Object error)

make_error-ends : (prototype : Option BuiltIn) (message : Value) (place : Place) → Ends (def.make_error prototype message place)
make_error-ends None message place = gives value.Undefined
make_error-ends (Some prototype) message place =
    make-ends kind.Error (Some (built_in_object prototype)) place onto (λ error. error_with-ends error message place)

-- ---- all of them

pub plain_work-ends : (n : PlainNative) (vs : List Value) (place : Place) → Ends (def.plain_work n vs place)
plain_work-ends plain.FunctionPrototype vs place = gives value.Undefined
plain_work-ends plain.Object vs place = object_of-ends (argument 0 vs) place
plain_work-ends plain.Array vs place = array_made-ends vs place
plain_work-ends plain.String vs place = string_of-ends vs place
plain_work-ends plain.Number vs place = number_of-ends vs place
plain_work-ends plain.Boolean vs place = gives _
plain_work-ends plain.Error vs place = make_error-ends (error_prototype plain.Error) (argument 0 vs) place
plain_work-ends plain.TypeError vs place = make_error-ends (error_prototype plain.TypeError) (argument 0 vs) place
plain_work-ends plain.RangeError vs place = make_error-ends (error_prototype plain.RangeError) (argument 0 vs) place
plain_work-ends plain.ReferenceError vs place = make_error-ends (error_prototype plain.ReferenceError) (argument 0 vs) place
plain_work-ends plain.ObjectToString vs place = reads (λ m s. refl) (λ s. gives_text-ends (def.class_in s.heap (argument 0 vs)) place)
plain_work-ends plain.ObjectValueOf vs place = given-ends (argument 0 vs) place
plain_work-ends plain.HasOwnProperty vs place = has_own-ends (argument 0 vs) (text_of (argument 1 vs)) place
plain_work-ends plain.Keys vs place = keys_value-ends (argument 0 vs) place
plain_work-ends plain.IsArray vs place = reads (λ m s. refl) (λ s. gives _)
plain_work-ends plain.FromCharCode vs place = gives_text-ends (map def.unit_of vs) place
plain_work-ends plain.IsNaN vs place = gives _
plain_work-ends plain.NumberValueOf vs place = gives (argument 0 vs)
plain_work-ends plain.BooleanToString vs place = gives_text-ends (text_of (argument 0 vs)) place
plain_work-ends plain.BooleanValueOf vs place = gives (argument 0 vs)
plain_work-ends (plain.TextMethod m) vs place = text_work-ends m vs place
plain_work-ends (plain.NumberMethod m) vs place = number_work-ends m vs place
plain_work-ends (plain.ArrayMethod m) vs place = array_work-ends m vs place
plain_work-ends plain.PatternToString vs place = reads (λ m s. refl) (λ s. pattern_text-ends (def.literal_in s.heap (argument 0 vs)) place)
