-- What natives do that call nothing.
use Rattle.std.proofs.Common.{ℕ, List, [], ◌∷◌, true, false, Option, Some, None, Result, Ok, Err, map, refl}
use Rattle.std.specs.Prelude.{codes, is_some}
use Rattle.js_tree.specs.declared.place.Place.{Place}
use Rattle.js_pattern_reader.specs.Literal.{Literal}
use Rattle.heap_values.specs.declared.answer.HeapAnswer.{HeapAnswer}
use Rattle.heap_values.specs.declared.built_in.BuiltIn.{BuiltIn}
use Rattle.heap_values.specs.declared.built_in.BuiltIn.TheVariants as built_in
use Rattle.heap_values.specs.declared.ids.Kind.TheVariants as kind
use Rattle.heap_values.specs.declared.ids.ObjectId.{ObjectId}
use Rattle.heap_values.specs.declared.value.Value.{Value}
use Rattle.heap_values.specs.declared.value.Value.TheVariants as value
use Rattle.heap_values.specs.Views.{HeapView}
use Rattle.object_heap.specs.Heap.{object_at, own_found_in}
use Rattle.js_convert.specs.Texts.{text_of}
use Rattle.array_builtins.specs.declared.call.ArrayMethod.{ArrayMethod}
use Rattle.array_builtins.specs.Call.{array_result}
use Rattle.number_builtins.specs.declared.call.NumberMethod.{NumberMethod}
use Rattle.number_builtins.specs.declared.call.NumberResult.{NumberResult}
use Rattle.number_builtins.specs.declared.call.NumberResult.TheVariants as number
use Rattle.number_builtins.specs.Call.{number_result}
use Rattle.text_builtins.specs.declared.call.TextMethod.{TextMethod}
use Rattle.text_builtins.specs.declared.call.TextResult.{TextResult}
use Rattle.text_builtins.specs.declared.call.TextResult.TheVariants as text
use Rattle.text_builtins.specs.Call.{text_result}
use Rattle.js_evaluation.specs.declared.native.PlainNative.{PlainNative}
use Rattle.js_evaluation.specs.declared.native.PlainNative.TheVariants as plain
use Rattle.js_evaluation.specs.State.{built_in_object, RunState}
use Rattle.js_evaluation.specs.Objects.{own_of}
use Rattle.js_evaluation.specs.Handed.{argument}
use Rattle.js_evaluation.specs.NativeTable.{error_prototype}
use Rattle.js_evaluation.specs.NativeWork as def
use Rattle.js_law_right.specs.Right.{Setting}
use Rattle.js_law_names.proofs.Steady.{Leads, beside, array_result_leads}
use Rattle.js_law_names.proofs.Worlds.{Fine}
use Rattle.js_law_names.proofs.Agreeing.{Agrees, Now, gives, halts, fails, sees, sees_now, heap_now, halts_now, ◌onto◌, ◌then◌}
use Rattle.js_law_names.proofs.OfState.{make-agrees, define-agrees, spend-agrees, test_text-agrees, throw_error-agrees, throw_type_error-agrees}
use Rattle.js_law_names.proofs.OfObjects.{put_on-agrees, is_there-agrees, elements_from-agrees}
use Rattle.js_law_names.proofs.OfHanded.{gives_text-agrees, given-agrees}

module _ {setting : ℕ → Setting} where
  -- ---- lists

  pub array_of-agrees : {z : RunState} (vs : List Value) (place : Place)
      → Agrees setting z (def.array_of vs place) (def.array_of vs place)
  array_of-agrees vs place =
      make-agrees kind.Array (Some (built_in_object built_in.ArrayPrototype)) place (λ _n _i e. cc) onto (λ made.
      elements_from-agrees place made 0 vs then gives (value.Object made))

  spend_all-agrees : {z : RunState} (ts : List (List ℕ)) (place : Place)
      → Agrees setting z (def.spend_all ts place) (def.spend_all ts place)
  spend_all-agrees [] place = gives tt
  spend_all-agrees (t ∷ ts) place = spend-agrees t place then spend_all-agrees ts place

  gives_texts-agrees : {z : RunState} (ts : List (List ℕ)) (place : Place)
      → Agrees setting z (def.gives_texts ts place) (def.gives_texts ts place)
  gives_texts-agrees ts place = spend_all-agrees ts place then array_of-agrees (map value.Text ts) place

  -- ---- objects

  new_object-agrees : {z : RunState} (place : Place) → Agrees setting z (def.new_object place) (def.new_object place)
  new_object-agrees place =
      make-agrees kind.Plain (Some (built_in_object built_in.ObjectPrototype)) place (λ _n _i e. cc) onto (λ id. gives (value.Object id))

  object_of-agrees : {z : RunState} (v : Value) (place : Place)
      → Agrees setting z (def.object_of v place) (def.object_of v place)
  object_of-agrees value.Undefined place = new_object-agrees place
  object_of-agrees value.Null place = new_object-agrees place
  object_of-agrees (value.Object id) place = gives (value.Object id)
  object_of-agrees (value.Bool b) place = halts _
  object_of-agrees (value.Number n) place = halts _
  object_of-agrees (value.Text t) place = halts _

  keys_value-agrees : {z : RunState} (v : Value) (place : Place)
      → Agrees setting z (def.keys_value v place) (def.keys_value v place)
  keys_value-agrees (value.Object id) place = sees (λ z _l _f. gives_texts-agrees (def.keys_in z.heap (value.Object id)) place) (λ z. refl)
  keys_value-agrees v place = throw_type_error-agrees (codes "not an object") place

  has_own-agrees : {z : RunState} (v : Value) (name : List ℕ) (place : Place)
      → Agrees setting z (def.has_own v name place) (def.has_own v name place)
  has_own-agrees (value.Object id) name place = sees (λ z _l _f. is_there-agrees (own_found_in (object_at z.heap id) name) place) (λ z. refl)
  has_own-agrees v name place = gives (value.Bool (is_some (own_of v name)))

  -- ---- arrays

  array_made-agrees : {z : RunState} (vs : List Value) (place : Place)
      → Agrees setting z (def.array_made vs place) (def.array_made vs place)
  array_made-agrees (value.Number n ∷ []) place =
      make-agrees kind.Array (Some (built_in_object built_in.ArrayPrototype)) place (λ _n _i e. cc) onto (λ made.
      put_on-agrees made (codes "length") (value.Number n) place then gives (value.Object made))
  array_made-agrees vs place = array_of-agrees vs place

  array_end_now : {z : RunState} (place : Place) (result : Result (Value × HeapView) HeapAnswer) → Leads beside z.heap result
      → Fine setting z → Now setting z (def.array_end place result) (def.array_end place result)
  array_end_now place (Ok x) h f = heap_now x.1 h f (given-agrees x.0 place)
  array_end_now place (Err e) h f = halts_now _

  array_work-agrees : {z : RunState} (m : ArrayMethod) (vs : List Value) (place : Place)
      → Agrees setting z (def.array_work m vs place) (def.array_work m vs place)
  array_work-agrees m (value.Object id ∷ vs) place = sees_now (λ z _l f. array_end_now place (array_result m z.heap id vs) (array_result_leads m z.heap id vs) f) (λ z. refl)
  array_work-agrees m vs place = gives value.Undefined

  -- ---- texts

  text_end-agrees : {z : RunState} (r : TextResult) (place : Place)
      → Agrees setting z (def.text_end r place) (def.text_end r place)
  text_end-agrees (text.Text t) place = gives_text-agrees t place
  text_end-agrees (text.Texts ts) place = gives_texts-agrees ts place
  text_end-agrees (text.Number n) place = gives (value.Number n)
  text_end-agrees text.NotANumber place = fails _ place
  text_end-agrees text.TooLong place = fails _ place

  pub text_work-agrees : {z : RunState} (m : TextMethod) (vs : List Value) (place : Place)
      → Agrees setting z (def.text_work m vs place) (def.text_work m vs place)
  text_work-agrees m (value.Text t ∷ vs) place = test_text-agrees t place then text_end-agrees (text_result m t (map def.as_text_arg vs)) place
  text_work-agrees m vs place = gives value.Undefined

  string_of-agrees : {z : RunState} (vs : List Value) (place : Place)
      → Agrees setting z (def.string_of vs place) (def.string_of vs place)
  string_of-agrees [] place = gives_text-agrees [] place
  string_of-agrees (v ∷ vs) place = given-agrees v place

  -- ---- numbers

  number_of-agrees : {z : RunState} (vs : List Value) (place : Place)
      → Agrees setting z (def.number_of vs place) (def.number_of vs place)
  number_of-agrees [] place = gives _
  number_of-agrees (value.Number n ∷ vs) place = gives (value.Number n)
  number_of-agrees vs place = fails _ place

  number_end-agrees : {z : RunState} (r : NumberResult) (place : Place)
      → Agrees setting z (def.number_end r place) (def.number_end r place)
  number_end-agrees (number.Number n) place = gives (value.Number n)
  number_end-agrees (number.Text t) place = gives_text-agrees t place
  number_end-agrees number.Range place = fails _ place
  number_end-agrees number.NotANumber place = fails _ place
  number_end-agrees number.BadRadix place = throw_error-agrees built_in.RangeErrorPrototype (codes "invalid radix") place

  number_work-agrees : {z : RunState} (m : NumberMethod) (vs : List Value) (place : Place)
      → Agrees setting z (def.number_work m vs place) (def.number_work m vs place)
  number_work-agrees m vs place = number_end-agrees (number_result m (map def.as_number_arg vs)) place

  -- ---- patterns

  pattern_text-agrees : {z : RunState} (l : Option Literal) (place : Place)
      → Agrees setting z (def.pattern_text l place) (def.pattern_text l place)
  pattern_text-agrees None place = gives value.Undefined
  pattern_text-agrees (Some l) place = gives_text-agrees (def.literal_text l) place

  -- ---- errors

  error_with-agrees : {z : RunState} (error : ObjectId) (message : Value) (place : Place)
      → Agrees setting z (def.error_with error message place) (def.error_with error message place)
  error_with-agrees error value.Undefined place = gives (value.Object error)
  error_with-agrees error message place = define-agrees error (codes "message") message false true place then gives (value.Object error)

  make_error-agrees : {z : RunState} (prototype : Option BuiltIn) (message : Value) (place : Place)
      → Agrees setting z (def.make_error prototype message place) (def.make_error prototype message place)
  make_error-agrees None message place = gives value.Undefined
  make_error-agrees (Some prototype) message place =
      make-agrees kind.Error (Some (built_in_object prototype)) place (λ _n _i e. cc) onto (λ error. error_with-agrees error message place)

  -- ---- all of them

  pub plain_work-agrees : {z : RunState} (n : PlainNative) (vs : List Value) (place : Place)
      → Agrees setting z (def.plain_work n vs place) (def.plain_work n vs place)
  plain_work-agrees plain.FunctionPrototype vs place = gives value.Undefined
  plain_work-agrees plain.Object vs place = object_of-agrees (argument 0 vs) place
  plain_work-agrees plain.Array vs place = array_made-agrees vs place
  plain_work-agrees plain.String vs place = string_of-agrees vs place
  plain_work-agrees plain.Number vs place = number_of-agrees vs place
  plain_work-agrees plain.Boolean vs place = gives _
  plain_work-agrees plain.Error vs place = make_error-agrees (error_prototype plain.Error) (argument 0 vs) place
  plain_work-agrees plain.TypeError vs place = make_error-agrees (error_prototype plain.TypeError) (argument 0 vs) place
  plain_work-agrees plain.RangeError vs place = make_error-agrees (error_prototype plain.RangeError) (argument 0 vs) place
  plain_work-agrees plain.ReferenceError vs place = make_error-agrees (error_prototype plain.ReferenceError) (argument 0 vs) place
  plain_work-agrees plain.ObjectToString vs place = sees (λ z _l _f. gives_text-agrees (def.class_in z.heap (argument 0 vs)) place) (λ z. refl)
  plain_work-agrees plain.ObjectValueOf vs place = given-agrees (argument 0 vs) place
  plain_work-agrees plain.HasOwnProperty vs place = has_own-agrees (argument 0 vs) (text_of (argument 1 vs)) place
  plain_work-agrees plain.Keys vs place = keys_value-agrees (argument 0 vs) place
  plain_work-agrees plain.IsArray vs place = sees (λ z _l _f. gives (value.Bool (def.is_array z.heap (argument 0 vs)))) (λ z. refl)
  plain_work-agrees plain.FromCharCode vs place = gives_text-agrees (map def.unit_of vs) place
  plain_work-agrees plain.IsNaN vs place = gives _
  plain_work-agrees plain.NumberValueOf vs place = gives (argument 0 vs)
  plain_work-agrees plain.BooleanToString vs place = gives_text-agrees (text_of (argument 0 vs)) place
  plain_work-agrees plain.BooleanValueOf vs place = gives (argument 0 vs)
  plain_work-agrees (plain.TextMethod m) vs place = text_work-agrees m vs place
  plain_work-agrees (plain.NumberMethod m) vs place = number_work-agrees m vs place
  plain_work-agrees (plain.ArrayMethod m) vs place = array_work-agrees m vs place
  plain_work-agrees plain.PatternToString vs place = sees (λ z _l _f. pattern_text-agrees (def.literal_in z.heap (argument 0 vs)) place) (λ z. refl)
