-- Natives, where calls agree.
use Rattle.std.proofs.Common.{ℕ, zero, suc, List, [], ◌∷◌, ◌++◌, length, Bool, true, false, Option, Some, None, refl}
use Rattle.std.specs.Fmt.{decimal}
use Rattle.std.specs.Prelude.{codes, not, ◌-◌}
use Rattle.js_tree.specs.declared.place.Place.{Place}
use Rattle.heap_values.specs.declared.ids.ObjectId.{ObjectId}
use Rattle.heap_values.specs.declared.value.Value.{Value}
use Rattle.heap_values.specs.declared.value.Value.TheVariants as value
use Rattle.object_heap.specs.Heap.{object_at, length_of}
use Rattle.js_convert.specs.declared.numeric.Numeric.{Numeric}
use Rattle.js_convert.specs.declared.numeric.Numeric.TheVariants as numeric
use Rattle.js_convert.specs.Numeric.{numeric_of}
use Rattle.js_convert.specs.Operators.{is_text}
use Rattle.array_builtins.specs.Joining as joining
use Rattle.js_evaluation.specs.declared.native.Native.{Native}
use Rattle.js_evaluation.specs.declared.native.Native.TheVariants as native
use Rattle.js_evaluation.specs.declared.native.PatternNative.{PatternNative}
use Rattle.js_evaluation.specs.declared.native.Conversion.{Conversion}
use Rattle.js_evaluation.specs.declared.native.Conversion.TheVariants as conversion
use Rattle.js_evaluation.specs.State.{RunState}
use Rattle.js_evaluation.specs.Objects.{is_callable}
use Rattle.js_evaluation.specs.Handed.{argument}
use Rattle.js_evaluation.specs.Conversions.{Call, number_methods}
use Rattle.js_evaluation.specs.NativeTable.{handed_to, taken_by, conversion_at, walk_of}
use Rattle.js_evaluation.specs.NativeWork.{is_array, is_pattern, is_number, elements_walk, plain_walk}
use Rattle.js_evaluation.specs.Patterns.{read_by}
use Rattle.js_evaluation.specs.Walks.{values_walk}
use Rattle.js_evaluation.specs.Natives as def
use Rattle.js_law_right.specs.Right.{Setting}
use Rattle.js_law_names.proofs.Agreeing.{Agrees, gives, halts, fails, sees, ◌onto◌, ◌then◌, either}
use Rattle.js_law_names.proofs.OfState.{charges-agrees, throw_type_error-agrees}
use Rattle.js_law_names.proofs.OfObjects.{get-agrees}
use Rattle.js_law_names.proofs.OfHanded.{gives_text-agrees}
use Rattle.js_law_names.proofs.OfConversions.{CallsAgree, to_primitive-agrees, to_text-agrees}
use Rattle.js_law_names.proofs.OfNativeWork.{plain_work-agrees}
use Rattle.js_law_names.proofs.OfPatterns.{pattern_work-agrees}
use Rattle.js_law_names.proofs.OfPacNatives.{pac_done-agrees}

module _ {setting : ℕ → Setting} where
  -- ---- conversions

  unless_wrong-agrees : {z : RunState} (b : Bool) (place : Place)
      → Agrees setting z (def.unless_wrong b place) (def.unless_wrong b place)
  unless_wrong-agrees true place = gives tt
  unless_wrong-agrees false place = throw_type_error-agrees (codes "not an object") place

  unless_left_out-agrees : {z : RunState} (b : Bool) (n : Native) (place : Place)
      → Agrees setting z (def.unless_left_out b n place) (def.unless_left_out b n place)
  unless_left_out-agrees true n place = gives tt
  unless_left_out-agrees false n place = halts _

  tested-agrees : {z : RunState} (n : Native) (c : Conversion) (v : Value) (place : Place)
      → Agrees setting z (def.tested n c v place) (def.tested n c v place)
  tested-agrees n conversion.ThisText v place = unless_wrong-agrees (is_text v) place
  tested-agrees n conversion.ThisNumber v place = unless_wrong-agrees (is_number v) place
  tested-agrees n conversion.ThisBoolean v place = unless_wrong-agrees (def.is_boolean v) place
  tested-agrees n conversion.ThisArray v place = sees (λ z _l _f. unless_left_out-agrees (is_array z.heap v) n place) (λ z. refl)
  tested-agrees n conversion.ThisPattern v place = sees (λ z _l _f. unless_wrong-agrees (is_pattern z.heap v) place) (λ z. refl)
  tested-agrees n conversion.Pattern v place = sees (λ z _l _f. unless_left_out-agrees (is_pattern z.heap v) n place) (λ z. refl)
  tested-agrees n conversion.Replacement v place = sees (λ z _l _f. unless_left_out-agrees (not (is_callable z.heap v)) n place) (λ z. refl)
  tested-agrees n c v place = gives tt

  position_of-agrees : {z : RunState} (n : Numeric) (place : Place)
      → Agrees setting z (def.position_of n place) (def.position_of n place)
  position_of-agrees (numeric.Whole n) place = gives _
  position_of-agrees numeric.NotANumber place = gives _
  position_of-agrees numeric.Fraction place = fails _ place
  position_of-agrees numeric.Range place = fails _ place

  number_or_none-agrees : {z : RunState} (n : Numeric) (place : Place)
      → Agrees setting z (def.number_or_none n place) (def.number_or_none n place)
  number_or_none-agrees (numeric.Whole n) place = gives _
  number_or_none-agrees numeric.NotANumber place = gives _
  number_or_none-agrees numeric.Fraction place = fails _ place
  number_or_none-agrees numeric.Range place = fails _ place

  settled-agrees : {z : RunState} (c : Conversion) (v : Value) (place : Place)
      → Agrees setting z (def.settled c v place) (def.settled c v place)
  settled-agrees conversion.Text v place = gives _
  settled-agrees conversion.OptionalText v place = gives _
  settled-agrees conversion.Replacement v place = gives _
  settled-agrees conversion.PatternOrText v place = gives _
  settled-agrees conversion.OptionalPatternOrText v place = gives _
  settled-agrees conversion.Position v place = position_of-agrees (numeric_of v) place
  settled-agrees conversion.Number v place = number_or_none-agrees (numeric_of v) place
  settled-agrees c v place = gives v

  module _ (call call' : Call) (call-agrees : CallsAgree setting call call') where
    -- ---- joining

    element_text-agrees : {z : RunState} (v : Value) (place : Place)
        → Agrees setting z (def.element_text call v place) (def.element_text call' v place)
    element_text-agrees value.Undefined place = gives []
    element_text-agrees value.Null place = gives []
    element_text-agrees v place = to_text-agrees call call' call-agrees v place

    joined_from-agrees : {z : RunState} (left count : ℕ) (array : ObjectId) (texts : List (List ℕ)) (separator : List ℕ) (place : Place)
        → Agrees setting z (def.joined_from call left count array texts separator place)
        (def.joined_from call' left count array texts separator place)
    joined_from-agrees zero count array texts separator place = gives_text-agrees (joining.joined separator texts) place
    joined_from-agrees (suc left) count array texts separator place =
        get-agrees (value.Object array) (decimal (count - suc left)) place onto (λ v. element_text-agrees v place
        onto (λ t. joined_from-agrees left count array (texts ++ t ∷ []) separator place))

    joined_value-agrees : {z : RunState} (v : Value) (separator : List ℕ) (place : Place)
        → Agrees setting z (def.joined_value call v separator place) (def.joined_value call' v separator place)
    joined_value-agrees (value.Object array) separator place = sees (λ z _l _f. joined_from-agrees (length_of (object_at z.heap array)) (length_of (object_at z.heap array)) array [] separator place) (λ z. refl)
    joined_value-agrees v separator place = gives value.Undefined

    array_text-agrees : {z : RunState} (this : Value) (separator : List ℕ) (handed : List Value) (place : Place)
        → Agrees setting z (def.array_text call this separator handed place)
        (def.array_text call' this separator handed place)
    array_text-agrees this separator handed place =
        sees (λ z _l _f. charges-agrees (elements_walk z.heap handed) place) (λ z. refl) then joined_value-agrees this separator place

    -- ---- the text of an error

    text_or-agrees : {z : RunState} (otherwise : List ℕ) (v : Value) (place : Place)
        → Agrees setting z (def.text_or call otherwise v place) (def.text_or call' otherwise v place)
    text_or-agrees otherwise value.Undefined place = gives otherwise
    text_or-agrees otherwise v place = to_text-agrees call call' call-agrees v place

    error_text-agrees : {z : RunState} (v : Value) (place : Place)
        → Agrees setting z (def.error_text call v place) (def.error_text call' v place)
    error_text-agrees (value.Object id) place =
        get-agrees (value.Object id) (codes "name") place onto (λ n. text_or-agrees (codes "Error") n place
        onto (λ name. get-agrees (value.Object id) (codes "message") place onto (λ m. text_or-agrees [] m place
        onto (λ message. gives_text-agrees (def.joined name message) place))))
    error_text-agrees v place = throw_type_error-agrees (codes "not an object") place

    -- ---- searches for a pattern

    begin_of-agrees : {z : RunState} (pattern : Option ObjectId) (place : Place)
        → Agrees setting z (def.begin_of call pattern place) (def.begin_of call' pattern place)
    begin_of-agrees None place = gives _
    begin_of-agrees (Some pattern) place =
        get-agrees (value.Object pattern) (codes "lastIndex") place
        onto (λ v. to_primitive-agrees call call' call-agrees number_methods v place onto (λ p. position_of-agrees (numeric_of p) place))

    pattern_done-agrees : {z : RunState} (n : PatternNative) (vs : List Value) (handed : ℕ) (place : Place)
        → Agrees setting z (def.pattern_done call n vs handed place) (def.pattern_done call' n vs handed place)
    pattern_done-agrees n vs handed place =
        charges-agrees (values_walk (walk_of (native.Pattern n)) vs handed) place
        then sees (λ z _l _f. begin_of-agrees (read_by n z.heap vs) place onto (λ begin. pattern_work-agrees n vs begin place)) (λ z. refl)

    -- ---- a call

    native_done-agrees : {z : RunState} (n : Native) (vs handed : List Value) (place : Place)
        → Agrees setting z (def.native_done call n vs handed place) (def.native_done call' n vs handed place)
    native_done-agrees (native.Plain n) vs handed place =
        sees (λ z _l _f. charges-agrees (plain_walk n z.heap vs (length handed)) place) (λ z. refl) then plain_work-agrees n vs place
    native_done-agrees (native.Pac f) vs handed place = pac_done-agrees f vs place
    native_done-agrees (native.Pattern n) vs handed place = pattern_done-agrees n vs (length handed) place
    native_done-agrees native.ErrorToString vs handed place = error_text-agrees (argument 0 vs) place
    native_done-agrees native.ArrayJoin vs handed place = array_text-agrees (argument 0 vs) (def.separator_of (argument 1 vs)) handed place
    native_done-agrees native.ArrayToString vs handed place = array_text-agrees (argument 0 vs) (codes ",") handed place

    primitive_or_kept-agrees : {z : RunState} (c : Conversion) (v : Value) (place : Place)
        → Agrees setting z (def.primitive_or_kept call c v place) (def.primitive_or_kept call' c v place)
    primitive_or_kept-agrees c v place = sees (λ z _l _f. either (def.is_kept z.heap c v) (gives v)
        (to_primitive-agrees call call' call-agrees (def.methods_for c) v place onto (λ p. settled-agrees c p place))) (λ z. refl)

    converted-agrees : {z : RunState} (n : Native) (c : Conversion) (v : Value) (place : Place)
        → Agrees setting z (def.converted call n c v place) (def.converted call' n c v place)
    converted-agrees n c v place = tested-agrees n c v place then primitive_or_kept-agrees c v place

    converted_from-agrees : {z : RunState} (n : Native) (left : ℕ) (done handed : List Value) (place : Place)
        → Agrees setting z (def.converted_from call n left done handed place)
        (def.converted_from call' n left done handed place)
    converted_from-agrees n zero done handed place = native_done-agrees n done handed place
    converted_from-agrees n (suc left) done handed place =
        converted-agrees n (conversion_at n (length done)) (argument (length done) handed) place
        onto (λ v. converted_from-agrees n left (done ++ v ∷ []) handed place)

    pub native_outcome-agrees : {z : RunState} (n : Option Native) (this : Value) (vs : List Value) (place : Place)
        → Agrees setting z (def.native_outcome call n this vs place) (def.native_outcome call' n this vs place)
    native_outcome-agrees None this vs place = gives value.Undefined
    native_outcome-agrees (Some n) this vs place =
        converted_from-agrees n (taken_by n (length (handed_to n this vs))) [] (handed_to n this vs) place
