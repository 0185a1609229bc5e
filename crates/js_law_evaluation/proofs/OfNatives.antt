-- Natives have one end and ask for lookup names alone, where calls do.
use Rattle.std.proofs.Common.{refl, ℕ, zero, suc, List, [], ◌∷◌, ◌++◌, length, Bool, true, false, Option, Some, None}
use Rattle.std.specs.Prelude.{codes, not, ◌-◌}
use Rattle.std.specs.Fmt.{decimal}
use Rattle.js_tree.specs.declared.place.Place.{Place}
use Rattle.heap_values.specs.declared.ids.ObjectId.{ObjectId}
use Rattle.heap_values.specs.declared.value.Value.{Value}
use Rattle.heap_values.specs.declared.value.Value.TheVariants as value
use Rattle.object_heap.specs.Heap.{object_at, length_of}
use Rattle.js_convert.specs.declared.numeric.Numeric.{Numeric}
use Rattle.js_convert.specs.declared.numeric.Numeric.TheVariants as numeric
use Rattle.js_convert.specs.Numeric.{numeric_of}
use Rattle.js_convert.specs.Operators.{is_text}
use Rattle.array_builtins.specs.Joining as joining
use Rattle.js_evaluation.specs.declared.native.Native.{Native}
use Rattle.js_evaluation.specs.declared.native.Native.TheVariants as native
use Rattle.js_evaluation.specs.declared.native.PatternNative.{PatternNative}
use Rattle.js_evaluation.specs.declared.native.Conversion.{Conversion}
use Rattle.js_evaluation.specs.declared.native.Conversion.TheVariants as conversion
use Rattle.js_evaluation.specs.Objects.{is_callable}
use Rattle.js_evaluation.specs.Conversions.{Call, number_methods}
use Rattle.js_evaluation.specs.Handed.{argument}
use Rattle.js_evaluation.specs.NativeTable.{handed_to, taken_by, conversion_at, walk_of}
use Rattle.js_evaluation.specs.NativeWork.{is_array, is_pattern, is_number, elements_walk, plain_walk}
use Rattle.js_evaluation.specs.Patterns.{read_by}
use Rattle.js_evaluation.specs.Walks.{values_walk}
use Rattle.js_evaluation.specs.Natives as def
use Rattle.js_law_evaluation.proofs.OfState.{Ends, gives, fails, halts, reads, either, ◌onto◌, ◌then◌, charges-ends, throw_type_error-ends}
use Rattle.js_law_evaluation.proofs.OfHanded.{gives_text-ends}
use Rattle.js_law_evaluation.proofs.OfObjects.{get-ends}
use Rattle.js_law_evaluation.proofs.OfConversions.{CallsEnd, to_primitive-ends, to_text-ends}
use Rattle.js_law_evaluation.proofs.OfPacNatives.{pac_done-ends}
use Rattle.js_law_evaluation.proofs.OfNativeWork.{plain_work-ends}
use Rattle.js_law_evaluation.proofs.OfPatterns.{pattern_work-ends}

-- ---- conversions

unless_wrong-ends : (b : Bool) (place : Place) → Ends (def.unless_wrong b place)
unless_wrong-ends true place = gives tt
unless_wrong-ends false place = throw_type_error-ends (codes "not an object") place

unless_left_out-ends : (b : Bool) (n : Native) (place : Place) → Ends (def.unless_left_out b n place)
unless_left_out-ends true n place = gives tt
unless_left_out-ends false n place = halts _

tested-ends : (n : Native) (c : Conversion) (v : Value) (place : Place) → Ends (def.tested n c v place)
tested-ends n conversion.ThisText v place = unless_wrong-ends (is_text v) place
tested-ends n conversion.ThisNumber v place = unless_wrong-ends (is_number v) place
tested-ends n conversion.ThisBoolean v place = unless_wrong-ends (def.is_boolean v) place
tested-ends n conversion.ThisArray v place = reads (λ m s. refl) (λ s. unless_left_out-ends (is_array s.heap v) n place)
tested-ends n conversion.ThisPattern v place = reads (λ m s. refl) (λ s. unless_wrong-ends (is_pattern s.heap v) place)
tested-ends n conversion.Pattern v place = reads (λ m s. refl) (λ s. unless_left_out-ends (is_pattern s.heap v) n place)
tested-ends n conversion.Replacement v place = reads (λ m s. refl) (λ s. unless_left_out-ends (not (is_callable s.heap v)) n place)
tested-ends n c v place = gives tt

position_of-ends : (n : Numeric) (place : Place) → Ends (def.position_of n place)
position_of-ends (numeric.Whole n) place = gives _
position_of-ends numeric.NotANumber place = gives _
position_of-ends numeric.Fraction place = fails _ place
position_of-ends numeric.Range place = fails _ place

number_or_none-ends : (n : Numeric) (place : Place) → Ends (def.number_or_none n place)
number_or_none-ends (numeric.Whole n) place = gives _
number_or_none-ends numeric.NotANumber place = gives _
number_or_none-ends numeric.Fraction place = fails _ place
number_or_none-ends numeric.Range place = fails _ place

settled-ends : (c : Conversion) (v : Value) (place : Place) → Ends (def.settled c v place)
settled-ends conversion.Text v place = gives _
settled-ends conversion.OptionalText v place = gives _
settled-ends conversion.Replacement v place = gives _
settled-ends conversion.PatternOrText v place = gives _
settled-ends conversion.OptionalPatternOrText v place = gives _
settled-ends conversion.Position v place = position_of-ends (numeric_of v) place
settled-ends conversion.Number v place = number_or_none-ends (numeric_of v) place
settled-ends c v place = gives v

module _ (call : Call) (call-ends : CallsEnd call) where
  -- ---- joining

  element_text-ends : (v : Value) (place : Place) → Ends (def.element_text call v place)
  element_text-ends value.Undefined place = gives []
  element_text-ends value.Null place = gives []
  element_text-ends v place = to_text-ends call call-ends v place

  joined_from-ends : (left count : ℕ) (array : ObjectId) (texts : List (List ℕ)) (separator : List ℕ) (place : Place)
      → Ends (def.joined_from call left count array texts separator place)
  joined_from-ends zero count array texts separator place = gives_text-ends (joining.joined separator texts) place
  joined_from-ends (suc left) count array texts separator place =
      get-ends (value.Object array) (decimal (count - suc left)) place onto (λ v. element_text-ends v place
      onto (λ t. joined_from-ends left count array (texts ++ t ∷ []) separator place))

  joined_value-ends : (v : Value) (separator : List ℕ) (place : Place) → Ends (def.joined_value call v separator place)
  joined_value-ends (value.Object array) separator place = reads (λ m s. refl) (λ s.
      joined_from-ends (length_of (object_at s.heap array)) (length_of (object_at s.heap array)) array [] separator place)
  joined_value-ends v separator place = gives value.Undefined

  array_text-ends : (this : Value) (separator : List ℕ) (handed : List Value) (place : Place)
      → Ends (def.array_text call this separator handed place)
  array_text-ends this separator handed place =
      reads (λ m s. refl) (λ s. charges-ends (elements_walk s.heap handed) place) then joined_value-ends this separator place

  -- ---- the text of an error

  text_or-ends : (otherwise : List ℕ) (v : Value) (place : Place) → Ends (def.text_or call otherwise v place)
  text_or-ends otherwise value.Undefined place = gives otherwise
  text_or-ends otherwise v place = to_text-ends call call-ends v place

  error_text-ends : (v : Value) (place : Place) → Ends (def.error_text call v place)
  error_text-ends (value.Object id) place =
      get-ends (value.Object id) (codes "name") place onto (λ n. text_or-ends (codes "Error") n place
      onto (λ name. get-ends (value.Object id) (codes "message") place onto (λ m. text_or-ends [] m place
      onto (λ message. gives_text-ends (def.joined name message) place))))
  error_text-ends v place = throw_type_error-ends (codes "not an object") place

  -- ---- searches for a pattern

  begin_of-ends : (pattern : Option ObjectId) (place : Place) → Ends (def.begin_of call pattern place)
  begin_of-ends None place = gives _
  begin_of-ends (Some pattern) place =
      get-ends (value.Object pattern) (codes "lastIndex") place
      onto (λ v. to_primitive-ends call call-ends number_methods v place onto (λ p. position_of-ends (numeric_of p) place))

  pattern_done-ends : (n : PatternNative) (vs : List Value) (handed : ℕ) (place : Place)
      → Ends (def.pattern_done call n vs handed place)
  pattern_done-ends n vs handed place =
      charges-ends (values_walk (walk_of (native.Pattern n)) vs handed) place
      then reads (λ m s. refl) (λ s. begin_of-ends (read_by n s.heap vs) place onto (λ begin. pattern_work-ends n vs begin place))

  -- ---- a call

  native_done-ends : (n : Native) (vs handed : List Value) (place : Place) → Ends (def.native_done call n vs handed place)
  native_done-ends (native.Plain n) vs handed place =
      reads (λ m s. refl) (λ s. charges-ends (plain_walk n s.heap vs (length handed)) place) then plain_work-ends n vs place
  native_done-ends (native.Pac f) vs handed place = pac_done-ends f vs place
  native_done-ends (native.Pattern n) vs handed place = pattern_done-ends n vs (length handed) place
  native_done-ends native.ErrorToString vs handed place = error_text-ends (argument 0 vs) place
  native_done-ends native.ArrayJoin vs handed place = array_text-ends (argument 0 vs) (def.separator_of (argument 1 vs)) handed place
  native_done-ends native.ArrayToString vs handed place = array_text-ends (argument 0 vs) (codes ",") handed place

  primitive_or_kept-ends : (c : Conversion) (v : Value) (place : Place) → Ends (def.primitive_or_kept call c v place)
  primitive_or_kept-ends c v place = reads (λ m s. refl) (λ s. either (def.is_kept s.heap c v) (gives v)
      (to_primitive-ends call call-ends (def.methods_for c) v place onto (λ p. settled-ends c p place)))

  converted-ends : (n : Native) (c : Conversion) (v : Value) (place : Place) → Ends (def.converted call n c v place)
  converted-ends n c v place = tested-ends n c v place then primitive_or_kept-ends c v place

  converted_from-ends : (n : Native) (left : ℕ) (done handed : List Value) (place : Place)
      → Ends (def.converted_from call n left done handed place)
  converted_from-ends n zero done handed place = native_done-ends n done handed place
  converted_from-ends n (suc left) done handed place =
      converted-ends n (conversion_at n (length done)) (argument (length done) handed) place
      onto (λ v. converted_from-ends n left (done ++ v ∷ []) handed place)

  pub native_outcome-ends : (n : Option Native) (this : Value) (vs : List Value) (place : Place) → Ends (def.native_outcome call n this vs place)
  native_outcome-ends None this vs place = gives value.Undefined
  native_outcome-ends (Some n) this vs place =
      converted_from-ends n (taken_by n (length (handed_to n this vs))) [] (handed_to n this vs) place
