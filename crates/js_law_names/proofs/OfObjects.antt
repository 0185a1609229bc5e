-- Properties of values.
use Rattle.std.proofs.Common.{ℕ, suc, List, [], ◌∷◌, Bool, true, false, Option, Some, None, Result, Ok, Err, refl}
use Rattle.std.specs.Fmt.{decimal}
use Rattle.std.specs.Prelude.{codes, if◌then◌else◌}
use Rattle.js_tree.specs.declared.place.Place.{Place}
use Rattle.heap_values.specs.declared.answer.HeapAnswer.{HeapAnswer}
use Rattle.heap_values.specs.declared.answer.HeapAnswer.TheVariants as heap
use Rattle.heap_values.specs.declared.found.Found.{Found}
use Rattle.heap_values.specs.declared.found.Found.TheVariants as found
use Rattle.heap_values.specs.declared.ids.ObjectId.{ObjectId}
use Rattle.heap_values.specs.declared.built_in.BuiltIn.TheVariants as built_in
use Rattle.heap_values.specs.declared.value.Value.{Value}
use Rattle.heap_values.specs.declared.value.Value.TheVariants.{Undefined, Null, Bool as Truth, Object}
use Rattle.heap_values.specs.Views.{HeapView}
use Rattle.heap_objects.specs.Object.{property_after}
use Rattle.object_heap.specs.Heap.{inherits_from, object_at, found_of, own_found_in, stored, deleted_of}
use Rattle.js_evaluation.specs.State.{RunState, Does}
use Rattle.js_evaluation.specs.Objects.{holder_of, own_of, found_value, get_from, get_or, get, test_base, is_fixed, written, put_on, put, truth_after, deleted_unless, delete_property, is_there, has_property, stands_among, elements_from}
use Rattle.js_law_right.specs.Right.{Setting}
use Rattle.js_law_names.proofs.Steady.{Steady, Leads, itself, stored_steady, deleted_steady}
use Rattle.js_law_names.proofs.Worlds.{Fine}
use Rattle.js_law_names.proofs.Agreeing.{Agrees, Now, gives, halts, sees, sees_now, heap_now, only_heap_now, halts_now, at_once, ◌then◌}
use Rattle.js_law_names.proofs.OfState.{define-agrees, throw_error-agrees, throw_type_error-agrees}

module _ {setting : ℕ → Setting} where
  -- ---- properties of values

  pub found_value-agrees : {z : RunState} (otherwise : Value) (f : Found) (place : Place)
      → Agrees setting z (found_value otherwise f place) (found_value otherwise f place)
  found_value-agrees otherwise (found.Value v) place = gives v
  found_value-agrees otherwise found.Absent place = gives otherwise
  found_value-agrees otherwise (found.LeftOut name) place = halts _

  get_from-agrees : {z : RunState} (holder : Option ObjectId) (name : List ℕ) (place : Place)
      → Agrees setting z (get_from holder name place) (get_from holder name place)
  get_from-agrees None name place = throw_type_error-agrees (codes "not an object") place
  get_from-agrees (Some holder) name place = sees (λ z _l _f. found_value-agrees Undefined (found_of z.heap holder name) place) (λ z. refl)

  get_or-agrees : {z : RunState} (own : Option Value) (base : Value) (name : List ℕ) (place : Place)
      → Agrees setting z (get_or own base name place) (get_or own base name place)
  get_or-agrees (Some v) base name place = gives v
  get_or-agrees None base name place = get_from-agrees (holder_of base) name place

  pub get-agrees : {z : RunState} (base : Value) (name : List ℕ) (place : Place)
      → Agrees setting z (get base name place) (get base name place)
  get-agrees base name place = get_or-agrees (own_of base name) base name place

  pub test_base-agrees : {z : RunState} (v : Value) (place : Place)
      → Agrees setting z (test_base v place) (test_base v place)
  test_base-agrees Undefined place = throw_type_error-agrees (codes "not an object") place
  test_base-agrees Null place = throw_type_error-agrees (codes "not an object") place
  test_base-agrees v place = gives tt

  either_now : {A : Type 0} {z : RunState} (b : Bool) {p q : Does A} → Now setting z p p → Now setting z q q
      → Now setting z (if b then p else q) (if b then p else q)
  either_now true h w = h
  either_now false h w = w

  written_now : {z : RunState} (place : Place) (result : Result HeapView HeapAnswer) → Leads itself z.heap result
      → Fine setting z → Now setting z (written place result) (written place result)
  written_now place (Ok h) g f = only_heap_now h g f
  written_now place (Err heap.BadLength) g f = at_once f (throw_error-agrees built_in.RangeErrorPrototype (codes "invalid array length") place)
  written_now place (Err e) g f = halts_now _

  pub put_on-agrees : {z : RunState} (id : ObjectId) (name : List ℕ) (v : Value) (place : Place)
      → Agrees setting z (put_on id name v place) (put_on id name v place)
  put_on-agrees id name v place = sees_now (λ z _l f. either_now (is_fixed z.heap id name) (at_once f (gives tt)) (written_now place (stored z.heap id name v (property_after v)) (stored_steady z.heap id name v (property_after v)) f)) (λ z. refl)

  pub put-agrees : {z : RunState} (base : Value) (name : List ℕ) (v : Value) (place : Place)
      → Agrees setting z (put base name v place) (put base name v place)
  put-agrees (Object id) name v place = put_on-agrees id name v place
  put-agrees base name v place = gives tt

  truth_after_now : {z : RunState} (result : Bool × HeapView) → Steady z.heap result.1 → Fine setting z
      → Now setting z (truth_after result) (truth_after result)
  truth_after_now result h f = heap_now result.1 h f (gives (Truth result.0))

  deleted_unless-agrees : {z : RunState} (f : Found) (id : ObjectId) (name : List ℕ) (place : Place)
      → Agrees setting z (deleted_unless f id name place) (deleted_unless f id name place)
  deleted_unless-agrees (found.LeftOut left_out) id name place = halts _
  deleted_unless-agrees f id name place = sees_now (λ z _l f. truth_after_now (deleted_of z.heap id name) (deleted_steady z.heap id name) f) (λ z. refl)

  pub delete_property-agrees : {z : RunState} (base : Value) (name : List ℕ) (place : Place)
      → Agrees setting z (delete_property base name place) (delete_property base name place)
  delete_property-agrees (Object id) name place = sees (λ z _l _f. deleted_unless-agrees (own_found_in (object_at z.heap id) name) id name place) (λ z. refl)
  delete_property-agrees base name place = gives _

  pub is_there-agrees : {z : RunState} (f : Found) (place : Place) → Agrees setting z (is_there f place) (is_there f place)
  is_there-agrees found.Absent place = gives _
  is_there-agrees (found.Value v) place = gives _
  is_there-agrees (found.LeftOut name) place = halts _

  pub has_property-agrees : {z : RunState} (id : ObjectId) (name : List ℕ) (place : Place)
      → Agrees setting z (has_property id name place) (has_property id name place)
  has_property-agrees id name place = sees (λ z _l _f. is_there-agrees (found_of z.heap id name) place) (λ z. refl)

  pub stands_among-agrees : {z : RunState} (id : ObjectId) (v : Value) (place : Place)
      → Agrees setting z (stands_among id v place) (stands_among id v place)
  stands_among-agrees id (Object prototype) place = sees (λ z _l _f. gives (Truth (inherits_from z.heap id prototype))) (λ z. refl)
  stands_among-agrees id v place = throw_type_error-agrees (codes "not an object") place

  -- ---- elements

  pub elements_from-agrees : {z : RunState} (place : Place) (object : ObjectId) (i : ℕ) (vs : List Value)
      → Agrees setting z (elements_from place object i vs) (elements_from place object i vs)
  elements_from-agrees place object i [] = gives tt
  elements_from-agrees place object i (v ∷ vs) =
      define-agrees object (decimal i) v true true place then elements_from-agrees place object (suc i) vs
