-- Properties of values, and functions, have one end and ask for lookup names alone.
use Rattle.std.proofs.Common.{refl, ℕ, suc, pos, List, [], ◌∷◌, ◌++◌, Bool, true, false, Option, Some, None, Result, Ok, Err}
use Rattle.std.specs.Prelude.{codes}
use Rattle.std.specs.Fmt.{decimal}
use Rattle.js_tree.specs.declared.place.Place.{Place}
use Rattle.heap_values.specs.declared.answer.HeapAnswer.{HeapAnswer}
use Rattle.heap_values.specs.declared.answer.HeapAnswer.TheVariants as heap
use Rattle.heap_values.specs.declared.found.Found.{Found}
use Rattle.heap_values.specs.declared.found.Found.TheVariants as found
use Rattle.heap_values.specs.declared.ids.Kind.TheVariants as kind
use Rattle.heap_values.specs.declared.ids.ObjectId.{ObjectId}
use Rattle.heap_values.specs.declared.ids.ScopeId.{ScopeId}
use Rattle.heap_values.specs.declared.built_in.BuiltIn.TheVariants as built_in
use Rattle.heap_values.specs.declared.value.Value.{Value}
use Rattle.heap_values.specs.declared.value.Value.TheVariants.{Undefined, Null, Bool as Truth, Number, Object}
use Rattle.heap_values.specs.Views.{HeapView}
use Rattle.heap_objects.specs.Object.{property_after}
use Rattle.object_heap.specs.Heap.{object_at, found_of, own_found_in, stored, deleted_of}
use Rattle.js_evaluation.specs.State.{built_in_object}
use Rattle.js_evaluation.specs.Objects.{holder_of, own_of, found_value, get_from, get_or, get, test_base, is_fixed, written, put_on, put, truth_after, deleted_unless, delete_property, is_there, has_property, stands_among, global_value, elements_from, closure}
use Rattle.js_law_evaluation.proofs.OfState.{Ends, gives, fails, halts, reads, ◌onto◌, ◌then◌, either, with_heap-ends, make-ends, define-ends, throw_error-ends, throw_type_error-ends}

-- ---- properties of values

pub found_value-ends : (otherwise : Value) (f : Found) (place : Place) → Ends (found_value otherwise f place)
found_value-ends otherwise (found.Value v) place = gives v
found_value-ends otherwise found.Absent place = gives otherwise
found_value-ends otherwise (found.LeftOut name) place = halts _

get_from-ends : (holder : Option ObjectId) (name : List ℕ) (place : Place) → Ends (get_from holder name place)
get_from-ends None name place = throw_type_error-ends (codes "not an object") place
get_from-ends (Some holder) name place = reads (λ m s. refl) (λ s. found_value-ends Undefined (found_of s.heap holder name) place)

get_or-ends : (own : Option Value) (base : Value) (name : List ℕ) (place : Place) → Ends (get_or own base name place)
get_or-ends (Some v) base name place = gives v
get_or-ends None base name place = get_from-ends (holder_of base) name place

pub get-ends : (base : Value) (name : List ℕ) (place : Place) → Ends (get base name place)
get-ends base name place = get_or-ends (own_of base name) base name place

pub test_base-ends : (v : Value) (place : Place) → Ends (test_base v place)
test_base-ends Undefined place = throw_type_error-ends (codes "not an object") place
test_base-ends Null place = throw_type_error-ends (codes "not an object") place
test_base-ends v place = gives tt

written-ends : (place : Place) (result : Result HeapView HeapAnswer) → Ends (written place result)
written-ends place (Ok h) = with_heap-ends h
written-ends place (Err heap.BadLength) = throw_error-ends built_in.RangeErrorPrototype (codes "invalid array length") place
written-ends place (Err e) = fails _ place

pub put_on-ends : (id : ObjectId) (name : List ℕ) (v : Value) (place : Place) → Ends (put_on id name v place)
put_on-ends id name v place = reads (λ m s. refl) (λ s. either (is_fixed s.heap id name) (gives tt) (written-ends place (stored s.heap id name v (property_after v))))

pub put-ends : (base : Value) (name : List ℕ) (v : Value) (place : Place) → Ends (put base name v place)
put-ends (Object id) name v place = put_on-ends id name v place
put-ends base name v place = gives tt

truth_after-ends : (result : Bool × HeapView) → Ends (truth_after result)
truth_after-ends result = with_heap-ends result.1 then gives (Truth result.0)

deleted_unless-ends : (f : Found) (id : ObjectId) (name : List ℕ) (place : Place) → Ends (deleted_unless f id name place)
deleted_unless-ends (found.LeftOut left_out) id name place = halts _
deleted_unless-ends f id name place = reads (λ m s. refl) (λ s. truth_after-ends (deleted_of s.heap id name))

pub delete_property-ends : (base : Value) (name : List ℕ) (place : Place) → Ends (delete_property base name place)
delete_property-ends (Object id) name place = reads (λ m s. refl) (λ s. deleted_unless-ends (own_found_in (object_at s.heap id) name) id name place)
delete_property-ends base name place = gives _

pub is_there-ends : (f : Found) (place : Place) → Ends (is_there f place)
is_there-ends found.Absent place = gives _
is_there-ends (found.Value v) place = gives _
is_there-ends (found.LeftOut name) place = halts _

pub has_property-ends : (id : ObjectId) (name : List ℕ) (place : Place) → Ends (has_property id name place)
has_property-ends id name place = reads (λ m s. refl) (λ s. is_there-ends (found_of s.heap id name) place)

pub stands_among-ends : (id : ObjectId) (v : Value) (place : Place) → Ends (stands_among id v place)
stands_among-ends id (Object prototype) place = reads (λ m s. refl) (λ s. gives _)
stands_among-ends id v place = throw_type_error-ends (codes "not an object") place

-- ---- the global object

pub global_value-ends : (name : List ℕ) (f : Found) (place : Place) → Ends (global_value name f place)
global_value-ends name (found.Value v) place = gives v
global_value-ends name found.Absent place = throw_error-ends built_in.ReferenceErrorPrototype (name ++ codes " is not defined") place
global_value-ends name (found.LeftOut left_out) place = halts _

-- ---- elements

pub elements_from-ends : (place : Place) (object : ObjectId) (i : ℕ) (vs : List Value) → Ends (elements_from place object i vs)
elements_from-ends place object i [] = gives tt
elements_from-ends place object i (v ∷ vs) =
    define-ends object (decimal i) v true true place then elements_from-ends place object (suc i) vs

-- ---- functions

pub closure-ends : (number arity : ℕ) (scope : ScopeId) (place : Place) → Ends (closure number arity scope place)
closure-ends number arity scope place =
    make-ends (kind.Function number scope) (Some (built_in_object built_in.FunctionPrototype)) place onto (λ f.
    define-ends f (codes "length") (Number (pos arity)) false false place
    then (make-ends kind.Plain (Some (built_in_object built_in.ObjectPrototype)) place onto (λ prototype.
    define-ends prototype (codes "constructor") (Object f) false true place
    then define-ends f (codes "prototype") (Object prototype) false false place then gives (Object f))))
