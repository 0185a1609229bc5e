-- The elements and the length of an array (ECMA-262 5.1, sections 8.12 and 15.4.5).
use Rattle.std.specs.Prelude.{ℕ, ◌+◌, pos, true, List, [], ◌∷◌, Option, Some, None, Result, Ok, Err, if◌then◌else◌, nat_lt, unwrap_or, codes}
use Rattle.std.specs.Fmt.{decimal}
use Rattle.heap_values.specs.declared.answer.HeapAnswer.{HeapAnswer}
use Rattle.heap_values.specs.declared.answer.HeapAnswer.TheVariants as answer
use Rattle.heap_values.specs.declared.built_in.BuiltIn.TheVariants.{ArrayPrototype}
use Rattle.heap_values.specs.declared.found.Found.{Found}
use Rattle.heap_values.specs.declared.found.Found.TheVariants as found
use Rattle.heap_values.specs.declared.ids.Kind.TheVariants.{Array}
use Rattle.heap_values.specs.declared.ids.ObjectId.{ObjectId}
use Rattle.heap_values.specs.declared.value.Value.{Value}
use Rattle.heap_values.specs.declared.value.Value.TheVariants.{Undefined, Number}
use Rattle.heap_values.specs.Views.{HeapView}
use Rattle.heap_objects.specs.Object.{property_after, value_property}
use Rattle.object_heap.specs.Fresh.{built_in_number}
use Rattle.object_heap.specs.Heap.{object_at, length_of, found_of, made_of, stored, deleted_of}
use Rattle.array_builtins.specs.Steps.{then_on, steps, steps_down}
use Rattle.object_heap.specs.declared.limits.TheConstants.{LONGEST_ARRAY}

-- `Array.prototype`
abbrev pub array_prototype : ObjectId
array_prototype = record { 0 = built_in_number ArrayPrototype }

-- a new array without elements (15.4.2.1)
abbrev pub array_made : HeapView → Result (ObjectId × HeapView) HeapAnswer
array_made h = made_of h Array (Some array_prototype)

-- the length of an array
abbrev pub size_of : HeapView → ObjectId → ℕ
size_of h array = length_of (object_at h array)

-- a value that was found; the mark of a built-in that is left out stands under no index
abbrev pub value_found : Found → Option Value
value_found (found.Value v) = Some v
value_found (found.LeftOut text) = None
value_found found.Absent = None

-- the element of this name, the array's own or an inherited one; none where there is none (8.12.3 and 8.12.6)
abbrev pub element : HeapView → ObjectId → List ℕ → Option Value
element h array name = value_found (found_of h array name)

-- the value of an element; undefined where there is none (8.12.3)
abbrev pub value_of : Option Value → Value
value_of v = unwrap_or v Undefined

-- a value put under a name (8.12.5)
abbrev pub put : HeapView → ObjectId → List ℕ → Value → Result HeapView HeapAnswer
put h array name v = stored h array name v (property_after v)

-- a value defined under a name of an array that is made, listed and deletable (8.12.9)
abbrev pub defined : HeapView → ObjectId → List ℕ → Value → Result HeapView HeapAnswer
defined h array name v = stored h array name v (λ _. value_property v true true)

-- the heap without what stands under a name (8.12.7)
abbrev pub without : HeapView → ObjectId → List ℕ → HeapView
without h array name = (deleted_of h array name).1

-- an array with this length; one over 100,000 is refused whatever the object is
abbrev pub length_set : HeapView → ObjectId → ℕ → Result HeapView HeapAnswer
length_set h array n = if nat_lt LONGEST_ARRAY n then Err answer.ArrayTooLong
    else put h array (codes "length") (Number (pos n))

-- without the element of this name, and with this length
abbrev pub cut : HeapView → ObjectId → List ℕ → ℕ → Result HeapView HeapAnswer
cut h array name n = length_set (without h array name) array n

-- values put at a place and those behind it
abbrev pub all_put : HeapView → ObjectId → ℕ → List Value → Result HeapView HeapAnswer
all_put h array at [] = Ok h
all_put h array at (v ∷ vs) = then_on (put h array (decimal at) v) (λ g. all_put g array (at + 1) vs)

-- what an element that is there is to its new place: put; where none is there, nothing stays at that place
abbrev pub put_or_deleted : HeapView → ObjectId → List ℕ → Option Value → Result HeapView HeapAnswer
put_or_deleted h array name (Some v) = put h array name v
put_or_deleted h array name None = Ok (without h array name)

-- an element moved to another place
abbrev pub moved : ObjectId → ℕ → ℕ → HeapView → Result HeapView HeapAnswer
moved array from to h = put_or_deleted h array (decimal to) (element h array (decimal from))

abbrev pub move_step : ObjectId → ℕ → ℕ → ℕ → HeapView → Result HeapView HeapAnswer
move_step array from to k h = moved array (from + k) (to + k) h

-- so many elements moved from one place on to another place on, the first one first
abbrev pub moved_forward : HeapView → ObjectId → ℕ → ℕ → ℕ → Result HeapView HeapAnswer
moved_forward h array from to count = steps (move_step array from to) count 0 h

-- the same, the last one first
abbrev pub moved_backward : HeapView → ObjectId → ℕ → ℕ → ℕ → Result HeapView HeapAnswer
moved_backward h array from to count = steps_down (move_step array from to) count h
