-- Arrays made of parts of arrays (ECMA-262 5.1, sections 15.4.4.4 and 15.4.4.10). In this edition the length of
-- the new array isn't set at the end: it is above its last element, and holes behind that are lost.
use Rattle.std.specs.Prelude.{ℕ, ◌+◌, ◌-◌, min, Bool, true, false, List, [], ◌∷◌, Option, Some, None, Result, Ok, if◌then◌else◌}
use Rattle.std.specs.Fmt.{decimal}
use Rattle.heap_values.specs.declared.answer.HeapAnswer.{HeapAnswer}
use Rattle.heap_values.specs.declared.ids.Kind.{Kind}
use Rattle.heap_values.specs.declared.ids.Kind.TheVariants.{Array}
use Rattle.heap_values.specs.declared.ids.ObjectId.{ObjectId}
use Rattle.heap_values.specs.declared.value.Value.{Value}
use Rattle.heap_values.specs.declared.value.Value.TheVariants.{Object}
use Rattle.heap_values.specs.Views.{HeapView}
use Rattle.object_heap.specs.Heap.{object_at, kind_in}
use Rattle.array_builtins.specs.Arguments.{first_number, second_number, place_or}
use Rattle.array_builtins.specs.Steps.{then_on, steps, giving}
use Rattle.array_builtins.specs.Elements.{array_made, size_of, element, defined}
use Rattle.object_heap.specs.declared.limits.TheConstants.{LONGEST_ARRAY}

-- an element defined in a new array, where it is there
abbrev pub defined_if : HeapView → ObjectId → List ℕ → Option Value → Result HeapView HeapAnswer
defined_if h into name (Some v) = defined h into name v
defined_if h into name None = Ok h

-- an element of an array at a place of a new one; a hole stays a hole
abbrev pub copied_one : ObjectId → ℕ → ObjectId → ℕ → HeapView → Result HeapView HeapAnswer
copied_one array from into to h = defined_if h into (decimal to) (element h array (decimal from))

abbrev pub copy_step : ObjectId → ℕ → ObjectId → ℕ → ℕ → HeapView → Result HeapView HeapAnswer
copy_step array from into to k h = copied_one array (from + k) into (to + k) h

-- so many elements of an array, from a place on, at a place of a new one and behind it
abbrev pub copied : HeapView → ObjectId → ℕ → ObjectId → ℕ → ℕ → Result HeapView HeapAnswer
copied h array from into to count = steps (copy_step array from into to) count 0 h

-- ---- `slice` (15.4.4.10)

-- a new array of the elements from one place up to and without another
abbrev pub sliced : HeapView → ObjectId → ℕ → ℕ → Result (Value × HeapView) HeapAnswer
sliced h array from to =
    then_on (array_made h) (λ made. giving (Object made.0) (copied made.1 array from made.0 0 (to - from)))

abbrev pub slice_of : HeapView → ObjectId → List Value → Result (Value × HeapView) HeapAnswer
slice_of h array args =
    sliced h array (place_or (size_of h array) 0 (first_number args))
    (place_or (size_of h array) (size_of h array) (second_number args))

-- ---- `concat` (15.4.4.4)

abbrev pub is_array : Kind → Bool
is_array Array = true
is_array _ = false

-- the array that a value is
abbrev pub array_in : HeapView → Value → Option ObjectId
array_in h (Object id) = if is_array (kind_in (object_at h id)) then Some id else None
array_in h _ = None

-- the place behind so many more; from 100,000 on no place of an array takes an element, and 100,000 stands for them all
abbrev pub place_behind : ℕ → ℕ → ℕ
place_behind at count = min (at + count) LONGEST_ARRAY

-- an item at a place of a new array, of an array its elements from there on, and the place behind
abbrev pub appended_as : HeapView → ObjectId → ℕ → Value → Option ObjectId → Result (ℕ × HeapView) HeapAnswer
appended_as h into at v None = then_on (defined h into (decimal at) v) (λ g. Ok (place_behind at 1, g))
appended_as h into at v (Some array) =
    then_on (copied h array 0 into at (size_of h array)) (λ g. Ok (place_behind at (size_of h array), g))

abbrev pub appended : HeapView → ObjectId → ℕ → Value → Result (ℕ × HeapView) HeapAnswer
appended h into at v = appended_as h into at v (array_in h v)

-- items one after another
abbrev pub all_appended : HeapView → ObjectId → ℕ → List Value → Result HeapView HeapAnswer
all_appended h into at [] = Ok h
all_appended h into at (v ∷ vs) = then_on (appended h into at v) (λ p. all_appended p.1 into p.0 vs)

abbrev pub concat_of : HeapView → ObjectId → List Value → Result (Value × HeapView) HeapAnswer
concat_of h array args =
    then_on (array_made h) (λ made. giving (Object made.0) (all_appended made.1 made.0 0 (Object array ∷ args)))
