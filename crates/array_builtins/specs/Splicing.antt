-- A part of an array in place of another (ECMA-262 5.1, section 15.4.4.12).
use Rattle.std.specs.Prelude.{ℕ, ◌+◌, ◌-◌, min, ℤ, pos, negsuc, List, [], ◌∷◌, Option, Some, None, Result, Ok, if◌then◌else◌, nat_lt, length}
use Rattle.std.specs.Fmt.{decimal}
use Rattle.heap_values.specs.declared.answer.HeapAnswer.{HeapAnswer}
use Rattle.heap_values.specs.declared.ids.ObjectId.{ObjectId}
use Rattle.heap_values.specs.declared.value.Value.{Value}
use Rattle.heap_values.specs.declared.value.Value.TheVariants.{Object}
use Rattle.heap_values.specs.Views.{HeapView}
use Rattle.array_builtins.specs.Arguments.{first_number, second_number, place_or}
use Rattle.array_builtins.specs.Steps.{then_on, steps_down, giving}
use Rattle.array_builtins.specs.Elements.{array_made, size_of, without, length_set, all_put, moved_forward, moved_backward}
use Rattle.array_builtins.specs.Parts.{copied}

abbrev pub delete_step : ObjectId → ℕ → ℕ → HeapView → Result HeapView HeapAnswer
delete_step array from k h = Ok (without h array (decimal (from + k)))

-- so many elements from a place on deleted, the last one first
abbrev pub all_deleted : HeapView → ObjectId → ℕ → ℕ → Result HeapView HeapAnswer
all_deleted h array from count = steps_down (delete_step array from) count h

-- the elements behind the `count` at `start` moved so that `more` fit there, in an array of n (steps 12 and 13)
abbrev pub room_made : HeapView → ObjectId → ℕ → ℕ → ℕ → ℕ → Result HeapView HeapAnswer
room_made h array n start count more =
    if nat_lt more count then then_on (moved_forward h array (start + count) (start + more) (n - start - count)) (λ g.
    all_deleted g array (n - count + more) (count - more))
    else if nat_lt count more then moved_backward h array (start + count) (start + more) (n - start - count)
    else Ok h

-- the items in place of the `count` elements at `start` (steps 12 to 15)
abbrev pub replaced : HeapView → ObjectId → ℕ → ℕ → ℕ → List Value → Result HeapView HeapAnswer
replaced h array n start count items =
    then_on (room_made h array n start count (length items)) (λ g.
    then_on (all_put g array start items) (λ f.
    length_set f array (n - count + length items)))

-- the array of the `count` elements at `start`, and the items in their place
abbrev pub spliced : HeapView → ObjectId → ℕ → ℕ → ℕ → List Value → Result (Value × HeapView) HeapAnswer
spliced h array n start count items =
    then_on (array_made h) (λ made.
    then_on (copied made.1 array start made.0 0 count) (λ g.
    giving (Object made.0) (replaced g array n start count items)))

-- how many of the elements that are left are taken out (step 7)
abbrev pub clamped : ℕ → ℤ → ℕ
clamped left (pos n) = min n left
clamped left (negsuc n) = 0

-- none where no number is said
abbrev pub count_of : ℕ → Option ℤ → ℕ
count_of left (Some n) = clamped left n
count_of left None = 0

-- the arguments behind the first two
abbrev pub items_in : List Value → List Value
items_in (start ∷ count ∷ items) = items
items_in args = []

abbrev pub spliced_from : HeapView → ObjectId → ℕ → ℕ → List Value → Result (Value × HeapView) HeapAnswer
spliced_from h array n start args = spliced h array n start (count_of (n - start) (second_number args)) (items_in args)

abbrev pub splice_of : HeapView → ObjectId → List Value → Result (Value × HeapView) HeapAnswer
splice_of h array args = spliced_from h array (size_of h array) (place_or (size_of h array) 0 (first_number args)) args
