-- Worked calls on small arrays, by computation. The array is the first object of its heap; an array that is made is the
-- second.
use Rattle.std.specs.Prelude.{◌≡◌, ℕ, zero, suc, ◌+◌, pos, negsuc, true, List, [], ◌∷◌, ◌++◌, Option, Some, None, Result, Ok, Err, length, refl}
use Rattle.std.specs.Fmt.{decimal, digits}
use Rattle.heap_values.specs.declared.answer.HeapAnswer.{HeapAnswer}
use Rattle.heap_values.specs.declared.ids.Kind.TheVariants.{Array}
use Rattle.heap_values.specs.declared.ids.ObjectId.{ObjectId}
use Rattle.heap_values.specs.declared.property.Property.{Property}
use Rattle.heap_values.specs.declared.value.Value.{Value}
use Rattle.heap_values.specs.declared.value.Value.TheVariants.{Undefined, Number, Object}
use Rattle.heap_values.specs.Views.{HeapView}
use Rattle.heap_objects.specs.Object.{value_property}
use Rattle.array_builtins.specs.declared.call.ArrayMethod.{ArrayMethod}
use Rattle.array_builtins.specs.declared.call.ArrayMethod.TheVariants as method
use Rattle.array_builtins.specs.Call.{array_result}
use Rattle.array_builtins.specs.Elements.{element, size_of}

-- a number, as an argument and as an element
abbrev number : ℕ → Value
number k = Number (pos k)

abbrev n : ℕ → Option Value
n k = Some (number k)

abbrev hole : Option Value
hole = None

abbrev property_of : ℕ → Option Value → List (List ℕ × Property)
property_of at None = []
property_of at (Some v) = (decimal at, value_property v true true) ∷ []

abbrev properties_from : ℕ → List (Option Value) → List (List ℕ × Property)
properties_from at [] = []
properties_from at (e ∷ es) = property_of at e ++ properties_from (at + 1) es

-- a heap of one array with these elements
abbrev heap_of : List (Option Value) → HeapView
heap_of es = record {
  objects = record { kind = Array; properties = properties_from 0 es; prototype = None; length = length es } ∷ [];
  scopes = [];
  literals = [];
  cells = 0;
  units = 0;
}

abbrev receiver : ObjectId
receiver = record { 0 = 0 }

abbrev made : ObjectId
made = record { 0 = 1 }

abbrev elements_from : HeapView → ObjectId → ℕ → ℕ → List (Option Value)
elements_from h array at zero = []
elements_from h array at (suc count) = element h array (decimal at) ∷ elements_from h array (at + 1) count

abbrev seen : ObjectId → Result (Value × HeapView) HeapAnswer → Option (Value × List (Option Value))
seen array (Ok r) = Some (r.0, elements_from r.1 array 0 (size_of r.1 array))
seen array (Err e) = None

-- what the method gives on an array of these elements, and the elements of this array after it
abbrev after : ObjectId → ArrayMethod → List (Option Value) → List Value → Option (Value × List (Option Value))
after array which es args = seen array (array_result which (heap_of es) receiver args)

-- `[7].push(8)` (15.4.4.7)
pushed : after receiver method.Push (n 7 ∷ []) (number 8 ∷ []) ≡ Some (number 2, n 7 ∷ n 8 ∷ [])
unfolding digits
pushed = refl

-- `[7, 8].pop()`, and that of an empty array (15.4.4.6)
popped : after receiver method.Pop (n 7 ∷ n 8 ∷ []) [] ≡ Some (number 8, n 7 ∷ [])
unfolding digits
popped = refl

popped_of_none : after receiver method.Pop [] [] ≡ Some (Undefined, [])
unfolding digits
popped_of_none = refl

-- `[7, , 9].shift()`: the hole moves too (15.4.4.9)
shifted : after receiver method.Shift (n 7 ∷ hole ∷ n 9 ∷ []) [] ≡ Some (number 7, hole ∷ n 9 ∷ [])
unfolding digits
shifted = refl

-- `[7].unshift(5, 6)` (15.4.4.13)
unshifted : after receiver method.Unshift (n 7 ∷ []) (number 5 ∷ number 6 ∷ []) ≡ Some (number 3, n 5 ∷ n 6 ∷ n 7 ∷ [])
unfolding digits
unshifted = refl

-- `[7, 8, 9].slice(-2)` (15.4.4.10)
sliced_from_end : after made method.Slice (n 7 ∷ n 8 ∷ n 9 ∷ []) (Number (negsuc 1) ∷ [])
    ≡ Some (Object made, n 8 ∷ n 9 ∷ [])
unfolding digits
sliced_from_end = refl

-- `[7, , 9, ,].slice()`: a hole stays one, and the holes at the end are lost (15.4.4.10)
sliced_holes : after made method.Slice (n 7 ∷ hole ∷ n 9 ∷ hole ∷ []) [] ≡ Some (Object made, n 7 ∷ hole ∷ n 9 ∷ [])
unfolding digits
sliced_holes = refl

-- `a.concat(8, a)` where a is `[7]` (15.4.4.4)
concatenated : after made method.Concat (n 7 ∷ []) (number 8 ∷ Object receiver ∷ [])
    ≡ Some (Object made, n 7 ∷ n 8 ∷ n 7 ∷ [])
unfolding digits
concatenated = refl

-- `[5, 6, 7, 8].splice(1, 2, 9)`, what it gives and what is left (15.4.4.12)
spliced_out : after made method.Splice (n 5 ∷ n 6 ∷ n 7 ∷ n 8 ∷ []) (number 1 ∷ number 2 ∷ number 9 ∷ [])
    ≡ Some (Object made, n 6 ∷ n 7 ∷ [])
unfolding digits
spliced_out = refl

spliced : after receiver method.Splice (n 5 ∷ n 6 ∷ n 7 ∷ n 8 ∷ []) (number 1 ∷ number 2 ∷ number 9 ∷ [])
    ≡ Some (Object made, n 5 ∷ n 9 ∷ n 8 ∷ [])
unfolding digits
spliced = refl

-- `[5, 6].splice(1)` takes nothing out (15.4.4.12)
spliced_without_count : after receiver method.Splice (n 5 ∷ n 6 ∷ []) (number 1 ∷ [])
    ≡ Some (Object made, n 5 ∷ n 6 ∷ [])
unfolding digits
spliced_without_count = refl

-- `[7, , 9].reverse()` and `[7, ,].reverse()` (15.4.4.8)
reversed : after receiver method.Reverse (n 7 ∷ hole ∷ n 9 ∷ []) [] ≡ Some (Object receiver, n 9 ∷ hole ∷ n 7 ∷ [])
unfolding digits
reversed = refl

reversed_hole : after receiver method.Reverse (n 7 ∷ hole ∷ []) [] ≡ Some (Object receiver, hole ∷ n 7 ∷ [])
unfolding digits
reversed_hole = refl

-- `[7, 8, 7].indexOf(7, -2)` and `[,].indexOf(undefined)`: a hole is skipped (15.4.4.14)
index_from_end : after receiver method.IndexOf (n 7 ∷ n 8 ∷ n 7 ∷ []) (number 7 ∷ Number (negsuc 1) ∷ [])
    ≡ Some (number 2, n 7 ∷ n 8 ∷ n 7 ∷ [])
unfolding digits
index_from_end = refl

index_of_hole : after receiver method.IndexOf (hole ∷ []) [] ≡ Some (Number (negsuc 0), hole ∷ [])
unfolding digits
index_of_hole = refl

-- `[7, 8, 7].lastIndexOf(7)`, and with a position that is passed as undefined (15.4.4.15)
last_index : after receiver method.LastIndexOf (n 7 ∷ n 8 ∷ n 7 ∷ []) (number 7 ∷ [])
    ≡ Some (number 2, n 7 ∷ n 8 ∷ n 7 ∷ [])
unfolding digits
last_index = refl

last_index_of_undefined : after receiver method.LastIndexOf (n 7 ∷ n 8 ∷ n 7 ∷ []) (number 7 ∷ Undefined ∷ [])
    ≡ Some (number 0, n 7 ∷ n 8 ∷ n 7 ∷ [])
unfolding digits
last_index_of_undefined = refl
