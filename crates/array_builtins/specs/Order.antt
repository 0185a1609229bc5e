-- The elements of an array in the opposite order (ECMA-262 5.1, section 15.4.4.8).
use Rattle.std.specs.Prelude.{ℕ, ◌-◌, ◌/◌, List, Option, Some, None, Result, Ok}
use Rattle.std.specs.Fmt.{decimal}
use Rattle.heap_values.specs.declared.answer.HeapAnswer.{HeapAnswer}
use Rattle.heap_values.specs.declared.ids.ObjectId.{ObjectId}
use Rattle.heap_values.specs.declared.value.Value.{Value}
use Rattle.heap_values.specs.declared.value.Value.TheVariants.{Object}
use Rattle.heap_values.specs.Views.{HeapView}
use Rattle.array_builtins.specs.Steps.{then_on, steps, giving}
use Rattle.array_builtins.specs.Elements.{size_of, element, put, without}

-- two elements, each where there is one, in each other's place (steps 6.h to 6.k)
abbrev pub exchanged : HeapView → ObjectId → List ℕ → List ℕ → Option Value → Option Value → Result HeapView HeapAnswer
exchanged h array low high (Some a) (Some b) = then_on (put h array low b) (λ g. put g array high a)
exchanged h array low high None (Some b) = then_on (put h array low b) (λ g. Ok (without g array high))
exchanged h array low high (Some a) None = put (without h array low) array high a
exchanged h array low high None None = Ok h

abbrev pub swapped : ObjectId → ℕ → ℕ → HeapView → Result HeapView HeapAnswer
swapped array low high h =
    exchanged h array (decimal low) (decimal high) (element h array (decimal low)) (element h array (decimal high))

-- a place and the one that is as far from the end
abbrev pub reverse_step : ObjectId → ℕ → ℕ → HeapView → Result HeapView HeapAnswer
reverse_step array n low h = swapped array low (n - 1 - low) h

abbrev pub reversed : HeapView → ObjectId → ℕ → Result HeapView HeapAnswer
reversed h array n = steps (reverse_step array n) (n / 2) 0 h

-- `reverse`, which gives the array itself
abbrev pub reverse_of : HeapView → ObjectId → Result (Value × HeapView) HeapAnswer
reverse_of h array = giving (Object array) (reversed h array (size_of h array))
