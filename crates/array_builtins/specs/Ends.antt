-- Elements put to the ends of an array, and taken from them (ECMA-262 5.1, sections 15.4.4.6, 15.4.4.7, 15.4.4.9 and
-- 15.4.4.13).
use Rattle.std.specs.Prelude.{ℕ, ◌+◌, ◌-◌, pos, List, Result, if◌then◌else◌, nat_eq, length}
use Rattle.std.specs.Fmt.{decimal}
use Rattle.heap_values.specs.declared.answer.HeapAnswer.{HeapAnswer}
use Rattle.heap_values.specs.declared.ids.ObjectId.{ObjectId}
use Rattle.heap_values.specs.declared.value.Value.{Value}
use Rattle.heap_values.specs.declared.value.Value.TheVariants.{Undefined, Number}
use Rattle.heap_values.specs.Views.{HeapView}
use Rattle.array_builtins.specs.Steps.{then_on, giving}
use Rattle.array_builtins.specs.Elements.{size_of, element, value_of, length_set, cut, all_put, moved_forward, moved_backward}

-- the array with this length, which is what the method gives
abbrev pub with_length : HeapView → ObjectId → ℕ → Result (Value × HeapView) HeapAnswer
with_length h array n = giving (Number (pos n)) (length_set h array n)

-- `push`: the arguments behind the last element (15.4.4.7)
abbrev pub push_of : HeapView → ObjectId → List Value → Result (Value × HeapView) HeapAnswer
push_of h array args =
    then_on (all_put h array (size_of h array) args) (λ g. with_length g array (size_of h array + length args))

-- `pop` on an array of n elements
abbrev pub popped : HeapView → ObjectId → ℕ → Result (Value × HeapView) HeapAnswer
popped h array n = if nat_eq n 0 then giving Undefined (length_set h array 0)
    else giving (value_of (element h array (decimal (n - 1)))) (cut h array (decimal (n - 1)) (n - 1))

-- `pop`: the last element, taken away (15.4.4.6)
abbrev pub pop_of : HeapView → ObjectId → Result (Value × HeapView) HeapAnswer
pop_of h array = popped h array (size_of h array)

-- `shift` on an array of n elements: each moves to the place before it, and the last one is deleted
abbrev pub shifted : HeapView → ObjectId → ℕ → Result (Value × HeapView) HeapAnswer
shifted h array n = if nat_eq n 0 then giving Undefined (length_set h array 0)
    else giving (value_of (element h array (decimal 0)))
    (then_on (moved_forward h array 1 0 (n - 1)) (λ g. cut g array (decimal (n - 1)) (n - 1)))

-- `shift`: the first element, taken away (15.4.4.9)
abbrev pub shift_of : HeapView → ObjectId → Result (Value × HeapView) HeapAnswer
shift_of h array = shifted h array (size_of h array)

-- `unshift`: the arguments before the first element; each element moves behind them, the last one first (15.4.4.13)
abbrev pub unshift_of : HeapView → ObjectId → List Value → Result (Value × HeapView) HeapAnswer
unshift_of h array args =
    then_on (moved_backward h array 0 (length args) (size_of h array)) (λ g.
    then_on (all_put g array 0 args) (λ f.
    with_length f array (size_of h array + length args)))
