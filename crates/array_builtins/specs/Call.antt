-- What a call of a method of arrays gives, and the heap after it (ECMA-262 5.1, section 15.4.4).
use Rattle.std.specs.Prelude.{List, Result, Ok}
use Rattle.heap_values.specs.declared.answer.HeapAnswer.{HeapAnswer}
use Rattle.heap_values.specs.declared.ids.ObjectId.{ObjectId}
use Rattle.heap_values.specs.declared.value.Value.{Value}
use Rattle.heap_values.specs.Views.{HeapView}
use Rattle.array_builtins.specs.declared.call.ArrayMethod.{ArrayMethod}
use Rattle.array_builtins.specs.declared.call.ArrayMethod.TheVariants as method
use Rattle.array_builtins.specs.Ends.{push_of, pop_of, shift_of, unshift_of}
use Rattle.array_builtins.specs.Order.{reverse_of}
use Rattle.array_builtins.specs.Parts.{concat_of, slice_of}
use Rattle.array_builtins.specs.Places.{index_of, last_index_of}
use Rattle.array_builtins.specs.Splicing.{splice_of}

-- the method on an array, with its arguments
abbrev pub array_result : ArrayMethod → HeapView → ObjectId → List Value → Result (Value × HeapView) HeapAnswer
array_result method.Push h array args = push_of h array args
array_result method.Pop h array args = pop_of h array
array_result method.Shift h array args = shift_of h array
array_result method.Unshift h array args = unshift_of h array args
array_result method.Concat h array args = concat_of h array args
array_result method.Slice h array args = slice_of h array args
array_result method.Splice h array args = splice_of h array args
array_result method.Reverse h array args = reverse_of h array
array_result method.IndexOf h array args = Ok (index_of h array args, h)
array_result method.LastIndexOf h array args = Ok (last_index_of h array args, h)
