-- What becomes of a value that is handed to a native: the native takes a value for it, or it is an object that is to be
-- asked for a primitive value (ECMA-262 5.1, section 9).
use Rattle.std.specs.Prelude.{◌≡◌, false, Result, Ok, Err}
use Rattle.js_tree.specs.declared.place.Place.{Place}
use Rattle.heap_values.specs.declared.value.Value.{Value}
use Rattle.heap_values.specs.declared.value.Value.TheVariants as value
use Rattle.heap_values.specs.Views.{HeapView}
use Rattle.js_evaluation.specs.declared.native.Conversion.{Conversion}
use Rattle.js_evaluation.specs.declared.native.Native.{Native}
use Rattle.js_evaluation.specs.Conversions.{Call}
use Rattle.js_evaluation.specs.Natives.{tested, is_kept, primitive_or_kept, converted}
use Rattle.heap_steps.specs.declared.halt.Halt.{Halt}
use Rattle.heap_steps.specs.Works.{Works}
use Rattle.js_native_calls.specs.declared.readying.Readied.{Readied}
use Rattle.js_native_calls.specs.declared.readying.Readied.TheVariants as readied

-- once it is tested
abbrev pub Becomes : Call → Conversion → Value → Place → HeapView → Result Readied Halt → Type 0
Becomes call c v place h (Ok (readied.Value w)) = Works (primitive_or_kept call c v place) h (Ok w) h
Becomes call c v place h (Ok (readied.Asked id)) = (v ≡ value.Object id) × (is_kept h c v ≡ false)
Becomes call c v place h (Err e) = Works (primitive_or_kept call c v place) h (Err e) h

-- with its test
abbrev pub Readies : Call → Native → Conversion → Value → Place → HeapView → Result Readied Halt → HeapView → Type 0
Readies call n c v place h (Ok (readied.Value w)) h' = Works (converted call n c v place) h (Ok w) h'
Readies call n c v place h (Ok (readied.Asked id)) h' =
    (v ≡ value.Object id) × (is_kept h' c v ≡ false) × Works (tested n c v place) h (Ok tt) h'
Readies call n c v place h (Err e) h' = Works (converted call n c v place) h (Err e) h'
