-- Parts of what natives do that the definition of evaluation writes without a name.
use Rattle.std.specs.Prelude.{ℤ, List, [], ◌∷◌, Option, None, Some, codes}
use Rattle.js_tree.specs.declared.place.Place.{Place}
use Rattle.heap_values.specs.declared.built_in.BuiltIn.TheVariants as built_in
use Rattle.heap_values.specs.declared.ids.Kind.TheVariants as kind
use Rattle.heap_values.specs.declared.ids.ObjectId.{ObjectId}
use Rattle.heap_values.specs.declared.value.Value.{Value}
use Rattle.heap_values.specs.declared.value.Value.TheVariants as value
use Rattle.array_builtins.specs.declared.call.ArrayMethod.{ArrayMethod}
use Rattle.array_builtins.specs.Call.{array_result}
use Rattle.run_trees.specs.Runs.{pure, reading, ◌>>=◌}
use Rattle.js_evaluation.specs.State.{Does, built_in_object, make}
use Rattle.js_evaluation.specs.Objects.{put_on}
use Rattle.js_evaluation.specs.Handed.{gives_text}
use Rattle.js_evaluation.specs.NativeWork.{array_end, class_in}

-- the class of a value, as a text (15.2.4.2)
abbrev pub class_given : Value → Place → Does Value
class_given v place = reading (λ s. gives_text (class_in s.heap v) place)

-- the length that a number alone is (15.4.2.2)
abbrev pub length_in : List Value → Option ℤ
length_in (value.Number n ∷ []) = Some n
length_in vs = None

-- a new array of this length (15.4.2.2)
abbrev pub sized_given : ℤ → Place → Does Value
sized_given n place = do
  made ← make kind.Array (Some (built_in_object built_in.ArrayPrototype)) place
  _length ← put_on made (codes "length") (value.Number n) place
  pure (value.Object made)

-- a method of an array
abbrev pub method_given : ArrayMethod → ObjectId → List Value → Place → Does Value
method_given m array vs place = reading (λ s. array_end place (array_result m s.heap array vs))
