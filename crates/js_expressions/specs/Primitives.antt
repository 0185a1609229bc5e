-- Primitive values with what they are wanted for (ECMA-262 5.1, sections 8.12.8 and 9.1).
use Rattle.std.specs.Prelude.{ℕ, List}
use Rattle.js_tree.specs.declared.place.Place.{Place}
use Rattle.js_tree.specs.Tree.{FunctionTree}
use Rattle.heap_values.specs.declared.value.Value.{Value}
use Rattle.js_evaluation.specs.Objects.{Context}
use Rattle.js_evaluation.specs.Conversions as convert
use Rattle.js_frames.specs.declared.wanted.Wanted.{Wanted}
use Rattle.js_frames.specs.Rests.{DoesEither, ◌>=>◌}
use Rattle.js_frames.specs.RestOf.{with_primitive}
use Rattle.js_evaluation.specs.Parts.{Within, calls}

module _ (functions : List FunctionTree) (go : Within) (cx : Context) where
  abbrev pub primitive : List (List ℕ) → Value → Place → Wanted → DoesEither
  primitive methods value place wanted = convert.to_primitive (calls go) methods value place >=> with_primitive functions go cx wanted
