-- `new` (ECMA-262 5.1, section 11.2.2).
use Rattle.std.specs.Prelude.{List}
use Rattle.js_tree.specs.declared.place.Place.{Place}
use Rattle.js_tree.specs.Tree.{Expressions, FunctionTree}
use Rattle.heap_values.specs.declared.ids.Kind.{Kind}
use Rattle.heap_values.specs.declared.ids.ObjectId.{ObjectId}
use Rattle.heap_values.specs.declared.value.Value.{Value}
use Rattle.run_trees.specs.Runs.{◌>>=◌}
use Rattle.js_evaluation.specs.State.{Does}
use Rattle.js_evaluation.specs.Objects.{Context}
use Rattle.js_evaluation.specs.Expressions as expression
use Rattle.js_evaluation.specs.Parts.{Within}
use Rattle.js_evaluation.specs.Scoping.{by_slots}

module _ (functions : List FunctionTree) (go : Within) (cx : Context) where
  -- the arguments, and then the construction
  abbrev pub new_arguments : Value → List Value → Expressions → Place → Does Value
  new_arguments callee done left place = expression.arguments_from by_slots functions go cx done left >>= (λ vs. expression.constructed by_slots functions go callee vs place)

  -- the construction by an object of this kind
  abbrev pub constructed_by : Kind → ObjectId → List Value → Place → Does Value
  constructed_by = expression.constructed_by by_slots functions go
