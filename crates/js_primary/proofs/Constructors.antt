-- What is no object constructs nothing.
use Rattle.std.proofs.Common.{◌≡◌, List, codes, refl}
use Rattle.js_tree.specs.declared.place.Place.{Place}
use Rattle.js_tree.specs.Tree.{FunctionTree}
use Rattle.heap_values.specs.declared.ids.ObjectId.{ObjectId}
use Rattle.heap_values.specs.declared.value.Value.{Value}
use Rattle.heap_values.specs.declared.value.Value.TheVariants as value
use Rattle.js_evaluation.specs.State.{throw_type_error}
use Rattle.js_evaluation.specs.Objects.{Context}
use Rattle.js_evaluation.specs.Expressions as rule
use Rattle.js_evaluation.specs.Parts.{Within}
use Rattle.js_evaluation.specs.Scoping.{by_slots}

pub no_constructor : (functions : List FunctionTree) (go : Within) (cx : Context) (v : Value) (vs : List Value) (place : Place) → ((id : ObjectId) → v ≡ value.Object id → ⊥)
    → rule.constructed by_slots functions go v vs place ≡ throw_type_error (codes "not a constructor") place
no_constructor functions go cx value.Undefined vs place n = refl
no_constructor functions go cx value.Null vs place n = refl
no_constructor functions go cx (value.Bool b) vs place n = refl
no_constructor functions go cx (value.Number k) vs place n = refl
no_constructor functions go cx (value.Text t) vs place n = refl
no_constructor functions go cx (value.Object id) vs place n = absurd (n id refl)
