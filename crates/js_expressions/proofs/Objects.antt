-- What is asked of values that are no objects.
use Rattle.std.proofs.Common.{◌≡◌, codes, refl, false}
use Rattle.js_tree.specs.declared.place.Place.{Place}
use Rattle.heap_values.specs.declared.ids.ObjectId.{ObjectId}
use Rattle.heap_values.specs.declared.value.Value.{Value}
use Rattle.heap_values.specs.declared.value.Value.TheVariants as value
use Rattle.run_trees.specs.Runs.{pure}
use Rattle.js_evaluation.specs.State.{throw_type_error}
use Rattle.js_evaluation.specs.Conversions as convert
use Rattle.js_evaluation.specs.Conversions.{Call}

-- `in` wants an object
pub in_nothing : (call : Call) (a v : Value) (place : Place) → ((id : ObjectId) → v ≡ value.Object id → ⊥) → convert.is_in call a v place ≡ throw_type_error (codes "not an object") place
in_nothing call a value.Undefined place n = refl
in_nothing call a value.Null place n = refl
in_nothing call a (value.Bool b) place n = refl
in_nothing call a (value.Number k) place n = refl
in_nothing call a (value.Text t) place n = refl
in_nothing call a (value.Object id) place n = absurd (n id refl)

-- what is no object descends from nothing
pub no_instance : (call : Call) (v f : Value) (place : Place) → ((id : ObjectId) → v ≡ value.Object id → ⊥) → convert.instance_of_by call v f place ≡ pure (value.Bool false)
no_instance call value.Undefined f place n = refl
no_instance call value.Null f place n = refl
no_instance call (value.Bool b) f place n = refl
no_instance call (value.Number k) f place n = refl
no_instance call (value.Text t) f place n = refl
no_instance call (value.Object id) f place n = absurd (n id refl)
