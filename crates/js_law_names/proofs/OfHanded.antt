-- What is given to a call.
use Rattle.std.proofs.Common.{ℕ, List}
use Rattle.js_tree.specs.declared.place.Place.{Place}
use Rattle.heap_values.specs.declared.value.Value.{Value}
use Rattle.heap_values.specs.declared.value.Value.TheVariants as value
use Rattle.js_evaluation.specs.State.{RunState}
use Rattle.js_evaluation.specs.Handed.{gives_text, gives as given}
use Rattle.js_law_right.specs.Right.{Setting}
use Rattle.js_law_names.proofs.Agreeing.{Agrees, gives, ◌then◌}
use Rattle.js_law_names.proofs.OfState.{spend-agrees}

module _ {setting : ℕ → Setting} where
  pub gives_text-agrees : {z : RunState} (t : List ℕ) (place : Place)
      → Agrees setting z (gives_text t place) (gives_text t place)
  gives_text-agrees t place = spend-agrees t place then gives (value.Text t)

  pub given-agrees : {z : RunState} (v : Value) (place : Place) → Agrees setting z (given v place) (given v place)
  given-agrees (value.Text t) place = gives_text-agrees t place
  given-agrees v place = gives v
