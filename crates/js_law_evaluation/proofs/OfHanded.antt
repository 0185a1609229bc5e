-- What is given to a call has one end and asks for lookup names alone.
use Rattle.std.proofs.Common.{ℕ, List}
use Rattle.js_tree.specs.declared.place.Place.{Place}
use Rattle.heap_values.specs.declared.value.Value.{Value}
use Rattle.heap_values.specs.declared.value.Value.TheVariants as value
use Rattle.js_evaluation.specs.Handed.{gives_text, gives as given}
use Rattle.js_law_evaluation.proofs.OfState.{Ends, gives, ◌then◌, spend-ends}

pub gives_text-ends : (t : List ℕ) (place : Place) → Ends (gives_text t place)
gives_text-ends t place = spend-ends t place then gives (value.Text t)

pub given-ends : (v : Value) (place : Place) → Ends (given v place)
given-ends (value.Text t) place = gives_text-ends t place
given-ends v place = gives v
