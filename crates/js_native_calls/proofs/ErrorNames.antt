-- The name of an error is read, and becomes a text (ECMA-262 5.1, section 15.11.4.4).
use Rattle.std.proofs.Common.{◌≡◌, ℕ, List, [], codes, Ok, Result, sym, subst}
use Rattle.js_tree.specs.declared.place.Place.{Place}
use Rattle.heap_values.specs.declared.ids.ObjectId.{ObjectId}
use Rattle.heap_values.specs.declared.value.Value.{Value}
use Rattle.heap_values.specs.declared.value.Value.TheVariants as value
use Rattle.heap_values.specs.Views.{HeapView}
use Rattle.js_convert.specs.Texts.{text_of}
use Rattle.run_trees.specs.Runs.{pure, ◌>>=◌}
use Rattle.js_evaluation.specs.State.{Does}
use Rattle.js_evaluation.specs.Handed.{gives_text}
use Rattle.js_evaluation.specs.Objects.{get}
use Rattle.js_evaluation.specs.Conversions.{primitive_by, text_methods}
use Rattle.js_evaluation.specs.Natives.{joined, text_or}
use Rattle.js_frames.specs.declared.wanted.Wanted.TheVariants as wanted
use Rattle.js_frames.specs.RestOf.{with_primitive}
use Rattle.js_evaluation.specs.Parts.{calls}
use Rattle.heap_steps.specs.declared.halt.Halt.{Halt}
use Rattle.heap_steps.specs.Works.{Works}
use Rattle.js_machine.specs.declared.machine.Machine.{Machine}
use Rattle.js_machine.specs.declared.now.Now.{Now}
use Rattle.js_machine.specs.Moves.{Leads, Moves, at, inner}
use Rattle.js_machine.proofs.Steps.{with_heap, works_then}
use Rattle.js_native_calls.specs.Calls.{converted, name_or_error, text_of_error}
use Rattle.js_native_calls.proofs.Grouping.{grouped}
use Rattle.js_native_calls.proofs.Objects.{text_of_name}

module _ (m : Machine) (error : ObjectId) (place : Place) (h : HeapView) (v : Value) (got : Works (get (value.Object error) (codes "name") place) m.state.heap (Ok v) h)
    (r : Result Now Halt) (m' : Machine) where
  abbrev message_of : List ℕ → Does Value
  message_of name = get (value.Object error) (codes "message") place >>= (λ w. text_or (calls (inner m)) [] w place
      >>= (λ message. gives_text (joined name message) place))

  abbrev named : Value → Does Value
  named w = text_or (calls (inner m)) (codes "Error") w place >>= message_of

  -- an object is asked
  pub asked_name : (id : ObjectId) → v ≡ value.Object id
      → Leads (at m converted text_methods id place (wanted.ErrorName error place)) (with_heap m h) r m' → Moves (at m text_of_error error place) m r m'
  asked_name id e k =
      works_then (get (value.Object error) (codes "name") place) named m h v got
      (subst (λ (w : Value). Moves (named w) (with_heap m h) r m') (sym e)
      (grouped (primitive_by (calls (inner m)) text_methods id place) (λ p. pure (text_of p)) message_of (with_heap m h) r m' k))

  pub plain_name : ((id : ObjectId) → v ≡ value.Object id → ⊥)
      → Leads (at m with_primitive (wanted.ErrorName error place) (name_or_error v)) (with_heap m h) r m' → Moves (at m text_of_error error place) m r m'
  plain_name n k =
      works_then (get (value.Object error) (codes "name") place) named m h v got
      (subst (λ (p : Does (List ℕ)). Moves (p >>= message_of) (with_heap m h) r m') (sym (text_of_name (calls (inner m)) v place n)) k)
