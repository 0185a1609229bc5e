-- The methods of an object that are asked for a primitive value (ECMA-262 5.1, section 8.12.8).
use Rattle.std.proofs.Common.{◌≡◌, ℕ, List, [], ◌∷◌, Some, None, Ok, Err, Result, ap, ◌∙◌, if◌then◌else◌}
use Rattle.std.specs.Result.{IsErrAnd}
use Rattle.js_tree.specs.declared.place.Place.{Place}
use Rattle.heap_values.specs.declared.ids.ObjectId.{ObjectId}
use Rattle.heap_values.specs.declared.value.Value.{Value}
use Rattle.heap_values.specs.declared.value.Value.TheVariants as value
use Rattle.heap_values.specs.Views.{HeapView}
use Rattle.js_convert.specs.Operators.{is_object}
use Rattle.run_trees.specs.Runs.{pure, reading, onward, ◌>>=◌}
use Rattle.js_evaluation.specs.State.{Does}
use Rattle.js_evaluation.specs.Objects.{get, is_callable}
use Rattle.js_evaluation.specs.Conversions as convert
use Rattle.js_frames.specs.declared.frame.Frame.TheVariants as frame
use Rattle.js_frames.specs.declared.wanted.Methods.{Methods}
use Rattle.js_frames.specs.declared.wanted.Wanted.{Wanted}
use Rattle.js_frames.specs.Parts.{names_of}
use Rattle.js_evaluation.specs.Parts.{calls}
use Rattle.js_frames.specs.Rests.{Rest, DoesEither, either_after, ◌>=>◌}
use Rattle.js_frames.specs.RestOf.{with_primitive}
use Rattle.heap_steps.specs.declared.halt.Halt.{Halt}
use Rattle.heap_steps.specs.Works.{Works, called_object}
use Rattle.js_machine.specs.declared.machine.Machine.{Machine}
use Rattle.js_machine.specs.declared.now.Now.{Now}
use Rattle.js_machine.specs.Moves.{Leads, at, called, run_state, inner}
use Rattle.js_machine.proofs.Steps.{with_heap, works_either, either_stops}
use Rattle.js_native_calls.specs.Calls.{converted}
use Rattle.js_native_calls.proofs.Steps.{leads_as}
use Rattle.js_native_calls.proofs.Objects.{called_true, called_none, called_value}

module _ (m : Machine) (methods : Methods) (object : ObjectId) (place : Place) (wanted : Wanted) where
  -- what is taken of what a method gives
  abbrev taken : Value → Does Value
  taken v = if is_object v then convert.primitive_by (calls (inner m)) (names_of methods) object place else pure v

  -- a method is called where it can be, and else the next is asked
  abbrev tried : Value → DoesEither
  tried f = reading (λ s. if is_callable s.heap f then convert.call_value (calls (inner m)) f (value.Object object) [] place >>= taken
      else convert.primitive_by (calls (inner m)) (names_of methods) object place) >=> at m with_primitive wanted

  module _ (name : List ℕ) (h : HeapView) where
    pub get_stops : (r : Result Now Halt) (e : Halt) → IsErrAnd r (λ x. x ≡ e) → Works (get (value.Object object) name place) m.state.heap (Err e) h
        → Leads (at m converted (name ∷ names_of methods) object place wanted) m r (with_heap m h)
    get_stops r e i g = either_stops (get (value.Object object) name place) tried m h r e i g

    module _ (f : Value) (got : Works (get (value.Object object) name place) m.state.heap (Ok f) h) (r : Result Now Halt) (m' : Machine) where
      is_called : (g : ObjectId) → called_object h f ≡ Some g → (rest : Rest)
          → tried f rest (run_state (with_heap m h).state) ≡ at m called g (value.Object object) [] place (frame.Primitive object methods place wanted) rest (run_state (with_heap m h).state)
      is_called g e rest =
          ap (λ b. (if b then convert.call_value (calls (inner m)) f (value.Object object) [] place >>= taken else convert.primitive_by (calls (inner m)) (names_of methods) object place)
          (either_after (at m with_primitive wanted) rest) (run_state (with_heap m h).state)) (called_true h f g e)
          ∙ ap (λ (p : Does Value). p (onward taken (either_after (at m with_primitive wanted) rest)) (run_state (with_heap m h).state))
          (called_value (calls (inner m)) (value.Object object) [] place h f g e)

      pub called_method : (g : ObjectId) → called_object h f ≡ Some g
          → Leads (at m called g (value.Object object) [] place (frame.Primitive object methods place wanted)) (with_heap m h) r m'
          → Leads (at m converted (name ∷ names_of methods) object place wanted) m r m'
      called_method g e k = works_either (get (value.Object object) name place) tried m h f got (leads_as _ (with_heap m h) _ r m' (is_called g e) k)

      isnt_called : called_object h f ≡ None → (rest : Rest)
          → tried f rest (run_state (with_heap m h).state) ≡ at m converted (names_of methods) object place wanted rest (run_state (with_heap m h).state)
      isnt_called e rest =
          ap (λ b. (if b then convert.call_value (calls (inner m)) f (value.Object object) [] place >>= taken else convert.primitive_by (calls (inner m)) (names_of methods) object place)
          (either_after (at m with_primitive wanted) rest) (run_state (with_heap m h).state)) (called_none h f e)

      pub next_method : called_object h f ≡ None → Leads (at m converted (names_of methods) object place wanted) (with_heap m h) r m'
          → Leads (at m converted (name ∷ names_of methods) object place wanted) m r m'
      next_method e k = works_either (get (value.Object object) name place) tried m h f got (leads_as _ (with_heap m h) _ r m' (isnt_called e) k)
