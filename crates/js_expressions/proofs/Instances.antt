-- `instanceof`, by whether its right side can be called (ECMA-262 5.1, section 11.8.6).
use Rattle.std.proofs.Common.{◌≡◌, Bool, Some, None, Result, codes, ap, if◌then◌else◌}
use Rattle.js_tree.specs.declared.place.Place.{Place}
use Rattle.heap_values.specs.declared.ids.ObjectId.{ObjectId}
use Rattle.heap_values.specs.declared.value.Value.{Value}
use Rattle.run_trees.specs.Runs.{onward}
use Rattle.js_evaluation.specs.State.{throw_type_error, AfterValue}
use Rattle.js_evaluation.specs.Objects.{is_callable}
use Rattle.js_evaluation.specs.Conversions as convert
use Rattle.js_frames.specs.declared.wanted.Operated.{Operated}
use Rattle.js_frames.specs.RestOf.{after_operator}
use Rattle.js_evaluation.specs.Parts.{calls}
use Rattle.heap_steps.specs.declared.halt.Halt.{Halt}
use Rattle.heap_steps.specs.Works.{called_object}
use Rattle.js_machine.specs.declared.machine.Machine.{Machine}
use Rattle.js_machine.specs.declared.now.Now.{Now}
use Rattle.js_machine.specs.Moves.{Moves, at, run_state, inner}
use Rattle.js_expressions.specs.Operators.{instance_of, instance_by}
use Rattle.js_native_calls.proofs.Objects.{called_true, called_none}
use Rattle.js_native_calls.proofs.Steps.{moves_as}

module _ (m : Machine) (v f : Value) (place : Place) (next : Operated) (r : Result Now Halt) (m' : Machine) where
  by_test : {b : Bool} → is_callable m.state.heap f ≡ b → (after : AfterValue)
      → at m instance_of v f place next after (run_state m.state)
      ≡ (if b then convert.instance_of_by (calls (inner m)) v f place else throw_type_error (codes "not a function") place) (onward (at m after_operator next) after) (run_state m.state)
  by_test e after = ap (λ b. (if b then convert.instance_of_by (calls (inner m)) v f place else throw_type_error (codes "not a function") place) (onward (at m after_operator next) after) (run_state m.state)) e

  pub uncalled_instance : called_object m.state.heap f ≡ None → Moves (throw_type_error (codes "not a function") place) m r m' → Moves (at m instance_of v f place next) m r m'
  uncalled_instance e k = moves_as _ m _ r m' (by_test (called_none m.state.heap f e)) k

  pub called_instance : (g : ObjectId) → called_object m.state.heap f ≡ Some g → Moves (at m instance_by v f place next) m r m' → Moves (at m instance_of v f place next) m r m'
  called_instance g e k = moves_as _ m _ r m' (by_test (called_true m.state.heap f g e)) k
