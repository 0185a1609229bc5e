-- Calls: their arguments, and whether what is called can be (ECMA-262 5.1, section 11.2.3).
use Rattle.std.proofs.Common.{◌≡◌, List, [], ◌∷◌, ◌++◌, Some, None, Ok, Err, Result, codes, ap}
use Rattle.std.specs.Result.{IsErrAnd}
use Rattle.js_tree.specs.Tree.{ExpressionTree, Expressions, FunctionTree, an_expression}
use Rattle.js_tree.specs.View.{suffixes_of}
use Rattle.heap_values.specs.declared.ids.ObjectId.{ObjectId}
use Rattle.heap_values.specs.declared.value.Value.{Value}
use Rattle.js_evaluation.specs.State.{Does, global_object, throw_type_error, AfterValue}
use Rattle.js_evaluation.specs.Objects.{Context}
use Rattle.js_frames.specs.declared.expression_frame.OpenCall.{OpenCall}
use Rattle.js_frames.specs.declared.expression_frame.SuffixFrame.TheVariants as of_suffix
use Rattle.js_frames.specs.declared.frame.Frame.TheVariants as frame
use Rattle.js_evaluation.specs.Parts.{Within, calls}
use Rattle.js_frames.specs.Rests.{Rest, DoesEither, giving, either_after}
use Rattle.js_frames.specs.RestOf.{suffixes_by}
use Rattle.heap_steps.specs.declared.halt.Halt.{Halt}
use Rattle.heap_steps.specs.Works.{called_object}
use Rattle.js_machine.specs.declared.machine.Machine.{Machine}
use Rattle.js_machine.specs.declared.now.Now.{Now}
use Rattle.js_machine.specs.Moves.{Leads, Moves, at, called, run_state, inner, visited}
use Rattle.js_machine.specs.Leaves.{Reaches}
use Rattle.js_machine.proofs.Acting.{reached_either, reached_short, reached_none}
use Rattle.js_primary.specs.Calls.{call_value, arguments_from}
use Rattle.js_native_calls.proofs.Objects.{called_value, uncalled_value}
use Rattle.js_native_calls.proofs.Steps.{leads_as}

module _ (m : Machine) (call : OpenCall) (vs : List Value) (r : Result Now Halt) (m' : Machine) where
  abbrev behind : Rest → AfterValue
  behind = either_after (λ w. at m suffixes_by call.aim global_object w (suffixes_of call.rest.now))

  there : (f : ObjectId) → called_object m.state.heap call.callee ≡ Some f → (rest : Rest)
      → at m call_value call vs rest (run_state m.state)
      ≡ at m called f call.this vs call.place (frame.Suffix (of_suffix.Called call.aim call.rest)) rest (run_state m.state)
  there f e rest = ap (λ (p : Does Value). p (behind rest) (run_state m.state)) (called_value (calls (inner m)) call.this vs call.place m.state.heap call.callee f e)

  pub called_there : (f : ObjectId) → called_object m.state.heap call.callee ≡ Some f
      → Leads (at m called f call.this vs call.place (frame.Suffix (of_suffix.Called call.aim call.rest))) m r m' → Leads (at m call_value call vs) m r m'
  called_there f e k = leads_as _ m _ r m' (there f e) k

  nowhere : called_object m.state.heap call.callee ≡ None → (rest : Rest)
      → at m call_value call vs rest (run_state m.state) ≡ giving (throw_type_error (codes "not a function") call.place) rest (run_state m.state)
  nowhere e rest = ap (λ (p : Does Value). p (behind rest) (run_state m.state)) (uncalled_value (calls (inner m)) call.this vs call.place m.state.heap call.callee e)

  pub not_called : called_object m.state.heap call.callee ≡ None → Moves (throw_type_error (codes "not a function") call.place) m r m'
      → Leads (at m call_value call vs) m r m'
  not_called e k = leads_as _ m _ r m' (nowhere e) k

-- ---- an argument that is had at once

module _ (m m₁ : Machine) (call : OpenCall) (done : List Value) (e : ExpressionTree) (left : Expressions) (r : Result Now Halt) where
  -- what is done with its value
  abbrev with_argument : List FunctionTree → Within → Context → Value → DoesEither
  with_argument functions go cx v = arguments_from functions go cx call (done ++ v ∷ []) left

  pub argument_then : (v : Value) (m' : Machine) → Reaches (visited m e) m (Ok (Some v)) m₁ → Leads (at m₁ arguments_from call (done ++ v ∷ []) left) m₁ r m'
      → Leads (at m arguments_from call done (an_expression e left)) m r m'
  argument_then v m' k goes = reached_either (visited m e) with_argument m m₁ v r m' k goes

  pub argument_stops : (h : Halt) → IsErrAnd r (λ x. x ≡ h) → Reaches (visited m e) m (Err h) m₁
      → Leads (at m arguments_from call done (an_expression e left)) m r m₁
  argument_stops h i k = reached_short (visited m e) with_argument m m₁ r h i k

  -- where it is not, it is visited
  pub argument_visited : (m' : Machine) → Reaches (visited m e) m (Ok None) m₁ → Leads (at m₁ arguments_from call done (an_expression e left)) m₁ r m'
      → Leads (at m arguments_from call done (an_expression e left)) m r m'
  argument_visited m' k goes =
      reached_none (visited m e) (λ functions go cx. arguments_from functions go cx call done (an_expression e left)) m m₁ r m' k goes
