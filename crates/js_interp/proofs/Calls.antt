-- The call of the script's function.
use Rattle.std.proofs.Common.{◌≡◌, ℕ, List, [], ◌∷◌, Option, Some, None, Result, Ok, Err, refl, ap, subst}
use Rattle.std.specs.Result.{IsErrAnd}
use Rattle.js_tree.specs.Tree.{FunctionTree}
use Rattle.heap_values.specs.declared.ids.ObjectId.{ObjectId}
use Rattle.heap_values.specs.declared.built_in.BuiltIn.TheVariants as built_in
use Rattle.heap_values.specs.declared.value.Value.{Value}
use Rattle.heap_values.specs.declared.value.Value.TheVariants as value
use Rattle.object_heap.specs.Fresh.{built_in_number}
use Rattle.run_trees.specs.Runs.{◌>>=◌}
use Rattle.js_evaluation.specs.Scoping.{by_slots}
use Rattle.js_evaluation.specs.Parts.{call_part, outside}
use Rattle.js_evaluation.specs.State.{Stop, Does, test_text, built_in_object, global_object}
use Rattle.js_evaluation.specs.Evaluation as def
use Rattle.js_evaluation.specs.Evaluation.{evaluation, called_for, entry_in}
use Rattle.js_evaluation.specs.declared.fault.FaultCode.TheVariants as code
use Rattle.js_host.specs.Seen.{Seen}
use Rattle.run_trees.specs.RunTree.{walk}
use Rattle.heap_steps.specs.declared.halt.Halt.{Halt}
use Rattle.heap_steps.specs.declared.halt.Halt.TheVariants as halt
use Rattle.heap_steps.specs.Works.{Works}
use Rattle.heap_steps.proofs.Chains.{chained, stops}
use Rattle.js_machine.specs.declared.machine.Machine.{Machine}
use Rattle.js_machine.specs.declared.now.Now.TheVariants as now
use Rattle.js_machine.specs.declared.now.Part.TheVariants as part
use Rattle.js_machine.specs.Moves.{functions_of, run_state}
use Rattle.js_runs.specs.declared.running.Cut.{Cut}
use Rattle.js_runs.specs.declared.running.Cut.TheVariants as cut
use Rattle.js_runs.specs.Closes.{Closes}
use Rattle.js_interp.specs.Runs.{Reaches, RunsBy, called}
use Rattle.js_interp.proofs.Runs.{loop_runs, heap_then, heap_stops}
use Rattle.js_evaluation.specs.declared.limits.TheConstants.{MOST_OPEN}

module _ (functions : List FunctionTree) (entry : def.Entry) (m : Machine) (before : Seen) (r : Result (Result Value Stop) Cut) (m' : Machine) (after : Seen) where
  -- the function of the script is called
  pub found_runs : (f : Option ObjectId) → f ≡ entry_in m.state.heap
      → RunsBy (called_for by_slots functions entry f) m before r m' after → RunsBy (called functions entry) m before r m' after
  found_runs f is k last =
      subst (λ (g : Option ObjectId). Reaches last (walk (called_for by_slots functions entry g last (run_state m.state)) before) r m' after) is (k last)

-- there is none
not_found : (functions : List FunctionTree) (entry : def.Entry) (m : Machine) (before : Seen)
    → RunsBy (called_for by_slots functions entry None) m before (Err (cut.Halt (halt.Fault code.NoEntry outside))) m before
unfolding walk
not_found functions entry m before last = refl

pub none_runs : (functions : List FunctionTree) (entry : def.Entry) (m : Machine) (before : Seen) (f : Option ObjectId)
    → f ≡ entry_in m.state.heap → ((id : ObjectId) → f ≡ Some id → ⊥)
    → RunsBy (called functions entry) m before (Err (cut.Halt (halt.Fault code.NoEntry outside))) m before
none_runs functions entry m before (Some id) is none = absurd (none id refl)
none_runs functions entry m before None is none =
    found_runs functions entry m before (Err (cut.Halt (halt.Fault code.NoEntry outside))) m before None is (not_found functions entry m before)

module _ (functions : List FunctionTree) (entry : def.Entry) (f : ObjectId) (m : Machine) (before : Seen) (r : Result (Result Value Stop) Cut) where
  abbrev of_url : Does (Unit {0})
  of_url = test_text entry.url outside

  abbrev of_host : Does (Unit {0})
  of_host = test_text entry.host outside

  abbrev entered : Does Value
  entered = (evaluation by_slots functions MOST_OPEN).value (call_part f global_object (value.Text entry.url ∷ value.Text entry.host ∷ []) outside)

  -- both texts are short enough
  pub tested_runs : (m' : Machine) (after : Seen) → Works of_url m.state.heap (Ok tt) m.state.heap → Works of_host m.state.heap (Ok tt) m.state.heap
      → RunsBy entered m before r m' after → RunsBy (called_for by_slots functions entry (Some f)) m before r m' after
  tested_runs m' after url host k =
      heap_then (of_url >>= (λ _. of_host)) (λ _. entered) m before m.state.heap tt r m' after
      (chained of_url (λ _. of_host) m.state.heap m.state.heap tt (Ok tt) m.state.heap url host) k

  -- one of them isn't
  pub url_stops : (e : Halt) → IsErrAnd r (λ x. x ≡ cut.Halt e) → Works of_url m.state.heap (Err e) m.state.heap → RunsBy (called_for by_slots functions entry (Some f)) m before r m before
  url_stops e i url =
      heap_stops (of_url >>= (λ _. of_host)) (λ _. entered) m before m.state.heap r e i
      (stops of_url (λ _. of_host) m.state.heap m.state.heap (Err e) e refl url)

  pub host_stops : (e : Halt) → IsErrAnd r (λ x. x ≡ cut.Halt e) → Works of_url m.state.heap (Ok tt) m.state.heap → Works of_host m.state.heap (Err e) m.state.heap
      → RunsBy (called_for by_slots functions entry (Some f)) m before r m before
  host_stops e i url host =
      heap_stops (of_url >>= (λ _. of_host)) (λ _. entered) m before m.state.heap r e i
      (chained of_url (λ _. of_host) m.state.heap m.state.heap tt (Err e) m.state.heap url host)

-- the loop does the call
pub call_runs : (entry : def.Entry) (f global : ObjectId) (arguments : List Value) (m : Machine) (before : Seen) (r : Result (Result Value Stop) Cut) (m' : Machine) (after : Seen)
    → m.frames ≡ [] → global.0 ≡ built_in_number built_in.Global → arguments ≡ value.Text entry.url ∷ value.Text entry.host ∷ []
    → Closes m (now.Begin (part.Call f (value.Object global) arguments outside)) before r m' after
    → RunsBy ((evaluation by_slots (functions_of m) MOST_OPEN).value (call_part f global_object (value.Text entry.url ∷ value.Text entry.host ∷ []) outside)) m before r m' after
call_runs entry f global arguments m before r m' after empty is handed k =
    let same : global ≡ built_in_object built_in.Global = ap (λ (n : ℕ). record { 0 = n }) is in
    subst (λ (vs : List Value). RunsBy ((evaluation by_slots (functions_of m) MOST_OPEN).value (call_part f global_object vs outside)) m before r m' after) handed
    (subst (λ (id : ObjectId). RunsBy ((evaluation by_slots (functions_of m) MOST_OPEN).value (call_part f (value.Object id) arguments outside)) m before r m' after) same
    (loop_runs m (part.Call f (value.Object global) arguments outside) before r m' after empty k))
