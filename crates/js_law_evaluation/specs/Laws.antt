-- Evaluation gives an end: nothing is hidden in what comes after a part. It asks its host for lookup names alone. And a
-- load to which no clock is shown, and which needs none, is the load at each moment.
-- Each law is stated over the way in which a run has its scopes, and holds by names and by slots.
use Rattle.std.specs.Prelude.{◌≡◌, ℕ, List, [], IsTrue, Some, None, Result}
use Rattle.pac_names.specs.Names.{is_lookup_name}
use Rattle.js_tree.specs.Tree.{ExpressionTree, FunctionTree, Statements}
use Rattle.js_host.specs.Seen.{Reply, Seen, fresh}
use Rattle.run_trees.specs.RunTree.{RunTree, Done, Ask, Tell, Ended, walk}
use Rattle.run_trees.specs.OneEnd.{HasOneEnd}
use Rattle.js_evaluation.specs.Objects.{Context}
use Rattle.js_evaluation.specs.Scoping.{Scoping}
use Rattle.js_evaluation.specs.Parts.{Part}
use Rattle.js_evaluation.specs.Evaluation.{Entry, evaluation, script_run, tree_by, loaded, load_tree, fresh_state}
use Rattle.js_evaluation.specs.State.{RunState, Comes, AfterValue, Stop}
use Rattle.pac_calendar.specs.declared.moment.Moments.{Moments}
use Rattle.pac_functions.specs.declared.call.PacSettings.{PacSettings}
use Rattle.heap_values.specs.declared.value.Value.{Value}
use Rattle.js_host.specs.Answers.{Knowledge, partly}
use Rattle.js_evaluation.specs.Scoping.{by_slots}
use Rattle.std.specs.FinMap as map

-- Each part comes to one end, state, alerts and names asked, with each number of parts that may still be opened; and so
-- does each expression up to what it refers to.
abbrev pub EvaluationHasOneEnd : Scoping → Type 0
EvaluationHasOneEnd scoping =
    (functions : List FunctionTree) (room : ℕ)
    → ((part : Part) → HasOneEnd ((evaluation scoping functions room).value part))
    × ((cx : Context) (e : ExpressionTree) → HasOneEnd ((evaluation scoping functions room).reference cx e))

-- And so does a run of a script, before what is made of its end.
abbrev pub RunsHaveOneEnd : Scoping → Type 0
RunsHaveOneEnd scoping =
    (ss : Statements) (functions : List FunctionTree) (entry : Entry)
    → HasOneEnd (script_run scoping functions entry ss)

-- A run asks for lookup names alone, whatever it is replied.
unfoldable pub AsksLookupNames : {End : Type 0} → RunTree End → Type 0
AsksLookupNames (Done end) = Unit {0}
AsksLookupNames (Ask name next) = IsTrue (is_lookup_name name) × ((reply : Reply) → AsksLookupNames (next reply))
AsksLookupNames (Tell text next) = AsksLookupNames next

-- And so does each run of a script.
abbrev pub RunsAskLookupNames : Scoping → Type 0
RunsAskLookupNames scoping =
    (ss : Statements) (functions : List FunctionTree) (entry : Entry)
    → AsksLookupNames (tree_by scoping ss functions entry)

-- the state, where clocks show this
abbrev pub at_moment : Moments → RunState → RunState
at_moment m s = record s { now = Some m }

-- a host that was asked nothing, and has kept these alerts
abbrev pub heard : Knowledge → List (List ℕ) → Seen
heard known alerts = record { known = known; asked = []; alerts = alerts }

-- A load for runs at any moment, which comes to its end over a host that knows nothing, is the load at each moment over
-- each host: it comes to the same end with the same alerts, and what comes after it goes on from there.
abbrev pub LoadsAtEachMoment : Type 0
LoadsAtEachMoment =
    (ss : Statements) (functions : List FunctionTree) (settings : PacSettings) (fuel : ℕ)
    (result : Result Value Stop) (state : RunState) (seen : Seen)
    → walk (load_tree ss functions settings fuel) (fresh (partly map.empty)) ≡ Ended (Comes result state) seen
    → (m : Moments) (known : Knowledge) (after : AfterValue)
    → walk (loaded by_slots functions ss after (fresh_state by_slots (Some m) settings fuel)) (fresh known)
    ≡ walk (after result (at_moment m state)) (heard known seen.alerts)
