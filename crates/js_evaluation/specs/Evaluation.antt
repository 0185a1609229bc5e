-- Evaluation: what each part of a script does, with so much room left in depth; and one run of a script, by its names
-- or by slots.
use Rattle.std.specs.Prelude.{ℕ, zero, suc, List, [], ◌∷◌, take, Option, Some, None, Ok, Err, if◌then◌else◌, codes}
use Rattle.std.specs.Option.{option_or}
use Rattle.js_tree.specs.declared.place.Place.{Place}
use Rattle.js_tree.specs.Tree.{FunctionTree, StatementTree, Statements}
use Rattle.js_binding.specs.Numbered.{numbered_script}
use Rattle.heap_values.specs.declared.found.Found.{Found}
use Rattle.heap_values.specs.declared.found.Found.TheVariants as found
use Rattle.heap_values.specs.declared.ids.Kind.{Kind}
use Rattle.heap_values.specs.declared.ids.Kind.TheVariants as kind
use Rattle.heap_values.specs.declared.ids.ObjectId.{ObjectId}
use Rattle.heap_values.specs.declared.ids.ScopeId.{ScopeId}
use Rattle.heap_values.specs.declared.value.Value.{Value}
use Rattle.heap_values.specs.declared.value.Value.TheVariants as value
use Rattle.heap_values.specs.Views.{HeapView}
use Rattle.object_heap.specs.Fresh.{fresh_heap}
use Rattle.object_heap.specs.Heap.{object_at, kind_in, found_of}
use Rattle.js_convert.specs.Texts.{text_of}
use Rattle.js_host.specs.Answers.{AnswerMap}
use Rattle.js_host.specs.Seen.{kept_alerts}
use Rattle.run_trees.specs.declared.abrupt.Abrupt.TheVariants as ending
use Rattle.run_trees.specs.RunTree.{RunTree, Done}
use Rattle.run_trees.specs.Runs.{reading, ◌>>◌}
use Rattle.run_trees.specs.WholeRun.{whole_run}
use Rattle.pac_calendar.specs.declared.moment.Moments.{Moments}
use Rattle.pac_functions.specs.declared.call.PacSettings.{PacSettings}
use Rattle.js_evaluation.specs.declared.fault.Fault.{Fault}
use Rattle.js_evaluation.specs.declared.fault.FaultCode.TheVariants as code
use Rattle.js_evaluation.specs.State.{RunState, nameless, RunEnd, Comes, Faults, Does, fault, charge, test_text, global_object}
use Rattle.js_evaluation.specs.Objects.{global_id, is_callable}
use Rattle.js_evaluation.specs.Scoping.{Scoping, by_names, by_slots}
use Rattle.js_evaluation.specs.Parts.{Part, expression_part, statement_part, call_part, construct_part, load_part, Within, expression_place, part_place, outside}
use Rattle.js_evaluation.specs.NativeWork.{class_of_kind}
use Rattle.js_evaluation.specs.Natives.{joined}
use Rattle.js_evaluation.specs.Expressions.{expression_node, target_node}
use Rattle.js_evaluation.specs.Statements.{statement_node}
use Rattle.js_evaluation.specs.Entries.{call_node, construct_node, load_node}
use Rattle.js_evaluation.specs.declared.limits.TheConstants.{MOST_OPEN}
use Rattle.js_host.specs.declared.limits.TheConstants.{MOST_UNITS}

-- ---- one part, by what is made of the parts within

module _ (scoping : Scoping) (functions : List FunctionTree) (go : Within) where
  abbrev pub node : Part → Does Value
  node (expression_part cx e) = expression_node scoping functions go cx e
  node (statement_part cx s) = statement_node scoping functions go cx s
  node (call_part f this vs p) = call_node scoping functions go f this vs p
  node (construct_part f vs p) = construct_node scoping functions go f vs p
  node (load_part outer ss) = load_node scoping functions go outer ss outside

-- ---- with so many parts that may still be opened

-- Each part is charged before it is done; past the most open parts it is a fault.
unfoldable pub evaluation : Scoping → List FunctionTree → ℕ → Within
evaluation scoping functions zero = record {
  value = λ part. charge (part_place part) >> fault code.TooDeep (part_place part);
  reference = λ cx e. charge (expression_place e) >> fault code.TooDeep (expression_place e);
}
evaluation scoping functions (suc room) = record {
  value = λ part. charge (part_place part) >> node scoping functions (evaluation scoping functions room) part;
  reference = λ cx e. charge (expression_place e) >> target_node scoping functions (evaluation scoping functions room) cx e;
}

-- ---- a run

-- what a run is for: the URL and its host as the script sees them, what clocks show, the settings, and the fuel
pub record Entry : Type 0 where
  pub url : List ℕ
  pub host : List ℕ
  pub now : Moments
  pub settings : PacSettings
  pub fuel : ℕ

-- the outermost scope, which has no names: behind it stands the global object (10.2.3)
abbrev pub outer_scope : ScopeId
outer_scope = record { 0 = 0 }

-- the function that is found, where it is one
abbrev pub function_of : HeapView → Found → Option ObjectId
function_of h (found.Value (value.Object id)) = if is_callable h (value.Object id) then Some id else None
function_of h f = None

-- the function that a global name stands for
abbrev pub function_named : HeapView → List ℕ → Option ObjectId
function_named h name = function_of h (found_of h global_id name)

-- the function of a script that is called: `FindProxyForURLEx` where there is one, else `FindProxyForURL`
abbrev pub entry_in : HeapView → Option ObjectId
entry_in h = option_or (function_named h (codes "FindProxyForURLEx")) (function_named h (codes "FindProxyForURL"))

-- a script is loaded in the outermost scope
abbrev pub loaded : Scoping → List FunctionTree → Statements → Does Value
loaded scoping functions ss = (evaluation scoping functions MOST_OPEN).value (load_part outer_scope ss)

module _ (scoping : Scoping) (functions : List FunctionTree) (entry : Entry) where
  -- the two texts are tested, and then the function is called
  abbrev pub called_for : Option ObjectId → Does Value
  called_for None = fault code.NoEntry outside
  called_for (Some f) =
      test_text entry.url outside >> test_text entry.host outside
      >> (evaluation scoping functions MOST_OPEN).value (call_part f global_object (value.Text entry.url ∷ value.Text entry.host ∷ []) outside)

  -- the script is loaded, and then its function is called with the URL and the host
  abbrev pub script_run : Statements → Does Value
  script_run ss = loaded scoping functions ss >> reading (λ s. called_for (entry_in s.heap))

-- at the beginning the heap holds the built-in objects alone
abbrev pub fresh_state : Scoping → Option Moments → PacSettings → ℕ → RunState
fresh_state scoping now settings fuel =
    record { heap = fresh_heap; fuel = fuel; now = now; settings = settings; names = scoping.outermost }

abbrev pub first_state : Scoping → Entry → RunState
first_state scoping entry = fresh_state scoping (Some entry.now) entry.settings entry.fuel

-- a run as a tree of what it asks of its host
abbrev pub tree_by : Scoping → Statements → List FunctionTree → Entry → RunTree RunEnd
tree_by scoping ss functions entry =
    script_run scoping functions entry ss (λ result state. Done (Comes result (nameless state))) (first_state scoping entry)

-- the run of a script by its names
abbrev pub run_by_names : List StatementTree → Entry → RunTree RunEnd
run_by_names script entry = tree_by by_names (numbered_script script).0 (numbered_script script).1 entry

-- the run of a program whose names have their slots
abbrev pub run_tree : Statements → List FunctionTree → Entry → RunTree RunEnd
run_tree ss functions entry = tree_by by_slots ss functions entry

-- the load of a program for runs at any moment, to which no clock is shown
abbrev pub load_tree : Statements → List FunctionTree → PacSettings → ℕ → RunTree RunEnd
load_tree ss functions settings fuel =
    loaded by_slots functions ss (λ result state. Done (Comes result state)) (fresh_state by_slots None settings fuel)

-- ---- how a run ended

-- the text of a value that was thrown and that nothing handled; no script is run for it
abbrev pub text_under : Found → List ℕ
text_under (found.Value (value.Text t)) = t
text_under f = []

abbrev pub object_thrown : HeapView → ObjectId → Kind → List ℕ
object_thrown h id kind.Error = joined (text_under (found_of h id (codes "name"))) (text_under (found_of h id (codes "message")))
object_thrown h id k = class_of_kind k

abbrev pub thrown_text : HeapView → Value → List ℕ
thrown_text h (value.Object id) = object_thrown h id (kind_in (object_at h id))
thrown_text h v = text_of v

-- A run gives a text as its result, or ends in a fault.
pub data Ending : Type 0 where
  Gives : List ℕ → Ending
  Fails : Fault → Ending

abbrev pub not_a_string : Ending
not_a_string = Fails (record { code = code.NotAString; place = outside; detail = [] })

abbrev pub uncaught : HeapView → Value → Place → Ending
uncaught h v place = Fails (record { code = code.Uncaught; place = place; detail = take MOST_UNITS (thrown_text h v) })

abbrev pub ending_of : RunEnd → Ending
ending_of (Faults f) = Fails f
ending_of (Comes (Ok (value.Text t)) state) = Gives t
ending_of (Comes (Ok v) state) = not_a_string
ending_of (Comes (Err (ending.Thrown thrown)) state) = uncaught state.heap thrown.value thrown.place
ending_of (Comes (Err stop) state) = not_a_string

-- the outcome of a run: how it ended, and the alerts that are kept
pub record Outcome : Type 0 where
  pub ending : Ending
  pub alerts : List (List ℕ)

-- one uninterrupted run against a map of all names
abbrev pub outcome_of : RunTree RunEnd → AnswerMap → Outcome
outcome_of run answers =
    let whole = whole_run answers run in
    record { ending = ending_of whole.end; alerts = kept_alerts whole.alerts }
