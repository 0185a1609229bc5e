-- What a step of the machine ensures: what is left of the run stays, and the step is one of finitely many.
use Rattle.std.specs.Prelude.{◌≡◌, ℕ, ◌+◌, ◌*◌, ◌<◌, ◌≤◌, List, length, map, Result, Ok, Err}
use Rattle.js_tree.specs.declared.place.Place.{Place}
use Rattle.js_tree.specs.declared.statement.Declared.{Declared}
use Rattle.js_tree.specs.Tree.{ExpressionTree, StatementTree, FunctionTree, Var, statements_of}
use Rattle.js_tree.specs.View.{function_of, declarations_of}
use Rattle.heap_values.specs.declared.ids.ObjectId.{ObjectId}
use Rattle.heap_values.specs.declared.ids.ScopeId.{ScopeId}
use Rattle.heap_values.specs.declared.value.Value.{Value}
use Rattle.run_trees.specs.declared.abrupt.Abrupt.TheVariants as ending
use Rattle.run_trees.specs.RunTree.{RunTree, Done}
use Rattle.run_trees.specs.Runs.{ends}
use Rattle.js_evaluation.specs.Scoping.{by_slots}
use Rattle.js_evaluation.specs.State.{RunState, RunEnd, Faults, Stop, Does, AfterValue}
use Rattle.js_evaluation.specs.Objects.{Context}
use Rattle.js_evaluation.specs.PacNatives.{pac_work}
use Rattle.js_evaluation.specs.Parts as def
use Rattle.js_evaluation.specs.Expressions.{expression_node, target_node}
use Rattle.js_evaluation.specs.Statements.{statement_node}
use Rattle.js_evaluation.specs.Entries.{call_node, construct_node, load_node}
use Rattle.js_evaluation.specs.Evaluation.{outer_scope, evaluation}
use Rattle.js_frames.specs.declared.frame.Frame.{Frame}
use Rattle.js_frames.specs.Parts.{context_of, reference_of}
use Rattle.js_frames.specs.Rests.{after_reference, DoesEither, giving, referring}
use Rattle.js_evaluation.specs.Parts.{Reference, Within, expression_place, statement_place, outside, visit, refer}
use Rattle.js_frames.specs.RestOf.{rest_of_frame, room, within, rest_of}
use Rattle.heap_steps.specs.declared.halt.Halt.{Halt}
use Rattle.heap_steps.specs.declared.halt.Halt.TheVariants as halt
use Rattle.js_machine.specs.declared.machine.Machine.{Machine}
use Rattle.js_machine.specs.declared.machine.State.{State}
use Rattle.js_machine.specs.declared.now.Now.{Now}
use Rattle.js_machine.specs.declared.now.Now.TheVariants as now
use Rattle.js_machine.specs.declared.now.Part.{Part}
use Rattle.js_machine.specs.declared.now.Part.TheVariants as part
use Rattle.heap_steps.specs.Works.{Beside, state_with, plain_fault, left_out}

abbrev pub functions_of : Machine → List FunctionTree
functions_of m = map function_of m.functions.now

abbrev pub beside_of : State → Beside
beside_of s = record { now = s.now; settings = s.settings }

abbrev pub run_state : State → RunState
run_state s = state_with s.heap s.fuel (beside_of s)

-- evaluation of the parts of the node that the machine is in
abbrev pub inner : Machine → Within
inner m = within (functions_of m) m.frames

-- a rule of evaluation, in the node and the context that the machine is in
abbrev pub at : {A : Type 0} → Machine → (List FunctionTree → Within → Context → A) → A
at m rule = rule (functions_of m) (inner m) (context_of m.context)

-- a rule that is the same in each context
abbrev pub anywhere : {A : Type 0} → Machine → (List FunctionTree → Within → A) → A
anywhere m rule = rule (functions_of m) (inner m)

-- an expression within that node, up to its value and up to its reference
abbrev pub visited : Machine → ExpressionTree → Does Value
visited m e = visit (inner m) (context_of m.context) e

abbrev pub visited_target : Machine → ExpressionTree → Does Reference
visited_target m e = refer (inner m) (context_of m.context) e

-- A part, and then what the open parts make of what it gives; last: what comes after the outermost.
abbrev pub left : AfterValue → Machine → DoesEither → RunTree RunEnd
left last m part = part (rest_of (functions_of m) last m.frames) (run_state m.state)

-- ---- what is to be done

-- a part, by what evaluation makes of parts; cx: where the code runs that begins it
abbrev pub begun : Within → Context → Part → DoesEither
begun go cx (part.Expression e) = giving (go.value (def.expression_part cx e.now))
begun go cx (part.Target e) = referring (go.reference cx e.now)
begun go cx (part.Statement s) = giving (go.value (def.statement_part cx s.now))
begun go cx (part.Declare place all) = giving (go.value (def.statement_part cx (Var place (declarations_of all.now))))
begun go cx (part.Call f this vs place) = giving (go.value (def.call_part f this vs place))
begun go cx (part.Construct f vs place) = giving (go.value (def.construct_part f vs place))
begun go cx (part.Load body) = giving (go.value (def.load_part outer_scope (statements_of body.now)))

abbrev pub part_place : Part → Place
part_place (part.Expression e) = expression_place e.now
part_place (part.Target e) = expression_place e.now
part_place (part.Statement s) = statement_place s.now
part_place (part.Declare place all) = place
part_place (part.Call f this vs place) = place
part_place (part.Construct f vs place) = place
part_place (part.Load body) = outside

abbrev pub doing : Within → Context → Now → DoesEither
doing go cx (now.Begin p) = begun go cx p
doing go cx (now.Back result) = giving (ends result)
doing go cx (now.Refers r) = λ rest. rest.referred (reference_of r)
doing go cx (now.Host f vs place) = giving (pac_work f vs place)

-- what is to be done, and then what the open parts make of it
abbrev pub present : AfterValue → Machine → Now → RunTree RunEnd
present last m what = left last m (doing (evaluation by_slots (functions_of m) (room m.frames)) (context_of m.context) what)

-- ---- steps

-- what is to be done, or the end of the whole run, is what is left
abbrev pub Goes : AfterValue → RunTree RunEnd → Result Now Halt → Machine → Type 0
Goes last tree (Ok what) m = tree ≡ present last m what
Goes last tree (Err (halt.Throw thrown)) m = tree ≡ present last m (now.Back (Err (ending.Thrown thrown)))
Goes last tree (Err (halt.Fault code place)) m = tree ≡ Done (Faults (plain_fault code place))
Goes last tree (Err (halt.LeftOut name place)) m = tree ≡ Done (Faults (left_out name place))
Goes last tree (Err halt.Memory) m = Unit {0}

-- an end takes one step more than a visit, and a call of the host one more than its end
abbrev pub waits : Now → ℕ
waits (now.Begin p) = 0
waits (now.Back result) = 1
waits (now.Refers r) = 1
waits (now.Host f vs place) = 2

-- each visit takes fuel, and each end closes a part
abbrev pub weight : Machine → ℕ
weight m = 3 * m.state.fuel + 2 * length m.frames

abbrev pub Light : ℕ → Result Now Halt → Machine → Type 0
Light bound (Ok what) m = weight m + waits what < bound
Light bound (Err (halt.Throw thrown)) m = weight m + 1 < bound
Light bound (Err (halt.Fault code place)) m = Unit {0}
Light bound (Err (halt.LeftOut name place)) m = Unit {0}
Light bound (Err halt.Memory) m = Unit {0}

-- The machine goes on from this part as evaluation does, whatever comes after the outermost part.
pub record Leads (part : DoesEither) (m : Machine) (r : Result Now Halt) (m' : Machine) : Type 0 where
  pub goes : (last : AfterValue) → Goes last (left last m part) r m'
  pub light : Light (weight m + 3) r m'

-- the same from a part that gives a value, and from one that refers to something
abbrev pub Moves : Does Value → Machine → Result Now Halt → Machine → Type 0
Moves part = Leads (giving part)

abbrev pub Refers : Does Reference → Machine → Result Now Halt → Machine → Type 0
Refers part = Leads (referring part)

-- ---- opening a part

module _ (functions : List FunctionTree) (go : Within) (cx : Context) where
  -- a part within, with what is left then of the part around
  abbrev pub entered : def.Part → Frame → DoesEither
  entered part frame = λ rest. go.value part (rest_of_frame functions go cx frame rest).given

  abbrev pub evaluated : ExpressionTree → Frame → DoesEither
  evaluated e frame = entered (def.expression_part cx e) frame

  abbrev pub targeted : ExpressionTree → Frame → DoesEither
  targeted e frame = λ rest. go.reference cx e (after_reference (rest_of_frame functions go cx frame rest))

  abbrev pub executed : StatementTree → Frame → DoesEither
  executed s frame = entered (def.statement_part cx s) frame

  abbrev pub executed_in : ScopeId → StatementTree → Frame → DoesEither
  executed_in scope s frame = λ rest.
      go.value (def.statement_part (record { scope = scope; this = cx.this }) s) (rest_of_frame functions go cx frame rest).given

  abbrev pub declared : Place → List Declared → Frame → DoesEither
  declared place all frame = entered (def.statement_part cx (Var place (declarations_of all))) frame

  abbrev pub called : ObjectId → Value → List Value → Place → Frame → DoesEither
  called f this vs place frame = entered (def.call_part f this vs place) frame

  abbrev pub constructed : ObjectId → List Value → Place → Frame → DoesEither
  constructed f vs place frame = entered (def.construct_part f vs place) frame

  -- a part within ends while this one is open
  abbrev pub resumed : Frame → Result Value Stop → DoesEither
  resumed frame result = λ rest. (rest_of_frame functions go cx frame rest).given result

  -- an expression within refers to something
  abbrev pub reached : Frame → Reference → DoesEither
  reached frame r = λ rest. (rest_of_frame functions go cx frame rest).referred r

-- ---- beginning a part

-- its rule
abbrev pub rule_of : List FunctionTree → Within → Context → Part → DoesEither
rule_of functions go cx (part.Expression e) = giving (expression_node by_slots functions go cx e.now)
rule_of functions go cx (part.Target e) = referring (target_node by_slots functions go cx e.now)
rule_of functions go cx (part.Statement s) = giving (statement_node by_slots functions go cx s.now)
rule_of functions go cx (part.Declare place all) = giving (statement_node by_slots functions go cx (Var place (declarations_of all.now)))
rule_of functions go cx (part.Call f this vs place) = giving (call_node by_slots functions go f this vs place)
rule_of functions go cx (part.Construct f vs place) = giving (construct_node by_slots functions go f vs place)
rule_of functions go cx (part.Load body) = giving (load_node by_slots functions go outer_scope (statements_of body.now) outside)

-- the part is charged and begun
pub record Descended (place : Place) (m m' : Machine) : Type 0 where
  pub goes_in : (last : AfterValue) (cx : Context) (p : Part) → part_place p ≡ place
      → left last m (begun (evaluation by_slots (functions_of m) (room m.frames)) cx p) ≡ left last m' (rule_of (functions_of m') (inner m') cx p)
  pub around : m'.context ≡ m.context
  pub less : weight m' + 3 ≤ weight m

-- the run is at its end by a fault
abbrev pub Stops : RunTree RunEnd → Halt → Type 0
Stops tree (halt.Throw thrown) = ⊥
Stops tree (halt.Fault code place) = tree ≡ Done (Faults (plain_fault code place))
Stops tree (halt.LeftOut name place) = tree ≡ Done (Faults (left_out name place))
Stops tree halt.Memory = Unit {0}

abbrev pub Descends : Place → Machine → Result (Unit {0}) Halt → Machine → Type 0
Descends place m (Ok done) m' = Descended place m m'
Descends place m (Err e) m' = (last : AfterValue) (cx : Context) (p : Part) → part_place p ≡ place
    → Stops (left last m (begun (evaluation by_slots (functions_of m) (room m.frames)) cx p)) e
