-- What the steps of a run of a program come to.
use Rattle.std.specs.Prelude.{◌≡◌, ℕ, List, [], Result, Ok, Err}
use Rattle.std.specs.Borrow.{Bor}
use Rattle.js_tree.specs.declared.expression.Function.{Function}
use Rattle.js_tree.specs.Tree.{FunctionTree}
use Rattle.heap_values.specs.declared.value.Value.{Value}
use Rattle.run_trees.specs.declared.abrupt.Abrupt.TheVariants as ending
use Rattle.js_host.specs.Seen.{Seen}
use Rattle.run_trees.specs.RunTree.{RunTree, Walked, Ended, Stopped, walk}
use Rattle.run_trees.specs.Runs.{reading}
use Rattle.js_evaluation.specs.State.{RunEnd, Faults, Stop, Does, AfterValue}
use Rattle.js_evaluation.specs.Scoping.{by_slots}
use Rattle.js_evaluation.specs.Evaluation as def
use Rattle.js_evaluation.specs.Evaluation.{called_for, entry_in, ending_of}
use Rattle.heap_steps.specs.declared.halt.Halt.TheVariants as halt
use Rattle.heap_steps.specs.Works.{plain_fault, left_out}
use Rattle.js_machine.specs.declared.machine.Machine.{Machine}
use Rattle.js_machine.specs.declared.machine.State.{State}
use Rattle.js_machine.specs.Moves.{run_state}
use Rattle.js_interp.specs.declared.outcome.Ending.{Ending}
use Rattle.js_runs.specs.declared.running.Cut.{Cut}
use Rattle.js_runs.specs.declared.running.Cut.TheVariants as cut
use Rattle.js_interp.specs.declared.one_run.Unfinished.{Unfinished}
use Rattle.js_interp.specs.declared.one_run.Unfinished.TheVariants as unfinished
use Rattle.js_interp.specs.Endings.{seen_ending}

-- the machine before anything is done in this state
pub record Begun (functions : Bor (List Function)) (state : State) (m : Machine) : Type 0 where
  pub functions_are : m.functions ≡ functions
  pub none_open : m.frames ≡ []
  pub state_is : m.state ≡ state

-- The run over the host comes to this end and state, whatever comes after it, or is at its end by a fault, or stops at a
-- name that the host lacks.
abbrev pub Reaches : AfterValue → Walked RunEnd → Result (Result Value Stop) Cut → Machine → Seen → Type 0
Reaches last walked (Ok end) m seen = walked ≡ walk (last end (run_state m.state)) seen
Reaches last walked (Err (cut.Halt (halt.Throw thrown))) m seen = walked ≡ walk (last (Err (ending.Thrown thrown)) (run_state m.state)) seen
Reaches last walked (Err (cut.Halt (halt.Fault code place))) m seen = walked ≡ Ended (Faults (plain_fault code place)) seen
Reaches last walked (Err (cut.Halt (halt.LeftOut name place))) m seen = walked ≡ Ended (Faults (left_out name place)) seen
Reaches last walked (Err (cut.Halt halt.Memory)) m seen = Unit {0}
Reaches last walked (Err (cut.Missing name)) m seen = walked ≡ Stopped name seen

-- no part is open, and the machine does this part to its end over the host
abbrev pub RunsBy : Does Value → Machine → Seen → Result (Result Value Stop) Cut → Machine → Seen → Type 0
RunsBy part m before r m' after = (last : AfterValue) → Reaches last (walk (part last (run_state m.state)) before) r m' after

-- the call of the script's function, once the script is loaded
abbrev pub called : List FunctionTree → def.Entry → Does Value
called functions entry = reading (λ s. called_for by_slots functions entry (entry_in s.heap))

-- the run ends so over the host
pub record EndsAs (run : RunTree RunEnd) (before : Seen) (ending : Ending) (after : Seen) : Type 0 where
  pub end : RunEnd
  pub is : walk run before ≡ Ended end after
  pub ends : ending_of end ≡ seen_ending ending

-- it ends, or stops at a name that the host lacks
abbrev pub EndsOver : RunTree RunEnd → Seen → Result Ending Unfinished → Seen → Type 0
EndsOver run before (Ok ending) after = EndsAs run before ending after
EndsOver run before (Err (unfinished.Missing name)) after = walk run before ≡ Stopped name after
EndsOver run before (Err unfinished.Memory) after = Unit {0}

-- at its end the alerts are those that the host has kept
abbrev pub KeepsAlerts : Result Ending Unfinished → List (List ℕ) → List (List ℕ) → Type 0
KeepsAlerts (Ok ending) alerts kept = alerts ≡ kept
KeepsAlerts (Err why) alerts kept = Unit {0}
