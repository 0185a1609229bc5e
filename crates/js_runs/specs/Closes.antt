-- What the loop of a run ensures.
use Rattle.std.specs.Prelude.{◌≡◌, ℕ, List, Result, Ok, Err}
use Rattle.heap_values.specs.declared.value.Value.{Value}
use Rattle.run_trees.specs.declared.abrupt.Abrupt.TheVariants as ending
use Rattle.js_host.specs.Seen.{Seen}
use Rattle.run_trees.specs.RunTree.{Walked, Ended, Stopped, walk}
use Rattle.js_evaluation.specs.State.{RunEnd, Faults, Stop, AfterValue}
use Rattle.heap_steps.specs.declared.halt.Halt.{Halt}
use Rattle.heap_steps.specs.declared.halt.Halt.TheVariants as halt
use Rattle.heap_steps.specs.Works.{plain_fault, left_out}
use Rattle.js_machine.specs.declared.machine.Machine.{Machine}
use Rattle.js_machine.specs.declared.now.Now.{Now}
use Rattle.js_machine.specs.declared.now.Now.TheVariants as now
use Rattle.js_machine.specs.declared.now.Part.{Part}
use Rattle.js_machine.specs.Moves.{Goes, Light, present, weight, run_state}
use Rattle.js_runs.specs.declared.running.Cut.{Cut}
use Rattle.js_runs.specs.declared.running.Cut.TheVariants as cut

-- what is thrown goes back to the part around
abbrev pub handed_on : Result Now Halt → Result Now Halt
handed_on (Ok what) = Ok what
handed_on (Err (halt.Throw thrown)) = Ok (now.Back (Err (ending.Thrown thrown)))
handed_on (Err (halt.Fault code place)) = Err (halt.Fault code place)
handed_on (Err (halt.LeftOut name place)) = Err (halt.LeftOut name place)
handed_on (Err halt.Memory) = Err halt.Memory

-- a part is begun: what is left of the run stays, and fuel is taken
pub record Begins (part : Part) (m : Machine) (r : Result Now Halt) (m' : Machine) : Type 0 where
  pub goes : (last : AfterValue) → Goes last (present last m (now.Begin part)) r m'
  pub light : Light (weight m) r m'

-- The run over the host comes to this end and state, whatever comes after it, or is at its end by a fault, or stops at
-- a name that the host lacks.
abbrev pub Closed : AfterValue → Walked RunEnd → Result (Result Value Stop) Cut → Machine → Seen → Type 0
Closed last walked (Ok end) m seen = walked ≡ walk (last end (run_state m.state)) seen
Closed last walked (Err (cut.Halt (halt.Throw thrown))) m seen = ⊥
Closed last walked (Err (cut.Halt (halt.Fault code place))) m seen = walked ≡ Ended (Faults (plain_fault code place)) seen
Closed last walked (Err (cut.Halt (halt.LeftOut name place))) m seen = walked ≡ Ended (Faults (left_out name place)) seen
Closed last walked (Err (cut.Halt halt.Memory)) m seen = Unit {0}
Closed last walked (Err (cut.Missing name)) m seen = walked ≡ Stopped name seen

pub record Closes (m : Machine) (first : Now) (before : Seen) (r : Result (Result Value Stop) Cut) (m' : Machine) (after : Seen) : Type 0 where
  pub closes : (last : AfterValue) → Closed last (walk (present last m first) before) r m' after

-- the alerts are those that the host has kept, unless memory was refused or a name is missing
abbrev pub KeptAtEnd : Result (Result Value Stop) Cut → List (List ℕ) → List (List ℕ) → Type 0
KeptAtEnd (Ok end) alerts kept = alerts ≡ kept
KeptAtEnd (Err (cut.Halt halt.Memory)) alerts kept = Unit {0}
KeptAtEnd (Err (cut.Halt h)) alerts kept = alerts ≡ kept
KeptAtEnd (Err (cut.Missing name)) alerts kept = Unit {0}
