-- The load of a script for many runs, and what runs begin with then.
use Rattle.std.specs.Prelude.{◌≡◌, ℕ, Bool, true, false, List, Option, Some, None, Ok}
use Rattle.std.specs.FinMap as map
use Rattle.js_tree.specs.Tree.{FunctionTree, Statements, statements_of}
use Rattle.js_scope.specs.declared.program.Program.{Program}
use Rattle.js_scope.specs.Functions as scoped
use Rattle.pac_functions.specs.declared.call.PacSettings.{PacSettings}
use Rattle.js_host.specs.Answers.{partly}
use Rattle.js_host.specs.Seen.{fresh}
use Rattle.run_trees.specs.RunTree.{Done, Walked, Ended, walk}
use Rattle.js_evaluation.specs.State.{AfterValue, RunState, RunEnd, Comes}
use Rattle.js_evaluation.specs.Evaluation.{load_tree}

-- the state behind the load, and the alerts that are kept of it
pub record Beginning : Type 0 where
  pub state : RunState
  pub alerts : List (List ℕ)

-- there is one where the load comes to its end, and neither throws nor has a fault, nor asks for a name
abbrev pub beginning_in : Walked RunEnd → Option Beginning
beginning_in (Ended (Comes (Ok value) state) seen) = Some (record { state = state; alerts = seen.alerts })
beginning_in walked = None

-- the same, where it comes to such an end or doesn't
abbrev pub beginning_where : Bool → RunState → List (List ℕ) → Option Beginning
beginning_where true state alerts = Some (record { state = state; alerts = alerts })
beginning_where false state alerts = None

-- what comes after a load that is done alone
abbrev pub alone : AfterValue
alone = λ result state. Done (Comes result state)

-- The load is done over a host that knows nothing, and no clock is shown to it: a function that goes by clocks is a fault
-- then.
abbrev pub beginning_of : Statements → List FunctionTree → PacSettings → ℕ → Option Beginning
beginning_of ss functions settings fuel = beginning_in (walk (load_tree ss functions settings fuel) (fresh (partly map.empty)))

-- the same of a program
abbrev pub program_beginning : Program → PacSettings → ℕ → Option Beginning
program_beginning program settings fuel =
    beginning_of (statements_of program.body) (scoped.functions_of program.functions) settings fuel

-- what an image holds: the settings and the fuel of the load, and what it came to
pub record ImageView : Type 0 where
  pub settings : PacSettings
  pub fuel : ℕ
  pub beginning : Beginning

-- the image is that of this program
abbrev pub IsImageOf : Program → ImageView → Type 0
IsImageOf program image = program_beginning program image.settings image.fuel ≡ Some image.beginning
