-- A run over a host: what a step leaves of it, and what a call of the host does.
use Rattle.std.specs.Prelude.{◌≡◌, ℕ, ◌+◌, List, Result, Ok, Err}
use Rattle.js_tree.specs.declared.place.Place.{Place}
use Rattle.heap_values.specs.declared.value.Value.{Value}
use Rattle.pac_names.specs.Names.{Name}
use Rattle.js_host.specs.Seen.{Seen, with_alert}
use Rattle.pac_functions.specs.declared.call.PacFunction.{PacFunction}
use Rattle.pac_functions.specs.declared.call.PacFunction.TheVariants as function
use Rattle.pac_functions.specs.Texts.{text_in}
use Rattle.run_trees.specs.declared.abrupt.Abrupt.TheVariants as ending
use Rattle.run_trees.specs.RunTree.{Walked, Ended, Stopped, walk}
use Rattle.js_evaluation.specs.State.{RunEnd, Faults, AfterValue}
use Rattle.js_evaluation.specs.Handed.{gives}
use Rattle.js_frames.specs.Rests.{giving}
use Rattle.heap_steps.specs.declared.halt.Halt.{Halt}
use Rattle.heap_steps.specs.declared.halt.Halt.TheVariants as halt
use Rattle.heap_steps.specs.Works.{plain_fault, left_out}
use Rattle.js_machine.specs.declared.machine.Machine.{Machine}
use Rattle.js_machine.specs.declared.now.Now.{Now}
use Rattle.js_machine.specs.declared.now.Now.TheVariants as now
use Rattle.js_machine.specs.Moves.{Goes, Light, left, present, weight, waits}

-- The run over the host comes to what is to be done, or to the end of the whole run, over the host as it is then.
abbrev pub GoesOver : AfterValue → Walked RunEnd → Result Now Halt → Machine → Seen → Type 0
GoesOver last walked (Ok what) m seen = walked ≡ walk (present last m what) seen
GoesOver last walked (Err (halt.Throw thrown)) m seen = walked ≡ walk (present last m (now.Back (Err (ending.Thrown thrown)))) seen
GoesOver last walked (Err (halt.Fault code place)) m seen = walked ≡ Ended (Faults (plain_fault code place)) seen
GoesOver last walked (Err (halt.LeftOut name place)) m seen = walked ≡ Ended (Faults (left_out name place)) seen
GoesOver last walked (Err halt.Memory) m seen = Unit {0}

-- ---- a call of the host

-- a call gave this value, which is given back
pub record GivesBack (v : Value) (place : Place) (m : Machine) (r : Result Now Halt) (m' : Machine) : Type 0 where
  pub goes : (last : AfterValue) → Goes last (left last m (giving (gives v place))) r m'
  pub light : Light (weight m + 2) r m'

-- what a call does to the alerts that are kept
abbrev pub alerts_after : PacFunction → List Value → List (List ℕ) → List (List ℕ)
alerts_after function.Alert vs alerts = with_alert alerts (text_in vs 0)
alerts_after f vs alerts = alerts

-- the alerts are these, unless memory was refused
abbrev pub AreKept : Result Now Halt → List (List ℕ) → List (List ℕ) → Type 0
AreKept (Err halt.Memory) alerts kept = Unit {0}
AreKept r alerts kept = alerts ≡ kept

-- the run goes on behind a call, with the alerts that the host has kept; or it stops at a name that the host lacks
abbrev pub CallGoes : AfterValue → Walked RunEnd → Result (Result Now Halt) Name → Machine → Seen → Type 0
CallGoes last walked (Ok step) m seen = GoesOver last walked step m seen
CallGoes last walked (Err name) m seen = walked ≡ Stopped name seen

abbrev pub CallIsLight : ℕ → Result (Result Now Halt) Name → Machine → Type 0
CallIsLight bound (Ok step) m = Light bound step m
CallIsLight bound (Err name) m = Unit {0}

abbrev pub CallKeeps : Result (Result Now Halt) Name → List (List ℕ) → List (List ℕ) → Type 0
CallKeeps (Ok step) alerts kept = AreKept step alerts kept
CallKeeps (Err name) alerts kept = Unit {0}

pub record Calls (what : Now) (m : Machine) (before : Seen) (alerts : List (List ℕ))
    (r : Result (Result Now Halt) Name) (m' : Machine) (after : Seen) (alerts' : List (List ℕ)) : Type 0 where
  pub goes : (last : AfterValue) → CallGoes last (walk (present last m what) before) r m' after
  pub light : CallIsLight (weight m + waits what) r m'
  pub keeps : alerts ≡ before.alerts → CallKeeps r alerts' after.alerts
