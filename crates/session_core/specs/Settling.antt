-- What one run leaves.
use Rattle.std.specs.Prelude.{◌≡◌, ℕ, ◌||◌, Bool, if◌then◌else◌, Option, Some, None, List, [], ◌∷◌, map}
use Rattle.std.specs.FinMap as finite
use Rattle.std.specs.List.{All}
use Rattle.std.specs.Option.{option_to_list}
use Rattle.pac_names.specs.Names.{Name}
use Rattle.run_trees.specs.RunTree.{RunTree}
use Rattle.pac_ports.specs.Dice.{DiceTold}
use Rattle.poll_log.specs.declared.question.Question.{Question}
use Rattle.poll_log.specs.Questions.{IsQuestion, names_of}
use Rattle.stub_poller.specs.State.{StubState, flies_in, is_dead_in}
use Rattle.stub_poller.specs.Driven.{asking_all}
use Rattle.poll_loop.specs.Numbers.{GaveAll}
use Rattle.session_log.specs.Asked.{job_of}
use Rattle.session_core.specs.declared.lookups.Lookups.{Lookups}
use Rattle.session_core.specs.declared.session.Progress.{Progress}
use Rattle.session_core.specs.declared.session.Progress.TheVariants.{Waiting, Unanswered}
use Rattle.session_core.specs.declared.settling.Settled.{Settled}
use Rattle.session_core.specs.Lookups.{with_asked}
use Rattle.session_core.specs.Sessions.{IsPlaced, dead_of}

-- a name that a stub knows is dead or in flight
abbrev pub knows : StubState → Name → Bool
knows stub name = is_dead_in name stub || flies_in name stub

-- the names that are asked of a stub for the name that a run misses, if it misses one
abbrev pub asked_of : StubState → Option Name → List Name
asked_of stub None = []
asked_of stub (Some name) = if knows stub name then [] else name ∷ []

-- the numbers of questions, in order
abbrev pub numbers_of : List Question → List ℕ
numbers_of asked = map (λ q. q.id) asked

-- The names that were asked, as questions, with the numbers of the dice.
pub record Asks (names : List Name) (dice dice' : Option DiceTold) (asked : List Question) : Type 0 where
  pub names_are : names_of asked ≡ names
  pub proper : All IsQuestion asked
  pub drew : GaveAll dice (numbers_of asked) dice'

abbrev pub progress_at : {Out : Type 0} → Name → Bool → Progress Out
progress_at name dead = if dead then Unanswered name else Waiting name

-- A run misses the name.
pub record Awaits {Out : Type 0} (name : Name) (stub stub' : StubState) (dice dice' : Option DiceTold) (settled : Settled Out) : Type 0 where
  pub progress_is : settled.progress ≡ progress_at name (is_dead_in name stub)
  pub asks : Asks (asked_of stub (Some name)) dice dice' (option_to_list settled.asked)
  pub stub_is : stub' ≡ asking_all (option_to_list settled.asked) stub

-- One run was run over what was told.
pub record Settles {Out End : Type 0} (gives : Out → End → List (List ℕ) → Type 0) (run : RunTree End) (lookups lookups' : Lookups) (dice dice' : Option DiceTold) (settled : Settled Out) : Type 0 where
  pub placed : IsPlaced gives run (finite.get lookups.table) (dead_of lookups.stub) settled.progress
  pub asks : Asks (asked_of lookups.stub (job_of run (finite.get lookups.table))) dice dice' (option_to_list settled.asked)
  pub lookups_are : lookups' ≡ with_asked (option_to_list settled.asked) lookups
