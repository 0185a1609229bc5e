-- The first runs.
use Rattle.std.specs.Prelude.{◌≡◌, ℕ, List, Option, map}
use Rattle.std.specs.FinMap as finite
use Rattle.std.specs.List.{All, filter_map}
use Rattle.pac_names.specs.Names.{Name}
use Rattle.run_trees.specs.RunTree.{RunTree}
use Rattle.pac_ports.specs.Dice.{DiceTold}
use Rattle.poll_log.specs.declared.question.Question.{Question}
use Rattle.poll_log.specs.Questions.{IsQuestion, names_of}
use Rattle.poll_log.specs.Told.{Map}
use Rattle.poll_log.specs.Jobs.{Job, once}
use Rattle.poll_loop.specs.Numbers.{GaveAll}
use Rattle.session_log.specs.Asked.{job_of}
use Rattle.session_core.specs.declared.lookups.Lookups.{Lookups}
use Rattle.session_core.specs.declared.session.Session.{Session}
use Rattle.session_core.specs.Lookups.{with_asked}
use Rattle.session_core.specs.Settling.{numbers_of}
use Rattle.session_core.specs.Cascade.{KnowsThese}
use Rattle.session_core.specs.Stands.{ArePlaced}

-- the names that runs miss, in their order
abbrev pub missing_of : {R End : Type 0} → (R → RunTree End) → Map → List R → List Name
missing_of tree answers all = filter_map (λ run. job_of (tree run) answers) all

-- Each of these was run once, over what was told; what they miss was asked, each name once.
pub record Begins {R Out End : Type 0} (gives : Out → End → List (List ℕ) → Type 0) (tree : R → RunTree End) (all : List R) (lookups lookups' : Lookups) (dice dice' : Option DiceTold) (sessions : List (Session R Out)) (asked : List Question) : Type 0 where
  pub runs_are : map (λ s. s.run) sessions ≡ all
  pub placed : ArePlaced gives tree lookups sessions
  pub counted : All (λ s. s.runs ≡ 1) sessions
  pub asks : (seen : List Name) → KnowsThese lookups.stub (finite.get lookups.table) seen → names_of asked ≡ once seen (missing_of tree (finite.get lookups.table) all)
  pub proper : All IsQuestion asked
  pub drew : GaveAll dice (numbers_of asked) dice'
  pub lookups_are : lookups' ≡ with_asked asked lookups

-- the jobs of runs
abbrev pub run_jobs : {R End : Type 0} → (R → RunTree End) → List R → List Job
run_jobs tree all = map (λ run. job_of (tree run)) all
