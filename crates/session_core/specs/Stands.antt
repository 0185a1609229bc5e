-- When what is kept of sessions stands for a log.
use Rattle.std.specs.Prelude.{◌≡◌, ℕ, Bool, false, List, map}
use Rattle.std.specs.FinMap as finite
use Rattle.std.specs.List.{All}
use Rattle.pac_names.specs.Names.{Name}
use Rattle.run_trees.specs.RunTree.{RunTree}
use Rattle.poll_log.specs.declared.terms.Terms.{Terms}
use Rattle.poll_log.specs.Sendings.{AreTerms}
use Rattle.poll_log.specs.Turns.{Turns}
use Rattle.poll_log.specs.Told.{told}
use Rattle.poll_log.specs.Jobs.{Job, SendsOwed, runs_of}
use Rattle.stub_poller.specs.Driven.{driven}
use Rattle.poll_loop.specs.Counting.{HasCounted}
use Rattle.poll_loop.specs.Task.{Task}
use Rattle.session_log.specs.Asked.{job_of}
use Rattle.session_log.specs.Sessions.{all_runs}
use Rattle.session_core.specs.declared.lookups.Lookups.{Lookups}
use Rattle.session_core.specs.declared.poller.Core.{Core}
use Rattle.session_core.specs.declared.session.Session.{Session}
use Rattle.session_core.specs.Sessions.{IsPlaced, dead_of}

-- the jobs of sessions
abbrev pub jobs_of : {R Out End : Type 0} → (R → RunTree End) → List (Session R Out) → List Job
jobs_of tree sessions = map (λ s. job_of (tree s.run)) sessions

-- What is polled for. A log costs as many runs as the waits that it tells, and one more for each job.
abbrev pub task_of : Terms → List Job → Task
task_of terms jobs = record { terms = terms; jobs = jobs; runs = all_runs terms jobs }

-- by what was told and by who is dead
abbrev pub ArePlaced : {R Out End : Type 0} → (Out → End → List (List ℕ) → Type 0) → (R → RunTree End) → Lookups → List (Session R Out) → Type 0
ArePlaced gives tree lookups sessions = All (λ s. IsPlaced gives (tree s.run) (finite.get lookups.table) (dead_of lookups.stub) s.progress) sessions

pub record Stands {R Out End : Type 0} (gives : Out → End → List (List ℕ) → Type 0) (tree : R → RunTree End) (sessions : List (Session R Out)) (lookups : Lookups) (task : Task) (turns : Turns) : Type 0 where
  pub same : task ≡ task_of lookups.stub.terms (jobs_of tree sessions)
  pub ranges : AreTerms lookups.stub.terms
  pub sends : SendsOwed lookups.stub.terms (jobs_of tree sessions) turns
  -- in flight is what was sent and is neither told nor dead, with number and age
  pub flying : lookups.stub ≡ driven lookups.stub.terms turns
  -- the table holds what is told
  pub told_is : (n : Name) → finite.get lookups.table n ≡ told lookups.stub.terms turns n
  pub placed : ArePlaced gives tree lookups sessions
  pub counted : All (λ s. s.runs ≡ runs_of lookups.stub.terms turns (job_of (tree s.run))) sessions
  pub beating : HasCounted lookups.beats turns

-- ---- a core

abbrev pub sessions_of : {R Out : Type 0} → Core R Out → List (Session R Out)
sessions_of core = core.sessions.roster.all.items

-- what its sessions run, in their order
abbrev pub its_runs : {R Out : Type 0} → Core R Out → List R
its_runs core = map (λ s. s.run) core.sessions.roster.all.items

-- memory ran out in the midst of an event
abbrev pub is_broken : {R Out : Type 0} → Core R Out → Bool
is_broken core = core.sessions.broken

-- A core stands for a log while memory never ran out.
pub record StandsFor {R Out End : Type 0} (gives : Out → End → List (List ℕ) → Type 0) (tree : R → RunTree End) (core : Core R Out) (task : Task) (turns : Turns) : Type 0 where
  pub whole : is_broken core ≡ false
  pub stands : Stands gives tree core.sessions.roster.all.items core.lookups task turns
