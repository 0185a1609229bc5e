-- What running all sessions over a link comes to.
use Rattle.std.specs.Prelude.{◌≡◌, ℕ, List, map}
use Rattle.std.specs.List.{All}
use Rattle.run_trees.specs.RunTree.{RunTree}
use Rattle.poll_log.specs.declared.terms.Terms.{Terms}
use Rattle.poll_log.specs.Turns.{Turns}
use Rattle.poll_log.specs.Told.{told}
use Rattle.poll_log.specs.Jobs.{IsFinished, IsUnanswered, Job, runs_of}
use Rattle.poll_loop.specs.Task.{Talk}
use Rattle.poll_loop.specs.declared.looping.Upstream.{Upstream}
use Rattle.session_log.specs.Asked.{job_of}
use Rattle.session_core.specs.declared.session.Progress.{Progress}
use Rattle.session_core.specs.declared.session.Progress.TheVariants.{Waiting, Finished, Unanswered}
use Rattle.session_core.specs.declared.session.Session.{Session}
use Rattle.session_core.specs.Sessions.{IsOutcome}
use Rattle.session_core.specs.Stands.{task_of}

-- These jobs, and the servers that are asked.
abbrev pub talk_of : Upstream → List Job → Talk
talk_of upstream jobs = record { servers = upstream.servers; task = task_of upstream.terms jobs }

-- The outcome of the uninterrupted run against every map that holds what is told; or the first untold name, which is dead.
abbrev pub HasEnded : {Out End : Type 0} → (Out → End → List (List ℕ) → Type 0) → RunTree End → Terms → Turns → Progress Out → Type 0
HasEnded gives run terms turns (Waiting name) = ⊥
HasEnded gives run terms turns (Finished out) =
    IsFinished terms turns (job_of run) × IsOutcome gives run (told terms turns) out
HasEnded gives run terms turns (Unanswered name) = IsUnanswered terms turns (job_of run) name

-- The sessions are those of the runs, in their order; each has ended, and was run as often as its waits were told, and
-- once more.
pub record AllEnded {R Out End : Type 0} (gives : Out → End → List (List ℕ) → Type 0) (tree : R → RunTree End) (runs : List R) (terms : Terms) (turns : Turns) (sessions : List (Session R Out)) : Type 0 where
  pub runs_are : map (λ s. s.run) sessions ≡ runs
  pub ended : All (λ s. HasEnded gives (tree s.run) terms turns s.progress) sessions
  pub counted : All (λ s. s.runs ≡ runs_of terms turns (job_of (tree s.run))) sessions
