-- Many sessions over one log: what their runs cost, and how each of them ends.
use Rattle.std.specs.Prelude.{◌≡◌, ℕ, ◌+◌, List, [], ◌∷◌}
use Rattle.std.specs.FinMap as map
use Rattle.pac_names.specs.Names.{Name}
use Rattle.js_host.specs.Answers.{AnswerMap}
use Rattle.run_trees.specs.RunTree.{RunTree}
use Rattle.run_trees.specs.WholeRun.{WholeRun, whole_run}
use Rattle.poll_log.specs.declared.terms.Terms.{Terms}
use Rattle.poll_log.specs.Turns.{Turns}
use Rattle.poll_log.specs.Told.{Map, told}
use Rattle.poll_log.specs.Jobs.{Job, IsFinished, IsUnanswered, runs_of, told_to}
use Rattle.poll_log.specs.Laws.{Extends}
use Rattle.session_log.specs.Asked.{job_of}

-- a sum over the jobs
abbrev pub total : (Job → ℕ) → List Job → ℕ
total count [] = 0
total count (job ∷ jobs) = count job + total count jobs

-- how many runs a log costs
abbrev pub all_runs : Terms → List Job → Turns → ℕ
all_runs terms jobs turns = total (runs_of terms turns) jobs

-- how many waits of the jobs are told, where the answers grow so
abbrev pub waits_told : List Job → Map → Map → ℕ
waits_told jobs before after = total (λ job. told_to (job before) after) jobs

-- a finite map of all names that holds these answers
abbrev pub Holds : AnswerMap → Map → Type 0
Holds all answers = Extends (map.get all) answers

-- against every finite map that holds these answers, the uninterrupted run is this one
abbrev pub IsWhole : {End : Type 0} → RunTree End → Map → WholeRun End → Type 0
IsWhole run answers one = (all : AnswerMap) → Holds all answers → whole_run all run ≡ one

-- how a session ends: with its whole run, or with a name that nobody answered
pub data SessionEnd (End : Type 0) : Type 0 where
  Finishes : WholeRun End → SessionEnd End
  Lacks : Name → SessionEnd End

-- The uninterrupted run against every finite map that holds what is told; or the first untold name, which is dead.
abbrev pub IsEnd : {End : Type 0} → Terms → Turns → RunTree End → SessionEnd End → Type 0
IsEnd terms turns run (Finishes one) = IsFinished terms turns (job_of run) × IsWhole run (told terms turns) one
IsEnd terms turns run (Lacks name) = IsUnanswered terms turns (job_of run) name
