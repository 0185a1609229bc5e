-- The laws of runs over a log.
use Rattle.std.specs.Prelude.{◌≡◌, ◌+◌, ◌≤◌, List, ◌++◌, length, false}
use Rattle.std.specs.FinMap as map
use Rattle.std.specs.List.{All}
use Rattle.pac_names.specs.Names.{Name}
use Rattle.js_host.specs.Answers.{AnswerMap}
use Rattle.run_trees.specs.RunTree.{RunTree}
use Rattle.run_trees.specs.WholeRun.{asked_names, whole_run}
use Rattle.run_trees.specs.Laws.{first_missing_of}
use Rattle.pac_ports.specs.declared.link.Move.{Move}
use Rattle.poll_log.specs.declared.terms.Terms.{Terms}
use Rattle.poll_log.specs.Turns.{Outgoing, Turns, Then, Event, turns_of}
use Rattle.poll_log.specs.Told.{told}
use Rattle.poll_log.specs.Jobs.{Job, IsFinished, is_waiting, runs_of}
use Rattle.poll_log.specs.Laws.{AsksInOrder, IsRestartable}
use Rattle.session_log.specs.Asked.{asked_in, job_of}
use Rattle.session_log.specs.Sessions.{Holds, IsEnd, SessionEnd, all_runs, waits_told}
use Rattle.pac_names.specs.declared.limits.TheConstants.{MOST_NAMES}

-- over a finite map a job lacks the first name of its whole run that the map doesn't hold
abbrev pub LacksTheFirstMissing : Type 0 → Type 0
LacksTheFirstMissing End = (run : RunTree End) (all : AnswerMap) → job_of run (map.get all) ≡ first_missing_of all run

-- The extension law, for answers of any kind.
abbrev pub RunsAskInOrder : Type 0 → Type 0
RunsAskInOrder End = (run : RunTree End) → AsksInOrder MOST_NAMES (asked_in run)

abbrev pub RunsAreJobs : Type 0 → Type 0
RunsAreJobs End = (run : RunTree End) → IsRestartable MOST_NAMES (job_of run)

-- the answers that a log tells are a finite map
pub record IsFinite (terms : Terms) (turns : Turns) : Type 0 where
  pub all : AnswerMap
  pub same : (n : Name) → map.get all n ≡ told terms turns n

abbrev pub ToldIsFinite : Type 0
ToldIsFinite = (terms : Terms) (turns : Turns) → IsFinite terms turns

-- A session that doesn't wait has one end.
pub record HasOneEnd {End : Type 0} (terms : Terms) (turns : Turns) (run : RunTree End) : Type 0 where
  pub end : SessionEnd End
  pub is : IsEnd terms turns run end
  pub only : (other : SessionEnd End) → IsEnd terms turns run other → other ≡ end

abbrev pub SessionsEnd : Type 0 → Type 0
SessionsEnd End =
    (terms : Terms) (turns : Turns) (run : RunTree End) → is_waiting terms turns (job_of run) ≡ false
    → HasOneEnd terms turns run

-- An ended session stays so in every longer log, with its whole run or its name.
abbrev pub EndsStay : Type 0 → Type 0
EndsStay End =
    (terms : Terms) (moves more : List Move) (run : RunTree End) (end : SessionEnd End)
    → IsEnd terms (turns_of moves) run end → IsEnd terms (turns_of (moves ++ more)) run end

-- A session costs at most one run more than the names that its run asks.
pub record CostsItsNames {End : Type 0} (terms : Terms) (turns : Turns) (run : RunTree End) : Type 0 where
  pub names : runs_of terms turns (job_of run) ≤ length (asked_in run (told terms turns)) + 1
  pub most : runs_of terms turns (job_of run) ≤ MOST_NAMES + 1
  -- where it is finished these are the names of the uninterrupted run
  pub whole : IsFinished terms turns (job_of run) → (all : AnswerMap) → Holds all (told terms turns)
      → asked_names all run ≡ asked_in run (told terms turns)

abbrev pub RunsCostTheirNames : Type 0 → Type 0
RunsCostTheirNames End = (terms : Terms) (turns : Turns) (run : RunTree End) → CostsItsNames terms turns run

-- Isolation: the whole run of a finished session depends on the answers to its own names alone, whatever else two logs
-- tell, and whatever other jobs they serve.
abbrev pub IsIsolated : Type 0 → Type 0
IsIsolated End =
    (terms terms' : Terms) (turns turns' : Turns) (run : RunTree End) (all all' : AnswerMap)
    → IsFinished terms turns (job_of run) → Holds all (told terms turns) → Holds all' (told terms' turns')
    → All (λ n. told terms turns n ≡ told terms' turns' n) (asked_in run (told terms turns))
    → whole_run all run ≡ whole_run all' run

-- The runs that a log costs grow by the waits that its next event tells.
abbrev pub RunsGrow : Type 0
RunsGrow =
    (terms : Terms) (jobs : List Job) (turns : Turns) (event : Event) (sent : List Outgoing)
    → all_runs terms jobs (Then turns event sent)
    ≡ all_runs terms jobs turns + waits_told jobs (told terms turns) (told terms (Then turns event sent))
