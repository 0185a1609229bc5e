-- What holds of the commands beside their plans.
use Rattle.std.specs.Prelude.{◌≡◌, ◌+◌, ◌≤◌, ℕ, List, Ok, Some}
use Rattle.batch_text.specs.declared.batch.TheConstants.{MOST_URLS}
use Rattle.js_tree.specs.Tree.{StatementTree}
use Rattle.js_grammar.specs.Statements.{script_of_text}
use Rattle.js_evaluation.specs.Evaluation.{run_by_names}
use Rattle.memory_talk.specs.Laws.{AreReplied, IsLogOf, OneLog}
use Rattle.memory_talk.specs.Talks.{MemoryTalk, Talked}
use Rattle.pac_ask.specs.Laws.{AsksAreSound, ToldIsAnswered}
use Rattle.pac_generate.specs.Generated as generated
use Rattle.pac_words.specs.Commands.{Asked, Asking, asking, command_of, resolving}
use Rattle.pac_words.specs.Rules.{Text}
use Rattle.pac_plan.specs.Plan.{End, Outside}
use Rattle.pac_ports.specs.declared.link.Move.{Move}
use Rattle.poll_log.specs.Sendings.{AreTerms}
use Rattle.poll_log.specs.Turns.{turns_of}
use Rattle.poll_loop.specs.Task.{Task}
use Rattle.poll_loop.specs.Laws.{UnfinishedIsCut}
use Rattle.url_runs.specs.Resolving.{Completion, urls_talk}
use Rattle.url_runs.specs.Laws.{EachMapIsTaken, RunsAreFew, TasksAreSound, ToldAreAnswered}
use Rattle.pac_command.specs.Commands.{upstream_of}
use Rattle.pac_command.specs.Generate.{generated_batch, usual_upstream, usual_given}
use Rattle.pac_command.specs.Urls.{entries_for}

-- the generated script is read
abbrev pub ScriptIsRead : Type 0
ScriptIsRead = (script : List StatementTree) × (script_of_text generated.script ≡ Ok script)

-- this says whom, and how often, a command asks for names
abbrev pub IsAskedWith : Asking → Asked → Type 0
IsAskedWith how (resolving script source own running) = how ≡ own
IsAskedWith how (asking name own) = how ≡ own
IsAskedWith how _ = ⊥

-- what words ask for is asked for with a wait and tries from 1 to their most
abbrev pub TermsAreRead : Type 0
TermsAreRead =
    (ws : List Text) (asked : Asked) → command_of ws ≡ Some asked
    → (how : Asking) → IsAskedWith how asked → AreTerms (upstream_of how).terms

-- what `generate` polls for with this script
abbrev pub generate_task : ℕ → ℕ → List StatementTree → Task
generate_task seed sites script =
    (urls_talk usual_upstream (run_by_names script) (entries_for usual_given (generated_batch seed sites))).task

-- its log: it is polled and answered from the generated map, and its first sends carry 0, 1, 2 and so on
abbrev pub IsGeneratedLog : ℕ → ℕ → List StatementTree → List Move → Type 0
IsGeneratedLog seed sites script log =
    let task = generate_task seed sites script in
    IsLogOf (generated.generated seed sites).map task.terms task.jobs (turns_of log)

-- Its t-th event is the reply to its t-th question and there is no other event, so no tick; and each URL is finished.
abbrev pub AllAreReplied : ℕ → ℕ → List StatementTree → List Move → Type 0
AllAreReplied seed sites script log =
    let task = generate_task seed sites script in
    AreReplied (generated.generated seed sites).map task.terms task.jobs (turns_of log)

-- its talk: that task, answered from the generated map
abbrev pub generate_talk : ℕ → ℕ → List StatementTree → MemoryTalk
generate_talk seed sites script = record { answers = (generated.generated seed sites).map; task = generate_task seed sites script }

-- For each number of sites that is allowed there is that log, and in each that is one all are replied. However the talk ends,
-- also where memory ran out, no more runs were counted than that log costs.
pub record GenerateHasItsLog : Type 0 where
  pub is_there : (seed sites : ℕ) (script : List StatementTree) → (log : List Move) × IsGeneratedLog seed sites script log
  pub replied : (seed sites : ℕ) (script : List StatementTree) (log : List Move) → sites ≤ MOST_URLS
      → IsGeneratedLog seed sites script log → AllAreReplied seed sites script log
  pub runs : (seed sites : ℕ) (script : List StatementTree) (log : List Move) → sites ≤ MOST_URLS → IsGeneratedLog seed sites script log
      → (old : Outside) (end : End) (part : List Move) (new : Outside) → Talked (generate_talk seed sites script) old end part new
      → new.runs ≤ old.runs + (generate_task seed sites script).runs (turns_of log)

pub record CommandsKeepLaws : Type 0 where
  -- for each log there is a map of all names that agrees with it
  pub agreeing_map : Completion
  -- and each map of all names that agrees with it is one of those that are spoken of
  pub each_agreeing_map : EachMapIsTaken
  -- no URL costs more runs than the distinct names of its whole run, plus one
  pub few_runs : RunsAreFew
  -- what is polled for is sound, so where memory ran out the log is cut short
  pub urls_are_sound : (script : List StatementTree) → TasksAreSound (run_by_names script)
  pub name_is_sound : AsksAreSound
  pub unfinished_is_cut : UnfinishedIsCut
  -- where each name that was sent is told, nothing is unanswered
  pub urls_are_answered : ToldAreAnswered
  pub name_is_answered : ToldIsAnswered
  -- of `generate`: its script is read, its map and jobs have at most one whole log, and that is there, without a tick; no more
  -- runs are counted than that costs
  pub script_is_read : ScriptIsRead
  pub one_log : OneLog
  pub its_log : GenerateHasItsLog
  -- what words ask for is asked for with a wait and tries from 1 to their most
  pub terms_are_read : TermsAreRead
