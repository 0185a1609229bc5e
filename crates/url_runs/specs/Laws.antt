-- Laws of what is reported of URLs.
use Rattle.std.specs.Prelude.{◌≡◌, ◌≤◌, ◌+◌, List, length, map}
use Rattle.batch_text.specs.Batch.{BatchEntry}
use Rattle.js_host.specs.Answers.{AnswerMap}
use Rattle.run_trees.specs.WholeRun.{asked_names}
use Rattle.js_evaluation.specs.Evaluation.{Entry}
use Rattle.pac_ports.specs.declared.link.Move.{Move}
use Rattle.pac_plan.specs.declared.status.Status.TheVariants as status
use Rattle.poll_log.specs.declared.terms.Terms.{Terms}
use Rattle.poll_log.specs.Sendings.{AreTerms}
use Rattle.poll_log.specs.Turns.{Turns, turns_of}
use Rattle.poll_log.specs.Told.{told}
use Rattle.poll_log.specs.Jobs.{IsPolled, runs_of}
use Rattle.poll_log.specs.Laws.{IsAllTold}
use Rattle.poll_loop.specs.Task.{IsSound}
use Rattle.poll_loop.specs.declared.looping.Upstream.{Upstream}
use Rattle.session_log.specs.Sessions.{Holds}
use Rattle.session_core.specs.Resolved.{talk_of}
use Rattle.url_runs.specs.Runs.{ScriptRuns}
use Rattle.url_runs.specs.Reports.{reported}
use Rattle.url_runs.specs.Resolving.{Completion, all_ended, url_job}

-- A URL costs at most one run more than the distinct names that its uninterrupted run asks, against every map of all names
-- that holds what is told.
abbrev pub RunsAreFew : Type 0
RunsAreFew =
    (script : ScriptRuns) (entry : Entry) (terms : Terms) (turns : Turns) (answers : AnswerMap) → Holds answers (told terms turns)
    → runs_of terms turns (url_job script entry) ≤ length (asked_names answers (script entry)) + 1

-- Each map of all names that holds what a log tells is the one that some choice of maps takes for that log. So what is
-- reported for each choice is reported for each such map.
abbrev pub EachMapIsTaken : Type 0
EachMapIsTaken = (terms : Terms) (turns : Turns) (all : AnswerMap) → Holds all (told terms turns)
    → (complete : Completion) × (complete.answers terms turns ≡ all)

-- What is polled for is sound: what waits lacks lookup names alone, and obeys the extension law with at most 32 names.
abbrev pub TasksAreSound : ScriptRuns → Type 0
TasksAreSound script =
    (upstream : Upstream) (entries : List Entry) → AreTerms upstream.terms → IsSound (talk_of upstream (map (url_job script) entries)).task

-- Where the log is polled and each name that was sent is told, no URL is unanswered.
abbrev pub ToldAreAnswered : Type 0
ToldAreAnswered =
    (complete : Completion) (terms : Terms) (script : ScriptRuns) (batch : List BatchEntry) (entries : List Entry) (log : List Move)
    → IsPolled terms (map (url_job script) entries) (turns_of log) → IsAllTold terms (turns_of log)
    → (reported batch (all_ended script complete terms (turns_of log) entries)).status ≡ status.Unanswered → ⊥
