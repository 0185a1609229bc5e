-- A script for URLs, over a link: what is reported when each of them has ended, by the log.
use Rattle.std.specs.Prelude.{List, Option, Some, None, map}
use Rattle.pac_names.specs.Names.{Name}
use Rattle.js_host.specs.Answers.{AnswerMap}
use Rattle.js_evaluation.specs.Evaluation.{Entry, Outcome}
use Rattle.poll_log.specs.declared.terms.Terms.{Terms}
use Rattle.poll_log.specs.Turns.{Turns, turns_of}
use Rattle.poll_log.specs.Told.{told}
use Rattle.poll_log.specs.Jobs.{Job, runs_of}
use Rattle.poll_loop.specs.Task.{Talk}
use Rattle.poll_loop.specs.declared.looping.Upstream.{Upstream}
use Rattle.pac_plan.specs.Plan.{Plan, talk}
use Rattle.report_text.specs.Report.{End, UrlEnd, done, unanswered}
use Rattle.session_log.specs.Asked.{job_of}
use Rattle.session_log.specs.Sessions.{Holds}
use Rattle.session_core.specs.Resolved.{talk_of}
use Rattle.url_runs.specs.Runs.{ScriptRuns, Work, outcome_of}
use Rattle.url_runs.specs.Reports.{reported}

-- For each log a map of all names that agrees with the first accepted replies, and may hold anything for other names.
pub record Completion : Type 0 where
  pub answers : Terms → Turns → AnswerMap
  pub agrees : (terms : Terms) (turns : Turns) → Holds (answers terms turns) (told terms turns)

-- what waits for names where a script is run for a URL
abbrev pub url_job : ScriptRuns → Entry → Job
url_job program entry = job_of (program entry)

-- with the outcome where all names of the run are told, and else with its first untold name
abbrev pub end_by : Option Name → Outcome → End
end_by None outcome = done outcome
end_by (Some name) outcome = unanswered name

-- how it ends with a URL by a log, and how many runs that took; the run is against a map of all names
abbrev pub ended : ScriptRuns → AnswerMap → Terms → Turns → Entry → UrlEnd
ended program answers terms turns entry = record {
  end = end_by (url_job program entry (told terms turns)) (outcome_of program answers entry);
  runs = runs_of terms turns (url_job program entry);
}

abbrev pub all_ended : ScriptRuns → Completion → Terms → Turns → List Entry → List UrlEnd
all_ended program complete terms turns entries =
    map (ended program (complete.answers terms turns) terms turns) entries

-- what is polled for
abbrev pub urls_talk : Upstream → ScriptRuns → List Entry → Talk
urls_talk upstream program entries = talk_of upstream (map (url_job program) entries)

-- polls for all URLs of the batch, and reports by the log
abbrev pub resolve_plan : Completion → Upstream → Work → Plan Talk
resolve_plan complete upstream work =
    talk (urls_talk upstream work.script work.entries)
    (λ log. reported work.batch (all_ended work.script complete upstream.terms (turns_of log) work.entries))
