-- A script for URLs, against a map of all names: one run for each of them.
use Rattle.std.specs.Prelude.{List, [], ◌∷◌, map}
use Rattle.js_host.specs.Answers.{AnswerMap}
use Rattle.js_evaluation.specs.Evaluation.{Entry}
use Rattle.poll_loop.specs.Task.{Talk}
use Rattle.pac_plan.specs.Plan.{Output, Plan, run, say}
use Rattle.report_text.specs.Report.{UrlEnd, done}
use Rattle.url_runs.specs.Runs.{ScriptRuns, Work, outcome_of}
use Rattle.url_runs.specs.Reports.{reported}

abbrev pub mapped : ScriptRuns → AnswerMap → Entry → UrlEnd
mapped program answers entry = record { end = done (outcome_of program answers entry); runs = 1 }

-- a run for each of these, and then
abbrev pub run_each : List Entry → Plan Talk → Plan Talk
run_each [] next = next
run_each (entry ∷ entries) next = run (run_each entries next)

-- what is reported then
abbrev pub map_report : AnswerMap → Work → Output
map_report answers work = reported work.batch (map (mapped work.script answers) work.entries)

-- runs the script for each URL of the batch, and reports
abbrev pub map_plan : AnswerMap → Work → Plan Talk
map_plan answers work = run_each work.entries (say (map_report answers work))
