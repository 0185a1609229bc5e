-- How it ends with the URLs of a script that is run over a link, by the log.
use Rattle.std.specs.Prelude.{◌≡◌, List, Option, None, Result, Ok, Err, Vec, map}
use Rattle.std.specs.declared.alloc.Global.{Global}
use Rattle.pac_ports.specs.declared.link.Move.{Move}
use Rattle.batch_text.specs.Batch.{BatchEntry}
use Rattle.js_host.specs.Answers.{AnswerMap}
use Rattle.js_evaluation.specs.Evaluation.{Entry}
use Rattle.pac_plan.specs.Plan as plans
use Rattle.pac_plan.specs.Plan.{Outside, faulted, link_fault, whole}
use Rattle.pac_plan.specs.Follows.{IsUnlessMemory}
use Rattle.poll_log.specs.Turns.{turns_of}
use Rattle.poll_log.specs.Told.{told}
use Rattle.poll_loop.specs.Talks.{Talked}
use Rattle.poll_loop.specs.declared.looping.Upstream.{Upstream}
use Rattle.poll_loop.specs.declared.looping.PollError.{PollError}
use Rattle.poll_loop.specs.declared.looping.PollError.TheVariants as error
use Rattle.session_log.specs.Sessions.{Holds}
use Rattle.url_runs.specs.Runs.{ScriptRuns}
use Rattle.url_runs.specs.Reports.{reported}
use Rattle.url_runs.specs.Resolving.{ended, urls_talk}
use Rattle.js_interp.specs.declared.outcome.Outcome.{Outcome}
use Rattle.js_interp.specs.Answers.{seen_outcome}
use Rattle.report_text.specs.Report.{End, UrlEnd, done, seen_end, unanswered}
use Rattle.report_text.specs.declared.blocks.UrlEnd as code
use Rattle.session_core.specs.declared.session.Session.{Session}
use Rattle.session_core.specs.declared.session.Progress.{Progress}
use Rattle.session_core.specs.declared.session.Progress.TheVariants.{Finished, Unanswered, Waiting}
use Rattle.url_runs.specs.declared.url_run.UrlRun.{UrlRun}

abbrev pub end_of : Progress Outcome → End
end_of (Finished outcome) = done (seen_outcome outcome)
end_of (Unanswered name) = unanswered name
end_of (Waiting name) = unanswered name

abbrev pub session_end : Session UrlRun Outcome → UrlEnd
session_end session = record { end = end_of session.progress; runs = session.runs }

-- ---- all URLs

-- The talk for all URLs went to its end, and it ended so with each of them by its log, against every map of all names that
-- holds what is told; or the link failed; or memory ran out in the talk or behind it.
abbrev pub HaveEnded : Upstream → ScriptRuns → List Entry → Outside → Result (List UrlEnd) PollError → Outside → Type 0
HaveEnded upstream program entries old (Ok ends) new = (log : List Move) × Talked (urls_talk upstream program entries) old whole log new
    × ((answers : AnswerMap) → Holds answers (told upstream.terms (turns_of log)) → ends ≡ map (ended program answers upstream.terms (turns_of log)) entries)
HaveEnded upstream program entries old (Err error.Link) new = (log : List Move) × Talked (urls_talk upstream program entries) old faulted log new
HaveEnded upstream program entries old (Err error.Memory) new = (end : plans.End) × (log : List Move) × Talked (urls_talk upstream program entries) old end log new

-- as the code has them
abbrev pub seen_ends : Result (Vec code.UrlEnd Global) PollError → Result (List UrlEnd) PollError
seen_ends (Ok ends) = Ok (map seen_end ends.items)
seen_ends (Err e) = Err e

-- what is said of a batch whose URLs have ended so, or none where memory ran out
abbrev pub IsSaid : List BatchEntry → Result (List UrlEnd) PollError → Option plans.Output → Type 0
IsSaid batch (Ok ends) made = IsUnlessMemory (reported batch ends) made
IsSaid batch (Err error.Link) made = IsUnlessMemory link_fault made
IsSaid batch (Err error.Memory) made = made ≡ None
