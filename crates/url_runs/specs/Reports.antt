-- What is reported of a batch, and with which status.
use Rattle.std.specs.Prelude.{List, Bool, true, false, if◌then◌else◌}
use Rattle.std.specs.List.{list_any}
use Rattle.js_evaluation.specs.Evaluation.{Ending, Gives, Fails}
use Rattle.batch_text.specs.Batch.{BatchEntry}
use Rattle.report_text.specs.Report.{End, done, unanswered, UrlEnd, report_of}
use Rattle.pac_plan.specs.Plan.{Output}
use Rattle.pac_plan.specs.declared.status.Status.{Status}
use Rattle.pac_plan.specs.declared.status.Status.TheVariants as status

abbrev pub is_unanswered : End → Bool
is_unanswered (done outcome) = false
is_unanswered (unanswered name) = true

abbrev pub fails : Ending → Bool
fails (Gives text) = false
fails (Fails fault) = true

abbrev pub is_fault : End → Bool
is_fault (done outcome) = fails outcome.ending
is_fault (unanswered name) = false

-- a URL that is unanswered stands before one whose run ended by a fault
abbrev pub status_of : List UrlEnd → Status
status_of ends =
    if list_any (λ e. is_unanswered e.end) ends then status.Unanswered
    else (if list_any (λ e. is_fault e.end) ends then status.ScriptFault else status.Good)

abbrev pub reported : List BatchEntry → List UrlEnd → Output
reported batch ends = record { status = status_of ends; text = report_of batch ends }
