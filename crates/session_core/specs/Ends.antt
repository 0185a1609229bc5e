-- What is said of sessions.
use Rattle.std.specs.Prelude.{Bool, true, false}
use Rattle.poll_log.specs.declared.terms.Terms.{Terms}
use Rattle.poll_log.specs.Turns.{Turns}
use Rattle.poll_log.specs.Jobs.{IsFinished, IsUnanswered, Job, WaitsFor}
use Rattle.session_core.specs.declared.session.Progress.{Progress}
use Rattle.session_core.specs.declared.session.Progress.TheVariants as progress
use Rattle.session_core.specs.declared.session.SessionState.{SessionState}
use Rattle.session_core.specs.declared.session.SessionState.TheVariants.{Waiting, Finished, Unanswered}

-- what has become of the job after this log
abbrev pub IsState : Terms → Turns → Job → SessionState → Type 0
IsState terms turns job (Waiting name) = WaitsFor terms turns job name
IsState terms turns job Finished = IsFinished terms turns job
IsState terms turns job (Unanswered name) = IsUnanswered terms turns job name

abbrev pub without_outcome : {Out : Type 0} → Progress Out → SessionState
without_outcome (progress.Waiting name) = Waiting name
without_outcome (progress.Finished out) = Finished
without_outcome (progress.Unanswered name) = Unanswered name

abbrev pub is_finished : {Out : Type 0} → Progress Out → Bool
is_finished (progress.Waiting name) = false
is_finished (progress.Finished out) = true
is_finished (progress.Unanswered name) = false
