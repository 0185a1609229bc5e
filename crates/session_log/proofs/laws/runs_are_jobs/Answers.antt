use Rattle.session_log.proofs.Orders.{run_is_job as law}
use Rattle.session_log.proofs.laws.runs_are_jobs.Goals as goal

pub returns : goal.returns
returns g c = law
