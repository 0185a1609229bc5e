use Rattle.poll_log.proofs.Orders.{runs_restartable as law}
use Rattle.poll_log.proofs.laws.runs_are_restartable.Goals as goal

pub returns : goal.returns
returns c = law
