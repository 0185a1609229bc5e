use Rattle.poll_log.proofs.Grows.{dead_stays as law}
use Rattle.poll_log.proofs.laws.dead_stays.Goals as goal

pub returns : goal.returns
returns c = law
