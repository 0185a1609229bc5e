use Rattle.poll_log.proofs.Grows.{finished_stays as law}
use Rattle.poll_log.proofs.laws.finished_stays.Goals as goal

pub returns : goal.returns
returns c = law
