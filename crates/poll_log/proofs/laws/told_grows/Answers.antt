use Rattle.poll_log.proofs.Grows.{told_grows as law}
use Rattle.poll_log.proofs.laws.told_grows.Goals as goal

pub returns : goal.returns
returns c = law
