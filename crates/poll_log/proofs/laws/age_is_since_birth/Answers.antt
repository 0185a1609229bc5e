use Rattle.poll_log.proofs.Births.{age_since_birth as law}
use Rattle.poll_log.proofs.laws.age_is_since_birth.Goals as goal

pub returns : goal.returns
returns c = law
