use Rattle.session_log.proofs.Ends.{told_finite as law}
use Rattle.session_log.proofs.laws.told_is_finite.Goals as goal

pub returns : goal.returns
returns c = law
