use Rattle.session_log.proofs.Ends.{isolated as law}
use Rattle.session_log.proofs.laws.is_isolated.Goals as goal

pub returns : goal.returns
returns g c = law
