use Rattle.session_log.proofs.Asking.{first_missing_is as law}
use Rattle.session_log.proofs.laws.lacks_the_first_missing.Goals as goal

pub returns : goal.returns
returns g c = law
