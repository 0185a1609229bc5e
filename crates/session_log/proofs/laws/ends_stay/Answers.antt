use Rattle.session_log.proofs.Ends.{end_stays as law}
use Rattle.session_log.proofs.laws.ends_stay.Goals as goal

pub returns : goal.returns
returns g c = law
