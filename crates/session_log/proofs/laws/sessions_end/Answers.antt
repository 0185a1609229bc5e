use Rattle.session_log.proofs.Ends.{one_end as law}
use Rattle.session_log.proofs.laws.sessions_end.Goals as goal

pub returns : goal.returns
returns g c = law
