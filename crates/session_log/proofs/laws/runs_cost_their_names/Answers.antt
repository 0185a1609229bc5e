use Rattle.session_log.proofs.Ends.{costs as law}
use Rattle.session_log.proofs.laws.runs_cost_their_names.Goals as goal

pub returns : goal.returns
returns g c = law
