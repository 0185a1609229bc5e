use Rattle.session_log.proofs.Totals.{grown as law}
use Rattle.session_log.proofs.laws.runs_grow.Goals as goal

pub returns : goal.returns
returns c = law
