use Rattle.poll_log.proofs.Bounds.{bounded as law}
use Rattle.poll_log.proofs.laws.beat_bound.Goals as goal

pub returns : goal.returns
returns c = law
