use Rattle.poll_log.proofs.Grows.{unanswered_stays as law}
use Rattle.poll_log.proofs.laws.unanswered_stays.Goals as goal

pub returns : goal.returns
returns c = law
