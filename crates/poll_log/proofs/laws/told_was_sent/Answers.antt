use Rattle.poll_log.proofs.Grows.{told_was_sent as law}
use Rattle.poll_log.proofs.laws.told_was_sent.Goals as goal

pub returns : goal.returns
returns c = law
