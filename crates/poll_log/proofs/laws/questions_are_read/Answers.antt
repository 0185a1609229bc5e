use Rattle.poll_log.proofs.Asking.{asked_by-octets_of as law}
use Rattle.poll_log.proofs.laws.questions_are_read.Goals as goal

pub returns : goal.returns
returns c = law
