use Rattle.poll_log.proofs.Finished.{all_finished as law}
use Rattle.poll_log.proofs.laws.all_told_finishes.Goals as goal

pub returns : goal.returns
returns c = law
