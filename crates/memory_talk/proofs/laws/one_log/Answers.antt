use Rattle.memory_talk.proofs.Same.{one_log as law}
use Rattle.memory_talk.proofs.laws.one_log.Goals as goal

pub returns : goal.returns
returns c = law
