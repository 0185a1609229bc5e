use Rattle.memory_talk.proofs.There.{log_is_there as law}
use Rattle.memory_talk.proofs.laws.log_is_there.Goals as goal

pub returns : goal.returns
returns c = law
