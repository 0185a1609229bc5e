use Rattle.memory_talk.proofs.Front.{cut_is_front as law}
use Rattle.memory_talk.proofs.laws.cut_is_front.Goals as goal

pub returns : goal.returns
returns c = law
