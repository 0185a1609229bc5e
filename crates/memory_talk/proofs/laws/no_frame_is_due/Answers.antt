use Rattle.memory_talk.proofs.Unframed.{none_due as law}
use Rattle.memory_talk.proofs.laws.no_frame_is_due.Goals as goal

pub returns : goal.returns
returns c = law
