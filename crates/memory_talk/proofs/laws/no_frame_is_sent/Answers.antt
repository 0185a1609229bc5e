use Rattle.memory_talk.proofs.Unframed.{none_sent as law}
use Rattle.memory_talk.proofs.laws.no_frame_is_sent.Goals as goal

pub returns : goal.returns
returns c = law
