use Rattle.memory_talk.proofs.Room.{has_room as law}
use Rattle.memory_talk.proofs.laws.link_has_room.Goals as goal

pub returns : goal.returns
returns c = law
