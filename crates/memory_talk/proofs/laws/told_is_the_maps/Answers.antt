use Rattle.memory_talk.proofs.Told.{told_is_maps as law}
use Rattle.memory_talk.proofs.laws.told_is_the_maps.Goals as goal

pub returns : goal.returns
returns c = law
