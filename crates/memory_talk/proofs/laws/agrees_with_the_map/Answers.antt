use Rattle.memory_talk.proofs.Agreeing.{agrees as law}
use Rattle.memory_talk.proofs.laws.agrees_with_the_map.Goals as goal

pub returns : goal.returns
returns g c = law
