use Rattle.memory_talk.proofs.Replied.{all_replied as law}
use Rattle.memory_talk.proofs.laws.questions_are_replied.Goals as goal

pub returns : goal.returns
returns c = law
