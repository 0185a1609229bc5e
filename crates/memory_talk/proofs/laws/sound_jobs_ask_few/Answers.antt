use Rattle.memory_talk.proofs.Room.{sound_few as law}
use Rattle.memory_talk.proofs.laws.sound_jobs_ask_few.Goals as goal

pub returns : goal.returns
returns c = law
