use Rattle.url_runs.proofs.Sound.{sound}
use Rattle.url_runs.proofs.laws.tasks_are_sound.Goals as goal

pub returns : goal.returns
returns c = sound
