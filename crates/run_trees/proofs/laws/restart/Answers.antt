use Rattle.run_trees.proofs.Restarting.{restarts}
use Rattle.run_trees.proofs.laws.restart.Goals as goal

pub returns : goal.returns
returns g c = λ run known. restarts run known
