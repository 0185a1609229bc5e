use Rattle.run_trees.proofs.Restarting.{extended}
use Rattle.run_trees.proofs.laws.extension.Goals as goal

pub returns : goal.returns
returns g c = λ run before after extends. extended run before after extends
