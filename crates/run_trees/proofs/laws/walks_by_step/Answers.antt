use Rattle.run_trees.proofs.Steps.{steps}
use Rattle.run_trees.proofs.laws.walks_by_step.Goals as goal

pub returns : goal.returns
returns g c = steps
