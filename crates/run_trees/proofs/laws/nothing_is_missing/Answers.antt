use Rattle.run_trees.proofs.Names.{first_missing-wholly}
use Rattle.run_trees.proofs.laws.nothing_is_missing.Goals as goal

pub returns : goal.returns
returns c = first_missing-wholly
