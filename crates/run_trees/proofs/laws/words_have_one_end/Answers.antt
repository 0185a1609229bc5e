use Rattle.run_trees.proofs.Ending.{words}
use Rattle.run_trees.proofs.laws.words_have_one_end.Goals as goal

pub returns : goal.returns
returns g c = words
