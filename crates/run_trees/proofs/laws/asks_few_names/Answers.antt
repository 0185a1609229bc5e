use Rattle.std.proofs.Common.{[]}
use Rattle.run_trees.proofs.Few.{few-none, few-rest}
use Rattle.run_trees.proofs.laws.asks_few_names.Goals as goal

pub returns : goal.returns
returns g c = λ run all. few-rest all run [] few-none
