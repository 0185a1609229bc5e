use Rattle.std.proofs.Common.{[]}
use Rattle.run_trees.proofs.Answering.{rest-same}
use Rattle.run_trees.proofs.laws.depends_on_its_names.Goals as goal

pub returns : goal.returns
returns g c = λ run one other all. rest-same one other run [] all
