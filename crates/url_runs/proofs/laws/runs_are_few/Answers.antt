use Rattle.url_runs.proofs.Counting.{few}
use Rattle.url_runs.proofs.laws.runs_are_few.Goals as goal

pub returns : goal.returns
returns c = few
