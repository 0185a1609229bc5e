use Rattle.url_runs.proofs.Completions.{completion}
use Rattle.url_runs.proofs.laws.completions_are_there.Goals as goal

pub returns : goal.returns
returns c = completion
