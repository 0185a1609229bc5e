use Rattle.url_runs.proofs.Answered.{answered}
use Rattle.url_runs.proofs.laws.told_are_answered.Goals as goal

pub returns : goal.returns
returns c = answered
