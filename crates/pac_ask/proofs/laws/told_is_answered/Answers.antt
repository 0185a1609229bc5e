use Rattle.pac_ask.proofs.Answered.{answered}
use Rattle.pac_ask.proofs.laws.told_is_answered.Goals as goal

pub returns : goal.returns
returns c = answered
