use Rattle.memory_talk.proofs.Costs.{cut_costs_no_more as law}
use Rattle.memory_talk.proofs.laws.cut_costs_no_more.Goals as goal

pub returns : goal.returns
returns c = law
