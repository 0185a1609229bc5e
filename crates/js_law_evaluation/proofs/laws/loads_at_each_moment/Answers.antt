use Rattle.js_law_evaluation.proofs.OfLoads as of_loads
use Rattle.js_law_evaluation.proofs.laws.loads_at_each_moment.Goals as goal

pub returns : goal.returns
returns c = of_loads.loads_at_each_moment
