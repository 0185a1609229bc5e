use Rattle.heap_steps.proofs.Chains.{chained, stops}
use Rattle.js_pattern_natives.proofs.giving.give_values.Goals as goal

pub returns-in_err-spend_values : goal.returns-in_err-spend_values
returns-in_err-spend_values c = stops _ _ _ _ _ _ c.from_residual.ensures.1 c.in_err-spend_values.ensures

pub returns : goal.returns
returns c = chained _ _ _ _ _ _ _ c.in_ok-spend_values.ensures c.array_of.ensures
