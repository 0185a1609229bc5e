use Rattle.std.proofs.Common.{refl}
use Rattle.heap_steps.proofs.Chains.{chained, stops}
use Rattle.heap_steps.proofs.primitives.counted_text.Goals as goal

pub returns-in_err-spend : goal.returns-in_err-spend
returns-in_err-spend c = stops _ _ _ _ _ _ c.from_residual.ensures.1 c.in_err-spend.ensures

pub returns : goal.returns
returns c = chained _ _ _ _ _ _ _ c.in_ok-spend.ensures (record { is = λ after fuel beside. refl })
