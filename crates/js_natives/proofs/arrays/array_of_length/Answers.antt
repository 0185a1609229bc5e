use Rattle.std.proofs.Common.{refl}
use Rattle.heap_steps.proofs.Chains.{chained, stops}
use Rattle.js_natives.proofs.arrays.array_of_length.Goals as goal

pub returns-in_err-put_on : goal.returns-in_err-put_on
returns-in_err-put_on c = chained _ _ _ _ _ _ _ c.in_ok-array.ensures (stops _ _ _ _ _ _ c.from_residual-in_err-put_on.ensures.1 (rw c.in_ok-name.ensures at c.in_err-put_on.ensures))

pub returns : goal.returns
returns c = chained _ _ _ _ _ _ _ c.in_ok-array.ensures (chained _ _ _ _ _ _ _ (rw c.in_ok-name.ensures at c.in_ok-put_on.ensures) (record { is = λ after fuel beside. refl }))
