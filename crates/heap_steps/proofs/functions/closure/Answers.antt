use Rattle.std.proofs.Common.{refl}
use Rattle.heap_steps.proofs.Chains.{chained, stops}
use Rattle.heap_steps.proofs.functions.closure.Goals as goal

pub returns-in_err-function : goal.returns-in_err-function
returns-in_err-function c = stops _ _ _ _ _ _ c.from_residual.ensures.1 c.in_err-function.ensures

pub returns-in_err-define_as : goal.returns-in_err-define_as
returns-in_err-define_as c = chained _ _ _ _ _ _ _ c.in_ok-function.ensures (stops _ _ _ _ _ _ c.from_residual-in_err-define_as.ensures.1 (rw c.from.ensures at c.in_err-define_as.ensures))

pub returns-in_err-prototype : goal.returns-in_err-prototype
returns-in_err-prototype c = chained _ _ _ _ _ _ _ c.in_ok-function.ensures (chained _ _ _ _ _ _ _ (rw c.from.ensures at c.in_ok-define_as.ensures) (stops _ _ _ _ _ _ c.from_residual-in_err-prototype.ensures.1 c.in_err-prototype.ensures))

pub returns-in_err-define_as-2 : goal.returns-in_err-define_as-2
returns-in_err-define_as-2 c = chained _ _ _ _ _ _ _ c.in_ok-function.ensures (chained _ _ _ _ _ _ _ (rw c.from.ensures at c.in_ok-define_as.ensures) (chained _ _ _ _ _ _ _ c.in_ok-prototype.ensures (stops _ _ _ _ _ _ c.from_residual-in_err-define_as-2.ensures.1 c.in_err-define_as-2.ensures)))

pub returns-in_err-define_as-3 : goal.returns-in_err-define_as-3
returns-in_err-define_as-3 c = chained _ _ _ _ _ _ _ c.in_ok-function.ensures (chained _ _ _ _ _ _ _ (rw c.from.ensures at c.in_ok-define_as.ensures) (chained _ _ _ _ _ _ _ c.in_ok-prototype.ensures (chained _ _ _ _ _ _ _ c.in_ok-define_as-2.ensures (stops _ _ _ _ _ _ c.from_residual-in_err-define_as-3.ensures.1 c.in_err-define_as-3.ensures))))

pub returns : goal.returns
returns c = chained _ _ _ _ _ _ _ c.in_ok-function.ensures (chained _ _ _ _ _ _ _ (rw c.from.ensures at c.in_ok-define_as.ensures) (chained _ _ _ _ _ _ _ c.in_ok-prototype.ensures (chained _ _ _ _ _ _ _ c.in_ok-define_as-2.ensures (chained _ _ _ _ _ _ _ c.in_ok-define_as-3.ensures (record { is = λ after fuel beside. refl })))))
