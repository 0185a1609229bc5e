use Rattle.std.proofs.Common.{refl}
use Rattle.heap_steps.proofs.Chains.{forgets}
use Rattle.heap_steps.proofs.making.define_as.Goals as goal

pub returns-in_err-name : goal.returns-in_err-name
returns-in_err-name c = forgets _ _ c.from_residual.ensures.1 refl

pub returns : goal.returns
returns c = rw c.in_ok-name.ensures at c.define.ensures
