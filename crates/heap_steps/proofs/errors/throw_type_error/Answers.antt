use Rattle.std.proofs.Common.{refl}
use Rattle.heap_steps.proofs.Chains.{forgets}
use Rattle.heap_steps.proofs.errors.throw_type_error.Goals as goal

pub returns-in_err-message : goal.returns-in_err-message
returns-in_err-message g c = forgets _ _ c.from_residual.ensures.1 refl

pub returns : goal.returns
returns g c = rw c.in_ok-message.ensures at c.throw_error.ensures
