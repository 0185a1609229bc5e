use Rattle.std.proofs.Common.{refl}
use Rattle.heap_steps.proofs.Chains.{forgets}
use Rattle.heap_steps.proofs.names.throw_unknown.Goals as goal

pub returns-in_err-behind : goal.returns-in_err-behind
returns-in_err-behind c = forgets _ _ c.from_residual.ensures.1 refl

pub returns-in_err-message : goal.returns-in_err-message
returns-in_err-message c = forgets _ _ c.from_residual-in_err-message.ensures.1 refl

pub returns : goal.returns
returns c = rw (c.in_ok-message.ensures, c.in_ok-behind.ensures) at c.throw_error.ensures
