use Rattle.std.proofs.Common.{refl}
use Rattle.js_machine.proofs.Steps.{forgets}
use Rattle.js_native_calls.proofs.errors.error_message.Goals as goal

pub returns-in_err-message : goal.returns-in_err-message
returns-in_err-message c = forgets _ _ c.from_residual.ensures.1 refl

pub returns : goal.returns
returns c = rw c.in_ok-message.ensures at c.give_joined.ensures
