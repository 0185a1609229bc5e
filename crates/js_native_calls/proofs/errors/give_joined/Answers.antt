use Rattle.std.proofs.Common.{refl}
use Rattle.js_machine.proofs.Steps.{forgets}
use Rattle.js_native_calls.proofs.errors.give_joined.Goals as goal

pub returns-in_err-text : goal.returns-in_err-text
returns-in_err-text c = forgets _ _ c.from_residual.ensures.1 refl

pub returns : goal.returns
returns c = rw c.in_ok-text.ensures at c.give_text.ensures
