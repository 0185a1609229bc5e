use Rattle.std.proofs.Common.{refl}
use Rattle.js_machine.proofs.Steps.{forgets}
use Rattle.js_primary.proofs.calls.argument_done.Goals as goal

pub returns-in_err-push : goal.returns-in_err-push
returns-in_err-push c = forgets _ _ c.from_residual.ensures.1 refl

pub returns : goal.returns
returns c = rw c.in_ok-push.ensures.ok at c.arguments_from.ensures
