use Rattle.std.proofs.Common.{refl}
use Rattle.heap_steps.proofs.Chains.{forgets}
use Rattle.js_entries.proofs.names.function_object.Goals as goal

pub returns-in_err-arity : goal.returns-in_err-arity
returns-in_err-arity c = forgets _ _ c.from_residual.ensures.1 refl

pub returns : goal.returns
returns c = rw c.in_ok-arity.ensures at c.closure.ensures
