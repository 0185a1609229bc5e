use Rattle.std.proofs.Common.{refl}
use Rattle.heap_steps.proofs.Chains.{forgets}
use Rattle.js_natives.proofs.lists.define_element.Goals as goal

pub returns-in_err-element : goal.returns-in_err-element
returns-in_err-element c = forgets _ _ c.from_residual.ensures.1 refl

pub returns : goal.returns
returns c = rw c.in_ok-element.ensures at c.define_at.ensures
