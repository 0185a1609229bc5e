use Rattle.std.proofs.Common.{refl}
use Rattle.heap_steps.proofs.Chains.{forgets}
use Rattle.heap_steps.proofs.writing.delete_property.Goals as goal

pub returns-in_err-own_of-in-Text : goal.returns-in_err-own_of-in-Text
returns-in_err-own_of-in-Text c = forgets _ _ c.from_residual.ensures.1 refl

pub returns-in-Object : goal.returns-in-Object
returns-in-Object c = rw c.in-Object.is c.delete_of.ensures
