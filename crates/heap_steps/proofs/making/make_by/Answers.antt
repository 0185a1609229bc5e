use Rattle.heap_steps.proofs.Bounds.{by_number}
use Rattle.heap_steps.proofs.making.make_by.Goals as goal

pub returns : goal.returns
returns c = rw (by_number _ _ c.built_in-prototype.ensures) at c.make.ensures
