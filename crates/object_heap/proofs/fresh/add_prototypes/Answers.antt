use Rattle.object_heap.specs.Fresh.{prototypes}
use Rattle.object_heap.proofs.fresh.add_prototypes.Goals as goal

pub returns : goal.returns
unfolding prototypes
returns c = c.add_objects.ensures
