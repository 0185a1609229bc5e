use Rattle.object_heap.specs.Fresh.{constructors}
use Rattle.object_heap.proofs.fresh.add_constructors.Goals as goal

pub returns : goal.returns
unfolding constructors
returns c = c.add_objects.ensures
