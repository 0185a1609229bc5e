use Rattle.object_heap.specs.Fresh.{roots}
use Rattle.object_heap.proofs.fresh.add_roots.Goals as goal

pub returns : goal.returns
unfolding roots
returns c = c.add_objects.ensures
