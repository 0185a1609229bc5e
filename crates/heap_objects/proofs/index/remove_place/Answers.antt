use Rattle.heap_objects.proofs.PlaceLemmas.{updated_from}
use Rattle.heap_objects.proofs.index.remove_place.Goals as goal

pub returns-clause-after : goal.returns-clause-after
returns-clause-after c = updated_from _ _ _ _ c.remove.ensures.updates.0
