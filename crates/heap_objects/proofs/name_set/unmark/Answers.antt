use Rattle.heap_objects.proofs.KeyLemmas.{marked_from}
use Rattle.heap_objects.proofs.name_set.unmark.Goals as goal

pub returns : goal.returns
returns c = marked_from _ _ _ _ c.remove-found.ensures.updates.0
