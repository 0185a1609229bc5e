use Rattle.heap_objects.proofs.KeyLemmas.{marked_from}
use Rattle.heap_objects.proofs.name_set.mark.Goals as goal

pub returns-clause-ok : goal.returns-clause-ok
returns-clause-ok c = marked_from _ _ _ _ c.in_ok-_new.ensures.updates.0
