use Rattle.std.proofs.Common.{rules}
use Rattle.heap_objects.proofs.PlaceLemmas.{updated_from}
use Rattle.heap_objects.proofs.index.place_or.Goals as goal

pub returns-clause-after : goal.returns-clause-after
returns-clause-after c = updated_from _ _ _ _ (search rules)
