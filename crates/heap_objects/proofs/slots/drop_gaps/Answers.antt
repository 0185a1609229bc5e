use Rattle.std.proofs.Common.{rules, is_some}
use Rattle.std.proofs.lemmas.List.Elements.{filter_from_retain}
use Rattle.heap_objects.proofs.slots.drop_gaps.Goals as goal

pub returns-clause-after : goal.returns-clause-after
returns-clause-after c = filter_from_retain _ is_some (λ p x b q k. search rules) _ _ _ c.retain.ensures.filtered
