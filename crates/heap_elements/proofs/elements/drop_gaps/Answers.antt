use Rattle.std.proofs.Common.{rules}
use Rattle.std.proofs.lemmas.List.Elements.{filter_from_retain}
use Rattle.heap_elements.specs.Elements.{is_filled}
use Rattle.heap_elements.proofs.elements.drop_gaps.Goals as goal

pub returns : goal.returns
returns c = filter_from_retain _ is_filled (λ p x b q k. search rules) _ _ _ c.retain.ensures.filtered
