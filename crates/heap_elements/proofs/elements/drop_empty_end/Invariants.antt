use Rattle.std.proofs.Common.{◌≡◌, length}
use Rattle.heap_elements.specs.Elements.{elements_of, AreRising}
use Rattle.heap_elements.proofs.elements.drop_empty_end.Given as goal

abbrev pub invariant-loop-slots : goal.invariant-loop-slots
invariant-loop-slots l = (elements_of l.slots.items ≡ elements_of l.fn.slots.items) × AreRising 0 l.slots.items

abbrev pub decreases-loop-slots : goal.decreases-loop-slots
decreases-loop-slots l = length l.slots.items
