use Rattle.std.proofs.Common.{◌≡◌, ◌++◌, drop}
use Rattle.heap_elements.specs.Elements.{elements_of}
use Rattle.heap_elements.proofs.elements.Elements.entries.Given as goal

abbrev pub invariant-loop-slot : goal.invariant-loop-slot
invariant-loop-slot l = l.row.items ++ elements_of (drop l.slot-index l.self) ≡ elements_of l.self
