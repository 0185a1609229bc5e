use Rattle.std.proofs.Common.{◌≡◌, ◌++◌, drop}
use Rattle.heap_elements.specs.Elements.{listed_numerals}
use Rattle.heap_elements.proofs.elements.Elements.listed_names.Given as goal

abbrev pub invariant-loop-slot : goal.invariant-loop-slot
invariant-loop-slot l = l.names ++ listed_numerals (drop l.slot-index l.self) ≡ listed_numerals l.self
