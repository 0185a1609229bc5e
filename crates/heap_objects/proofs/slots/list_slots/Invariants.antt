use Rattle.std.proofs.Common.{◌≡◌, ◌++◌, [], drop}
use Rattle.heap_elements.specs.Properties.{indexed_into, other_names}
use Rattle.heap_objects.specs.Slots.{standing}
use Rattle.heap_objects.proofs.slots.list_slots.Given as goal

abbrev pub invariant-loop-slot : goal.invariant-loop-slot
invariant-loop-slot l = (indexed_into l.indexed.entries (standing (drop l.slot-index l.row)) ≡ indexed_into [] (standing l.row)) × (l.others ++ other_names (standing (drop l.slot-index l.row)) ≡ other_names (standing l.row))
