use Rattle.std.proofs.Common.{◌≡◌, drop}
use Rattle.heap_elements.specs.Properties.{with_properties}
use Rattle.heap_objects.specs.Slots.{standing}
use Rattle.heap_objects.proofs.slots.copy_slots.Given as goal

abbrev pub invariant-loop-slot : goal.invariant-loop-slot
invariant-loop-slot l = with_properties l.all (standing (drop l.slot-index l.row)) ≡ with_properties l.fn.all (standing l.row)
