use Rattle.std.proofs.Common.{◌≡◌, ◌++◌, drop}
use Rattle.heap_objects.proofs.slots.copied_row.Given as goal

abbrev pub invariant-loop-slot : goal.invariant-loop-slot
invariant-loop-slot l = l.copies.items ++ drop l.slot-index l.row ≡ l.row
