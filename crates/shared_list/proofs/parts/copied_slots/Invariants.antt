use Rattle.std.proofs.Common.{◌≡◌, ◌++◌, drop, map}
use Rattle.shared_list.specs.Slots.{written_in}
use Rattle.shared_list.proofs.parts.copied_slots.Given as goal

abbrev pub invariant-loop-slot : goal.invariant-loop-slot
invariant-loop-slot g l = map written_in l.copies.items ++ map written_in (drop l.slot-index l.slots) ≡ map written_in l.slots
