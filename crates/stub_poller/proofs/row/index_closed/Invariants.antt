use Rattle.std.proofs.Common.{◌≡◌, ◌≤◌, filter, length, take}
use Rattle.stub_poller.specs.Slots.{IsIndexOf, flies, places_at}
use Rattle.stub_poller.proofs.row.index_closed.Given as goal

abbrev pub invariant-loop-slot : goal.invariant-loop-slot
invariant-loop-slot l = record {
  index : IsIndexOf (places_at l.places) (filter flies (take l.slot-index l.row));
  count : l.next ≡ length (filter flies (take l.slot-index l.row));
  few : l.next ≤ l.slot-index;
}
