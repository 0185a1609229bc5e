use Rattle.std.proofs.Common.{◌≡◌, ◌+◌, ◌≤◌, ◌++◌, drop, filter_map, length, vec_capacity, vec_len}
use Rattle.stub_poller.specs.State.{sending_of}
use Rattle.stub_poller.specs.Slots.{flying}
use Rattle.stub_poller.proofs.report.list_resends.Given as goal

abbrev pub invariant-loop-slot : goal.invariant-loop-slot
invariant-loop-slot l = record {
  listed : l.list.items ++ filter_map (sending_of l.terms) (flying (drop l.slot-index l.row)) ≡ filter_map (sending_of l.terms) (flying l.row);
  room : vec_len l.list + length (flying (drop l.slot-index l.row)) ≤ vec_capacity l.list;
  capacity : vec_capacity l.initial.list ≤ vec_capacity l.list;
}
