use Rattle.std.proofs.Common.{◌≡◌, ◌+◌, ◌≤◌, ◌++◌, drop, length, map, vec_capacity, vec_len}
use Rattle.std.specs.List.{filter}
use Rattle.stub_poller.specs.State.{is_over, name_of}
use Rattle.stub_poller.specs.Slots.{flying}
use Rattle.stub_poller.proofs.report.list_deaths.Given as goal

abbrev pub invariant-loop-slot : goal.invariant-loop-slot
invariant-loop-slot l = record {
  listed : l.list.items ++ map name_of (filter (is_over l.limit) (flying (drop l.slot-index l.row))) ≡ map name_of (filter (is_over l.limit) (flying l.row));
  room : vec_len l.list + length (flying (drop l.slot-index l.row)) ≤ vec_capacity l.list;
  capacity : vec_capacity l.initial.list ≤ vec_capacity l.list;
}
