use Rattle.std.proofs.Common.{◌≡◌, ◌++◌, drop, map, take}
use Rattle.stub_poller.specs.Slots.{older_here}
use Rattle.stub_poller.proofs.row.all_older.Given as goal

abbrev pub invariant-loop-slot : goal.invariant-loop-slot
invariant-loop-slot l = l.row ≡ map older_here (take l.slot-index l.fn.row) ++ drop l.slot-index l.fn.row
