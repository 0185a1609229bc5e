use Rattle.std.proofs.Common.{◌≡◌, ◌++◌, drop, map, take}
use Rattle.stub_poller.specs.Slots.{young_here}
use Rattle.stub_poller.proofs.row.all_young.Given as goal

abbrev pub invariant-loop-slot : goal.invariant-loop-slot
invariant-loop-slot l = l.row ≡ map (young_here l.limit) (take l.slot-index l.fn.row) ++ drop l.slot-index l.fn.row
