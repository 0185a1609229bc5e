use Rattle.std.proofs.lemmas.List.Edits.{map_over_more}
use Rattle.stub_poller.specs.Slots.{young_here}
use Rattle.stub_poller.proofs.row.all_young.Goals as goal

pub loop-slot-preserved : goal.loop-slot-preserved
loop-slot-preserved c =
    rw (c.leave_if_over.ensures, ← c.slot-item.is) (map_over_more (young_here c.args.limit) c.args.row.now c.loop-slot.row c.loop-slot.slot-index c.slot-item.result c.loop-slot-test.true c.loop-slot.invariant c.slot-item.is)
