use Rattle.std.proofs.lemmas.List.Edits.{map_over_more}
use Rattle.stub_poller.specs.Slots.{older_here}
use Rattle.stub_poller.proofs.row.all_older.Goals as goal

pub loop-slot-preserved : goal.loop-slot-preserved
loop-slot-preserved c =
    rw (c.grow_older.ensures, ← c.slot-item.is) (map_over_more older_here c.args.row.now c.loop-slot.row c.loop-slot.slot-index c.slot-item.result c.loop-slot-test.true c.loop-slot.invariant c.slot-item.is)
