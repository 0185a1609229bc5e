use Rattle.std.proofs.Common.{arith}
use Rattle.stub_poller.specs.Slots.{places_at}
use Rattle.stub_poller.proofs.Rows.{closed_more}
use Rattle.stub_poller.proofs.row.index_closed.Goals as goal

pub loop-slot-preserved : goal.loop-slot-preserved
loop-slot-preserved c =
    let more = closed_more (places_at c.loop-slot.places) (places_at c.add_place.new.index) c.args.row.now c.loop-slot.slot-index c.loop-slot.next c.number.result c.slot-item.result c.loop-slot-test.true c.slot-item.is (cc) c.loop-slot.invariant.index c.loop-slot.invariant.count c.number.ensures c.in_ok-add_place.ensures.added in
    record { index = more.index; count = more.count; few = omega (arith, c.loop-slot.invariant.few) }
