use Rattle.std.proofs.Common.{◌<◌, ◌∙◌, Some, None, ap, sym, arith, get_or, length}
use Rattle.dns_message.specs.Numbers.{number_at}
use Rattle.stub_poller.specs.Slots.{replied}
use Rattle.stub_poller.proofs.FlightLists.{unless_some}
use Rattle.stub_poller.proofs.Rows.{replied_other, found_at, found_by_number, look_next, low_in}
use Rattle.stub_poller.proofs.search.first_answered.Goals as goal

pub loop-place-init : goal.loop-place-init
loop-place-init c =
    found_by_number (replied c.args.datagram.now) (number_at c.args.datagram.now 0) (replied_other c.args.datagram.now) c.args.row.now
    ∙ ap (found_at (replied c.args.datagram.now) c.args.row.now) (sym c.requires)

pub bounds-row-at : goal.bounds-row-at
bounds-row-at c = low_in (number_at c.args.datagram.now 0) c.args.row.now c.args.places.now c.loop-place.place-index 0 c.requires c.loop-place-test.true

pub offset_bounds-row-at : goal.offset_bounds-row-at
offset_bounds-row-at c =
    let low : get_or c.args.places.now c.loop-place.place-index 0 < length c.args.row.now =
    low_in (number_at c.args.datagram.now 0) c.args.row.now c.args.places.now c.loop-place.place-index 0 c.requires c.loop-place-test.true
    in
    omega arith

pub returns-in-Some : goal.returns-in-Some
returns-in-Some c =
    sym (look_next (replied c.args.datagram.now) c.args.row.now c.args.places.now c.loop-place.place-index 0 c.index-row-at.result (Some c.in-Some.what) c.loop-place-test.true
    (low_in (number_at c.args.datagram.now 0) c.args.row.now c.args.places.now c.loop-place.place-index 0 c.requires c.loop-place-test.true)
    c.loop-place.invariant c.index-row-at.is (sym c.in-Some.is ∙ c.answered.ensures))

pub loop-place-preserved : goal.loop-place-preserved
loop-place-preserved c =
    look_next (replied c.args.datagram.now) c.args.row.now c.args.places.now c.loop-place.place-index 0 c.index-row-at.result None c.loop-place-test.true
    (low_in (number_at c.args.datagram.now 0) c.args.row.now c.args.places.now c.loop-place.place-index 0 c.requires c.loop-place-test.true)
    c.loop-place.invariant c.index-row-at.is (sym (unless_some c.answered.result c.in_default.not-Some) ∙ c.answered.ensures)
