use Rattle.std.proofs.Common.{◌≡◌, drop}
use Rattle.stub_poller.specs.Slots.{first_in, replied}
use Rattle.stub_poller.proofs.Rows.{found_at}
use Rattle.stub_poller.proofs.search.first_answered.Given as goal

abbrev pub invariant-loop-place : goal.invariant-loop-place
invariant-loop-place l = first_in (replied l.datagram) l.row ≡ found_at (replied l.datagram) l.row (drop l.place-index l.places)
