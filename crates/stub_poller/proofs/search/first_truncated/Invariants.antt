use Rattle.std.proofs.Common.{◌≡◌, drop}
use Rattle.stub_poller.specs.Slots.{first_in, cut_here}
use Rattle.stub_poller.proofs.Rows.{found_at}
use Rattle.stub_poller.proofs.search.first_truncated.Given as goal

abbrev pub invariant-loop-place : goal.invariant-loop-place
invariant-loop-place l = first_in (cut_here l.datagram) l.row ≡ found_at (cut_here l.datagram) l.row (drop l.place-index l.places)
