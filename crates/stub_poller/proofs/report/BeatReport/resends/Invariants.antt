use Rattle.std.proofs.Common.{◌≡◌, take}
use Rattle.stub_poller.proofs.report.BeatReport.resends.Given as goal

abbrev pub invariant-loop-sending : goal.invariant-loop-sending
invariant-loop-sending l = l.copies.items ≡ take l.sending-index l.self.resend.items
