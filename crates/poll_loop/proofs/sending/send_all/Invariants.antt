use Rattle.std.proofs.Common.{◌≡◌, map, take}
use Rattle.pac_ports.specs.Link.{with_moves}
use Rattle.poll_log.specs.Rounds.{sent_move}
use Rattle.poll_log.specs.Questions.{outgoing_of}
use Rattle.poll_loop.proofs.sending.send_all.Given as goal

-- so many questions were sent
abbrev pub invariant-loop-sending : goal.invariant-loop-sending
invariant-loop-sending g l = g.N.Link.state l.link ≡ with_moves (map sent_move (take l.sending-index (map outgoing_of l.sendings))) (g.N.Link.state l.fn.link)
