use Rattle.std.proofs.Common.{◌-◌, ◌<◌, ◌∙◌, arith}
use Rattle.std.proofs.lemmas.Bool.Decides.{nat_tests}
use Rattle.poll_log.specs.declared.terms.TheConstants.{FLOOD}
use Rattle.poll_loop.proofs.Counting.{flood_beat, flood_counted, no_beat, one_counted, tick_beat, tick_counted}
use Rattle.poll_loop.proofs.beats.BeatCounter.count.Goals as goal
use Rattle.poll_loop.proofs.beats.BeatCounter.count.Goals.{in_default-via-in-Datagram+else-self, in_default-via-in_default}

pub returns-in-Datagram-clause-beat : goal.returns-in-Datagram-clause-beat
returns-in-Datagram-clause-beat c turns k =
    let low : c.self.inside.datagrams < FLOOD - 1 = grind (arith, nat_tests) in
    rw c.in-Datagram.is (no_beat turns _ c.self.inside.datagrams (c.self.view_is ∙ k) low)

pub returns-in-Datagram-clause-counted : goal.returns-in-Datagram-clause-counted
returns-in-Datagram-clause-counted c turns sent k =
    let low : c.self.inside.datagrams < FLOOD - 1 = grind (arith, nat_tests) in
    rw c.in-Datagram.is (one_counted turns _ c.self.inside.datagrams (c.self.view_is ∙ k) low sent)

pub returns-in_default-clause-beat : goal.returns-in_default-clause-beat
returns-in_default-clause-beat c turns k =
    elim c.in_default.branch [
      | in_default-via-in-Datagram+else-self w ↦ rw w.in-Datagram.is (flood_beat turns _ c.self.inside.datagrams (c.self.view_is ∙ k) w.if-self.false)
      | in_default-via-in_default w ↦ rw w.in_default.is (tick_beat turns)
    ]

pub returns-in_default-clause-counted : goal.returns-in_default-clause-counted
returns-in_default-clause-counted c turns sent k =
    elim c.in_default.branch [
      | in_default-via-in-Datagram+else-self w ↦ rw w.in-Datagram.is (flood_counted turns _ c.self.inside.datagrams (c.self.view_is ∙ k) w.if-self.false sent)
      | in_default-via-in_default w ↦ rw w.in_default.is (tick_counted turns sent)
    ]
