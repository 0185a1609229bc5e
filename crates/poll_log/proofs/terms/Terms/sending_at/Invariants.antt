use Rattle.std.proofs.Common.{◌≡◌, ◌-◌, ◌<◌}
use Rattle.poll_log.specs.Sendings.{sending_among, sending_at}
use Rattle.poll_log.proofs.terms.Terms.sending_at.Given as goal

-- the sendings from this number on don't fall due at the age
abbrev pub invariant-loop-number : goal.invariant-loop-number
invariant-loop-number l = (0 < l.number) × (sending_at l.self l.age ≡ sending_among l.self.wait (l.number - 1) l.age)
