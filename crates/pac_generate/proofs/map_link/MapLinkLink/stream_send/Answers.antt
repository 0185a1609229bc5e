use Rattle.std.proofs.Common.{arith}
use Rattle.pac_generate.proofs.LogLaws.{kept_failed}
use Rattle.pac_generate.proofs.map_link.MapLinkLink.stream_send.Goals as goal

pub invariant_of-self : goal.invariant_of-self
invariant_of-self g c = (
  omega (arith, c.push_reserved.ensures.len, c.len.ensures, c.if-len-ge-MOST_MOVES.false),
  omega (arith, c.push_reserved.ensures.capacity, c.self.invariant.1),
  c.self.invariant.2,
  c.self.invariant.3,
  c.self.invariant.4,
  omega (arith, c.self.invariant.5),
  rw (c.push_reserved.ensures.items, c.new-octets.ensures) (kept_failed _ _ _ _ _ _ c.self.invariant.6),
)
