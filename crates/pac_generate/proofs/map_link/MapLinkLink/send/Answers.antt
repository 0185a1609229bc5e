use Rattle.std.proofs.Common.{arith}
use Rattle.pac_generate.proofs.LogLaws.{kept_sent}
use Rattle.pac_generate.proofs.map_link.MapLinkLink.send.Goals as goal

pub invariant_of-self : goal.invariant_of-self
invariant_of-self g c = (
  omega (arith, c.push_reserved.ensures.len, c.len.ensures, c.if-len-ge-MOST_MOVES.false),
  omega (arith, c.push_reserved.ensures.capacity, c.self.invariant.1),
  c.keep_reply.ensures.within,
  c.keep_reply.ensures.room,
  c.self.invariant.4,
  c.self.invariant.5,
  rw (c.push_reserved.ensures.items, c.new-octets.ensures) (kept_sent _ _ _ _ _ _ _ _ c.self.invariant.6 c.keep_reply.ensures.kept),
)
