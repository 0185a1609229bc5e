use Rattle.std.proofs.Common.{arith}
use Rattle.pac_generate.proofs.LogLaws.{kept_new}
use Rattle.pac_generate.proofs.map_link.MapLink.new.Goals as goal

pub invariant_of-result : goal.invariant_of-result
invariant_of-result g c = (
  omega (arith, c.in_ok-with_capacity.ensures.len),
  c.in_ok-with_capacity.ensures.capacity,
  omega (arith, c.in_ok-with_capacity-2.ensures.len),
  c.in_ok-with_capacity-2.ensures.capacity,
  omega arith,
  omega arith,
  rw (c.in_ok-with_capacity.ensures.items, c.in_ok-with_capacity-2.ensures.items) (kept_new _ _ c.requires),
)
