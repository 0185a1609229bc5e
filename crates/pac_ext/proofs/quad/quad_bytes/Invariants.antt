use Rattle.std.proofs.Common.{◌≡◌, take}
use Rattle.pac_ext.proofs.quad.quad_bytes.Given as goal

-- the bytes so far are the units so far
abbrev pub invariant-loop-unit : goal.invariant-loop-unit
invariant-loop-unit l = l.bytes.items ≡ take l.unit-index l.units
