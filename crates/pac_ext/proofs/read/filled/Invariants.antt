use Rattle.std.proofs.Common.{◌≡◌, ◌+◌, ◌-◌, ◌++◌, length, replicate, take}
use Rattle.pac_ext.proofs.read.filled.Given as goal

-- the second side so far stands behind the zeros
abbrev pub invariant-loop-group : goal.invariant-loop-group
invariant-loop-group l =
    (l.groups.items ≡ l.fn.head.items ++ replicate (8 - (length l.fn.head.items + length l.tail)) 0 ++ take l.group-index l.tail)
    × (length l.groups.items + length l.tail ≡ 8 + l.group-index)
