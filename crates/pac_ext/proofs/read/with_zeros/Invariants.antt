use Rattle.std.proofs.Common.{◌≡◌, ◌++◌, replicate}
use Rattle.pac_ext.proofs.read.with_zeros.Given as goal

-- so many zeros stand behind the groups
abbrev pub invariant-loop-zero : goal.invariant-loop-zero
invariant-loop-zero l = l.groups.items ≡ l.fn.groups.items ++ replicate l._zero 0
