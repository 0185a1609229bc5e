use Rattle.std.proofs.Common.{length}
use Rattle.stream_cases.proofs.streams.take.Given as goal

-- the octets that are left
abbrev pub decreases-loop-left : goal.decreases-loop-left
decreases-loop-left l = length l.left
