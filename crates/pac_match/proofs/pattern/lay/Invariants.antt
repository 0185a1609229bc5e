use Rattle.std.proofs.Common.{length}
use Rattle.pac_match.proofs.Walks.{IsWalked}
use Rattle.pac_match.proofs.pattern.lay.Given as goal

abbrev pub invariant-loop-sign : goal.invariant-loop-sign
invariant-loop-sign l = IsWalked l.pattern l.text l.signs l.left

abbrev pub decreases-loop-sign : goal.decreases-loop-sign
decreases-loop-sign l = length l.signs
