use Rattle.std.proofs.Common.{◌≡◌, ◌+◌, length}
use Rattle.pac_match.specs.Matching.{has_match_in_some_end}
use Rattle.pac_match.proofs.pattern.matches_some_end.Given as goal

abbrev pub invariant-loop-rest : goal.invariant-loop-rest
invariant-loop-rest l = has_match_in_some_end l.pattern l.text ≡ has_match_in_some_end l.signs l.left

abbrev pub decreases-loop-rest : goal.decreases-loop-rest
decreases-loop-rest l = length l.left + length l.signs
