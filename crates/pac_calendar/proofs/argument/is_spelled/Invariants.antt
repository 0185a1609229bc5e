use Rattle.std.proofs.Common.{◌≡◌, length}
use Rattle.pac_calendar.specs.Argument.{same}
use Rattle.pac_calendar.proofs.argument.is_spelled.Given as goal

abbrev pub invariant-loop-left : goal.invariant-loop-left
invariant-loop-left l = same l.units l.letters ≡ same l.left l.right

abbrev pub decreases-loop-left : goal.decreases-loop-left
decreases-loop-left l = length l.left
