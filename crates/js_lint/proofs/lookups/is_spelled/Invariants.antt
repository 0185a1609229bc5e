use Rattle.std.proofs.Common.{◌≡◌, bytes_eq, length}
use Rattle.js_lint.proofs.lookups.is_spelled.Given as goal

abbrev pub invariant-loop-left : goal.invariant-loop-left
invariant-loop-left l = bytes_eq l.units l.letters ≡ bytes_eq l.left l.right

abbrev pub decreases-loop-left : goal.decreases-loop-left
decreases-loop-left l = length l.left
