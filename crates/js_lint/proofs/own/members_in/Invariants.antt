use Rattle.std.proofs.Common.{◌≡◌, ◌++◌, length}
use Rattle.js_lint.specs.Own.{members_in}
use Rattle.js_lint.proofs.own.members_in.Given as goal

abbrev pub invariant-loop-left : goal.invariant-loop-left
invariant-loop-left l = l.names ++ members_in l.left ≡ members_in l.sites

abbrev pub decreases-loop-left : goal.decreases-loop-left
decreases-loop-left l = length l.left
