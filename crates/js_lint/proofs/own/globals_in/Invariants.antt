use Rattle.std.proofs.Common.{◌≡◌, ◌++◌, length}
use Rattle.js_lint.specs.Own.{globals_in}
use Rattle.js_lint.proofs.own.globals_in.Given as goal

abbrev pub invariant-loop-left : goal.invariant-loop-left
invariant-loop-left l = l.names ++ globals_in l.left ≡ globals_in l.sites

abbrev pub decreases-loop-left : goal.decreases-loop-left
decreases-loop-left l = length l.left
