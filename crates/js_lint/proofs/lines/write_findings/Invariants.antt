use Rattle.std.proofs.Common.{◌≡◌, ◌++◌, length}
use Rattle.js_lint.specs.Lines.{lines_of}
use Rattle.js_lint.proofs.lines.write_findings.Given as goal

abbrev pub invariant-loop-left : goal.invariant-loop-left
invariant-loop-left l = l.out.items ++ lines_of l.left ≡ l.initial.out.items ++ lines_of l.found

abbrev pub decreases-loop-left : goal.decreases-loop-left
decreases-loop-left l = length l.left
