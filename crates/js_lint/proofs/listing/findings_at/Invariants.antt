use Rattle.std.proofs.Common.{◌≡◌, ◌++◌, length}
use Rattle.js_scope.specs.Functions.{functions_of}
use Rattle.js_lint.specs.Findings.{findings_at}
use Rattle.js_lint.proofs.listing.findings_at.Given as goal

abbrev pub invariant-loop-left : goal.invariant-loop-left
invariant-loop-left l = l.found ++ findings_at l.own (functions_of l.functions) l.left ≡ findings_at l.own (functions_of l.functions) l.sites

abbrev pub decreases-loop-left : goal.decreases-loop-left
decreases-loop-left l = length l.left
