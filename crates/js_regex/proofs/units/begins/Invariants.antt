use Rattle.std.proofs.Common.{◌≡◌, length}
use Rattle.js_pattern.specs.Leaves.{begins}
use Rattle.js_regex.proofs.units.begins.Given as goal

abbrev pub invariant-loop-unit : goal.invariant-loop-unit
invariant-loop-unit l = begins l.fn.ignore_case l.fn.units l.fn.text ≡ begins l.fn.ignore_case l.left l.rest

abbrev pub decreases-loop-unit : goal.decreases-loop-unit
decreases-loop-unit l = length l.left
