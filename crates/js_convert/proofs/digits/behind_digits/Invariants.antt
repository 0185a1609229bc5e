use Rattle.std.proofs.Common.{◌≡◌, length}
use Rattle.js_convert.specs.Units.{behind_digits}
use Rattle.js_convert.proofs.digits.behind_digits.Given as goal

abbrev pub invariant-loop-first : goal.invariant-loop-first
invariant-loop-first l = behind_digits l.rest ≡ behind_digits l.units

abbrev pub decreases-loop-first : goal.decreases-loop-first
decreases-loop-first l = length l.rest
