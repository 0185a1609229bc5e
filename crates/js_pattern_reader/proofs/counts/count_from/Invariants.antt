use Rattle.std.proofs.Common.{◌≡◌, ◌≤◌, length}
use Rattle.js_pattern_reader.specs.declared.limits.TheConstants.{MOST_TIMES}
use Rattle.js_pattern_reader.specs.Counts.{count_from}
use Rattle.js_pattern_reader.proofs.counts.count_from.Given as goal

abbrev pub invariant-loop-unit : goal.invariant-loop-unit
invariant-loop-unit l = (count_from l.fn.first l.fn.units ≡ count_from l.count l.rest) × (l.count ≤ MOST_TIMES)

abbrev pub decreases-loop-unit : goal.decreases-loop-unit
decreases-loop-unit l = length l.rest
