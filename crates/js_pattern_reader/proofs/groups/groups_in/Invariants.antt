use Rattle.std.proofs.Common.{◌≡◌, ◌+◌, ◌≤◌, false, length}
use Rattle.js_pattern_reader.specs.Groups.{groups_from}
use Rattle.js_pattern_reader.proofs.groups.groups_in.Given as goal

abbrev pub invariant-loop-unit : goal.invariant-loop-unit
invariant-loop-unit l = (groups_from false false l.fn.units ≡ l.count + groups_from l.escaped l.within l.rest) × (l.count + length l.rest ≤ length l.fn.units)

abbrev pub decreases-loop-unit : goal.decreases-loop-unit
decreases-loop-unit l = length l.rest
