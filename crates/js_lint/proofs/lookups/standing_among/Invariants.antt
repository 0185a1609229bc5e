use Rattle.std.proofs.Common.{◌≡◌, length, map}
use Rattle.js_lint.specs.Tables.{name_read, standing_among}
use Rattle.js_lint.proofs.lookups.standing_among.Given as goal

abbrev pub invariant-loop-left : goal.invariant-loop-left
invariant-loop-left l = standing_among (map name_read l.left) l.name ≡ standing_among (map name_read l.rows) l.name

abbrev pub decreases-loop-left : goal.decreases-loop-left
decreases-loop-left l = length l.left
