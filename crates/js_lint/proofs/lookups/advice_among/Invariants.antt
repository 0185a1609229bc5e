use Rattle.std.proofs.Common.{◌≡◌, length, map}
use Rattle.js_lint.specs.Tables.{member_read, advice_among}
use Rattle.js_lint.proofs.lookups.advice_among.Given as goal

abbrev pub invariant-loop-left : goal.invariant-loop-left
invariant-loop-left l = advice_among (map member_read l.left) l.object l.name ≡ advice_among (map member_read l.rows) l.object l.name

abbrev pub decreases-loop-left : goal.decreases-loop-left
decreases-loop-left l = length l.left
