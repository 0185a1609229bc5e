use Rattle.std.proofs.Common.{◌≡◌, length}
use Rattle.js_pattern.specs.Leaves.{in_items}
use Rattle.js_regex.proofs.units.in_items.Given as goal

abbrev pub invariant-loop-item : goal.invariant-loop-item
invariant-loop-item l = in_items l.fn.items l.fn.unit ≡ in_items l.left l.fn.unit

abbrev pub decreases-loop-item : goal.decreases-loop-item
decreases-loop-item l = length l.left
