use Rattle.std.proofs.Common.{◌≡◌, ◌+◌, length}
use Rattle.js_evaluation.specs.Walks.{text_units}
use Rattle.js_natives.proofs.walks.charge_text_units.Given as goal

abbrev pub invariant-loop-left : goal.invariant-loop-left
invariant-loop-left l = l.fuel + text_units l.values ≡ l.fn.fuel + text_units l.left

abbrev pub decreases-loop-left : goal.decreases-loop-left
decreases-loop-left l = length l.left
