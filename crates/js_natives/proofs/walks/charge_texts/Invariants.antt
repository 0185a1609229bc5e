use Rattle.std.proofs.Common.{◌≡◌, ◌+◌, length}
use Rattle.js_evaluation.specs.Walks.{units_of}
use Rattle.js_natives.proofs.walks.charge_texts.Given as goal

abbrev pub invariant-loop-left : goal.invariant-loop-left
invariant-loop-left l = l.fuel + units_of l.arguments ≡ l.fn.fuel + units_of l.left

abbrev pub decreases-loop-left : goal.decreases-loop-left
decreases-loop-left l = length l.left
