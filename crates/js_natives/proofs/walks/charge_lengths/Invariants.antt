use Rattle.std.proofs.Common.{◌≡◌, ◌+◌, length}
use Rattle.js_evaluation.specs.NativeWork.{lengths_in}
use Rattle.js_natives.proofs.walks.charge_lengths.Given as goal

abbrev pub invariant-loop-left : goal.invariant-loop-left
invariant-loop-left l = l.fuel + lengths_in l.heap l.values ≡ l.fn.fuel + lengths_in l.heap l.left

abbrev pub decreases-loop-left : goal.decreases-loop-left
decreases-loop-left l = length l.left
