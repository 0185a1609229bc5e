use Rattle.std.proofs.Common.{◌≡◌, ◌++◌, length, map}
use Rattle.js_evaluation.specs.NativeWork.{unit_of}
use Rattle.js_natives.proofs.texts.units_of.Given as goal

abbrev pub invariant-loop-left : goal.invariant-loop-left
invariant-loop-left l = l.units.items ++ map unit_of l.left ≡ map unit_of l.values

abbrev pub decreases-loop-left : goal.decreases-loop-left
decreases-loop-left l = length l.left
