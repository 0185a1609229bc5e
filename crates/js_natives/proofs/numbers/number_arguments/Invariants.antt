use Rattle.std.proofs.Common.{◌≡◌, ◌++◌, length, map}
use Rattle.js_evaluation.specs.NativeWork.{as_number_arg}
use Rattle.js_natives.proofs.numbers.number_arguments.Given as goal

abbrev pub invariant-loop-left : goal.invariant-loop-left
invariant-loop-left l = l.arguments ++ map as_number_arg l.left ≡ map as_number_arg l.values

abbrev pub decreases-loop-left : goal.decreases-loop-left
decreases-loop-left l = length l.left
