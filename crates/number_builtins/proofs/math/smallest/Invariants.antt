use Rattle.std.proofs.Common.{◌≡◌, take}
use Rattle.std.specs.Prelude.{fold}
use Rattle.number_builtins.specs.declared.call.NumberResult.TheVariants.{Range}
use Rattle.number_builtins.specs.Math.{smaller_of}
use Rattle.number_builtins.proofs.math.smallest.Given as goal

abbrev pub invariant-loop-arg : goal.invariant-loop-arg
invariant-loop-arg l = l.least ≡ fold smaller_of Range (take l.arg-index l.args)
