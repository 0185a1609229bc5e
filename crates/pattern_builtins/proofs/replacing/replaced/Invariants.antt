use Rattle.std.proofs.Common.{length}
use Rattle.pattern_builtins.proofs.Texts.{Making}
use Rattle.pattern_builtins.proofs.replacing.replaced.Given as goal

abbrev pub invariant-loop-left : goal.invariant-loop-left
invariant-loop-left l = Making l.text l.by l.matches l.all.items l.from l.left

abbrev pub decreases-loop-left : goal.decreases-loop-left
decreases-loop-left l = length l.left
