use Rattle.pattern_builtins.proofs.Splits.{SoFar, remaining}
use Rattle.pattern_builtins.proofs.splitting.split_from_front.Given as goal

abbrev pub invariant-loop-answer : goal.invariant-loop-answer
invariant-loop-answer l = SoFar l.pattern l.text l.limit l.fn.fuel l.pieces l.from l.place l.fuel

abbrev pub decreases-loop-answer : goal.decreases-loop-answer
decreases-loop-answer l = remaining l.pattern l.text l.from l.place
