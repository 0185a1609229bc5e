use Rattle.std.proofs.Common.{◌∷◌, length}
use Rattle.pattern_builtins.specs.Pieces.{piece}
use Rattle.pattern_builtins.proofs.Puts.{Putting}
use Rattle.pattern_builtins.proofs.splitting.put.Given as goal

abbrev pub invariant-loop-left : goal.invariant-loop-left
invariant-loop-left l = Putting l.fn.limit (piece l.fn.from l.found.from ∷ l.found.groups) l.fn.pieces l.pieces l.left

abbrev pub decreases-loop-left : goal.decreases-loop-left
decreases-loop-left l = length l.left
