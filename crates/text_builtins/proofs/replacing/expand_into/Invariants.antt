use Rattle.std.proofs.Common.{◌≡◌, ◌++◌, length}
use Rattle.text_builtins.specs.Replacing.{expanded}
use Rattle.text_builtins.proofs.replacing.expand_into.Given as goal

abbrev pub invariant-loop-piece : goal.invariant-loop-piece
invariant-loop-piece l = l.all.items ++ expanded l.before l.part l.behind l.left ≡ l.fn.all.items ++ expanded l.before l.part l.behind l.by

abbrev pub decreases-loop-piece : goal.decreases-loop-piece
decreases-loop-piece l = length l.left
