use Rattle.std.proofs.Common.{◌-◌, suc, length}
use Rattle.pattern_builtins.proofs.Searching.{SoFar}
use Rattle.pattern_builtins.proofs.matches.search_all.Given as goal

abbrev pub invariant-loop-place : goal.invariant-loop-place
invariant-loop-place l = SoFar l.pattern l.text l.fn.fuel l.matches l.place l.fuel

abbrev pub decreases-loop-place : goal.decreases-loop-place
decreases-loop-place l = suc (length l.text) - l.place
