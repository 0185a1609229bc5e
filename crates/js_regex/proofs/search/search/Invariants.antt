use Rattle.std.proofs.Common.{◌-◌, length, suc}
use Rattle.js_pattern.specs.Search.{subject_of}
use Rattle.js_regex.proofs.Finds.{SoFar}
use Rattle.js_regex.proofs.search.search.Given as goal

abbrev pub invariant-loop-place : goal.invariant-loop-place
invariant-loop-place l = SoFar (subject_of l.fn.pattern l.fn.text) l.fn.pattern.tree l.fn.pattern.groups l.fn.from l.fn.fuel l.place l.fuel

abbrev pub decreases-loop-place : goal.decreases-loop-place
decreases-loop-place l = suc (length l.text) - l.place
