use Rattle.std.proofs.Common.{◌≡◌, ◌++◌, ◌≤◌, length}
use Rattle.pattern_builtins.specs.Pieces.{found_in}
use Rattle.pattern_builtins.specs.Replacing.{expanded}
use Rattle.pattern_builtins.specs.Skipping.{last}
use Rattle.pattern_builtins.proofs.replacing.expand.Given as goal
use Rattle.utf16_text.specs.declared.limits.TheConstants.{LONGEST_TEXT}

abbrev pub invariant-loop-piece : goal.invariant-loop-piece
invariant-loop-piece l = record {
  same : l.all.items ++ expanded l.text (found_in l.found) (last l.left l.by) ≡ l.fn.all.items ++ expanded l.text (found_in l.found) l.by;
  short : length l.all.items ≤ LONGEST_TEXT;
  within : l.left ≤ length l.by;
}

abbrev pub decreases-loop-piece : goal.decreases-loop-piece
decreases-loop-piece l = l.left
