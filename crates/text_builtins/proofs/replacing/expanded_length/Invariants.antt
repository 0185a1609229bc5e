use Rattle.std.proofs.Common.{◌≡◌, ◌+◌, ◌≤◌, min, length}
use Rattle.text_builtins.specs.Replacing.{capped_length, expanded}
use Rattle.text_builtins.proofs.replacing.expanded_length.Given as goal
use Rattle.utf16_text.specs.declared.limits.TheConstants.{LONGEST_TEXT}

abbrev pub invariant-loop-piece : goal.invariant-loop-piece
invariant-loop-piece l = record {
  small : l.length ≤ (LONGEST_TEXT + 1);
  counted : min (l.length + length (expanded l.before l.part l.behind l.left)) (LONGEST_TEXT + 1) ≡ capped_length l.by l.before l.part l.behind;
}

abbrev pub decreases-loop-piece : goal.decreases-loop-piece
decreases-loop-piece l = length l.left
