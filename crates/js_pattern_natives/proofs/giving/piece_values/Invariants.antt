use Rattle.std.proofs.Common.{◌≡◌, ◌++◌, length, map}
use Rattle.js_pattern.specs.Within.{SpansWithin}
use Rattle.js_evaluation.specs.Patterns.{piece_value}
use Rattle.js_pattern_natives.proofs.giving.piece_values.Given as goal

abbrev pub invariant-loop-left : goal.invariant-loop-left
invariant-loop-left l = record {
  same : l.values ++ map (piece_value l.text) l.left ≡ map (piece_value l.text) l.pieces;
  within : SpansWithin (length l.text) l.left;
}

abbrev pub decreases-loop-left : goal.decreases-loop-left
decreases-loop-left l = length l.left
