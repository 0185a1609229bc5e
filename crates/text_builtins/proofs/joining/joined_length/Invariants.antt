use Rattle.std.proofs.Common.{◌≡◌, min, length, take, ◌+◌}
use Rattle.text_builtins.specs.Joining.{joined}
use Rattle.text_builtins.proofs.joining.joined_length.Given as goal
use Rattle.utf16_text.specs.declared.limits.TheConstants.{LONGEST_TEXT}

abbrev pub invariant-loop-arg : goal.invariant-loop-arg
invariant-loop-arg l = l.length ≡ min (length (joined l.receiver (take l.arg-index l.args))) (LONGEST_TEXT + 1)
