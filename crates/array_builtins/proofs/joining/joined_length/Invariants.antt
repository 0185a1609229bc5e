use Rattle.std.proofs.Common.{◌≡◌, min, length, take, ◌+◌}
use Rattle.array_builtins.specs.Joining.{joined_behind}
use Rattle.array_builtins.proofs.joining.joined_length.Given as goal
use Rattle.utf16_text.specs.declared.limits.TheConstants.{LONGEST_TEXT}

abbrev pub invariant-loop-text : goal.invariant-loop-text
invariant-loop-text l = l.length ≡ min (length (joined_behind l.separator l.first (take l.text-index l.rest))) (LONGEST_TEXT + 1)
