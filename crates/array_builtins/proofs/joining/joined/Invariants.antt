use Rattle.std.proofs.Common.{◌≡◌, take}
use Rattle.array_builtins.specs.Joining.{joined_behind}
use Rattle.array_builtins.proofs.joining.joined.Given as goal

abbrev pub invariant-loop-text : goal.invariant-loop-text
invariant-loop-text l = l.all.items ≡ joined_behind l.separator l.first (take l.text-index l.rest)
