use Rattle.std.proofs.Common.{◌≡◌, take}
use Rattle.text_builtins.specs.Joining.{joined}
use Rattle.text_builtins.proofs.joining.joined.Given as goal

abbrev pub invariant-loop-arg : goal.invariant-loop-arg
invariant-loop-arg l = l.all.items ≡ joined l.receiver (take l.arg-index l.args)
