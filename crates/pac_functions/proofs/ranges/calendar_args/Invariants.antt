use Rattle.std.proofs.Common.{◌≡◌, take, map}
use Rattle.pac_functions.specs.Call.{calendar_arg}
use Rattle.pac_functions.proofs.ranges.calendar_args.Given as goal

abbrev pub invariant-loop-value : goal.invariant-loop-value
invariant-loop-value l = l.all.items ≡ map calendar_arg (take l.value-index l.args)
