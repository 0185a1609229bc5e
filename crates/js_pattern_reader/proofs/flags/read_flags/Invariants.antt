use Rattle.std.proofs.Common.{◌≡◌, length}
use Rattle.js_pattern_reader.specs.Flags.{flags_of, flags_from}
use Rattle.js_pattern_reader.proofs.flags.read_flags.Given as goal

abbrev pub invariant-loop-unit : goal.invariant-loop-unit
invariant-loop-unit l = flags_of l.fn.flags ≡ flags_from l.read l.rest

abbrev pub decreases-loop-unit : goal.decreases-loop-unit
decreases-loop-unit l = length l.rest
