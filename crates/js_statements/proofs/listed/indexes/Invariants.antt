use Rattle.std.proofs.Common.{◌≡◌, map}
use Rattle.std.specs.Fmt.{decimal}
use Rattle.std.specs.List.{range_with_len}
use Rattle.js_statements.proofs.listed.indexes.Given as goal

abbrev pub invariant-loop-index : goal.invariant-loop-index
invariant-loop-index l = l.names ≡ map decimal (range_with_len 0 l.index)
