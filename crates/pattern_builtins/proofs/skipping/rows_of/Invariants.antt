use Rattle.std.proofs.Common.{◌+◌}
use Rattle.pattern_builtins.specs.Skipping.{Rows}
use Rattle.pattern_builtins.proofs.skipping.rows_of.Given as goal

abbrev pub invariant-loop-left : goal.invariant-loop-left
invariant-loop-left l = Rows l.by (l.left + 1) l.rows.items
