use Rattle.pattern_builtins.specs.Skipping.{AddsRow}
use Rattle.pattern_builtins.proofs.skipping.add_row.Given as goal

abbrev pub invariant-loop-other : goal.invariant-loop-other
invariant-loop-other l = AddsRow l.kind l.place l.behind l.other l.fn.rows.items l.rows.items
