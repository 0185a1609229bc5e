use Rattle.std.proofs.Common.{◌≡◌, ◌++◌, drop}
use Rattle.heap_elements.proofs.row.copy_of_row.Given as goal

abbrev pub invariant-loop-entry : goal.invariant-loop-entry
invariant-loop-entry l = l.copy.items ++ drop l.entry-index l.row ≡ l.row
