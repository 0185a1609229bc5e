use Rattle.std.proofs.Common.{length, ◌-◌}
use Rattle.heap_elements.proofs.RowLemmas.{NoneBefore}
use Rattle.heap_elements.proofs.row.place_in.Given as goal

abbrev pub invariant-loop-at : goal.invariant-loop-at
invariant-loop-at l = NoneBefore l.row l.name l.at

abbrev pub decreases-loop-at : goal.decreases-loop-at
decreases-loop-at l = length l.row - l.at
