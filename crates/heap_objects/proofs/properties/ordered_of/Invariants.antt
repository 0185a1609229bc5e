use Rattle.std.proofs.Common.{◌≡◌, take}
use Rattle.heap_objects.proofs.properties.ordered_of.Given as goal

abbrev pub invariant-loop-entry : goal.invariant-loop-entry
invariant-loop-entry l = l.many ≡ take l.entry-index l.row
