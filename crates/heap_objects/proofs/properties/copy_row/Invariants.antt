use Rattle.std.proofs.Common.{◌≡◌, drop}
use Rattle.heap_elements.specs.Properties.{with_properties}
use Rattle.heap_objects.proofs.properties.copy_row.Given as goal

abbrev pub invariant-loop-entry : goal.invariant-loop-entry
invariant-loop-entry l = with_properties l.all (drop l.entry-index l.row) ≡ with_properties l.fn.all l.row
