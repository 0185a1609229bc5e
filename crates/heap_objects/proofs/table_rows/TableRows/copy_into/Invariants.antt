use Rattle.std.proofs.Common.{◌≡◌, drop}
use Rattle.heap_elements.specs.Properties.{with_properties}
use Rattle.heap_objects.specs.Slots.{standing}
use Rattle.heap_objects.specs.TableRows.{left_in, slots_in}
use Rattle.heap_objects.proofs.table_rows.TableRows.copy_into.Given as goal

abbrev pub invariant-loop-at : goal.invariant-loop-at
invariant-loop-at l = with_properties l.all (standing (drop l.at (slots_in l.self))) ≡ with_properties l.fn.all (left_in l.self)
