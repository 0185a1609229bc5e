use Rattle.std.proofs.Common.{◌≡◌, None, take}
use Rattle.heap_objects.specs.Slots.{place_in}
use Rattle.heap_objects.specs.TableRows.{slots_in}
use Rattle.heap_objects.proofs.table_rows.TableRows.place_of.Given as goal

abbrev pub invariant-loop-at : goal.invariant-loop-at
invariant-loop-at l = place_in (take l.at (slots_in l.self)) l.name ≡ None
