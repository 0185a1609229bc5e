use Rattle.std.proofs.Common.{◌≡◌, drop}
use Rattle.std.specs.Str.{bytes_eq}
use Rattle.heap_objects.proofs.table_row.are_same.Given as goal

abbrev pub invariant-loop-at : goal.invariant-loop-at
invariant-loop-at l = bytes_eq l.units l.bytes ≡ bytes_eq (drop l.at l.units) (drop l.at l.bytes)
