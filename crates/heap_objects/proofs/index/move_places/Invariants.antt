use Rattle.std.specs.Ordering.{nat_cmp}
use Rattle.std.specs.BTreeMap.{get}
use Rattle.std.specs.Cmp.Lexicographic.{slice_cmp}
use Rattle.heap_objects.proofs.PlaceLemmas.{IsMovedUpTo}
use Rattle.heap_objects.proofs.index.move_places.Given as goal

abbrev pub invariant-loop-at : goal.invariant-loop-at
invariant-loop-at l = IsMovedUpTo (get (slice_cmp nat_cmp) l.fn.places) l.row l.at (get (slice_cmp nat_cmp) l.places)
