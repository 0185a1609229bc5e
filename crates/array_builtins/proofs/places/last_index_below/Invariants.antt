use Rattle.std.proofs.Common.{◌≡◌, ◌≤◌}
use Rattle.array_builtins.specs.Places.{place_below}
use Rattle.array_builtins.proofs.places.last_index_below.Given as goal

abbrev pub invariant-loop-left : goal.invariant-loop-left
invariant-loop-left l = record {
  within : l.left ≤ l.below;
  place : place_below l.heap l.array l.value l.below ≡ place_below l.heap l.array l.value l.left;
}

abbrev pub decreases-loop-left : goal.decreases-loop-left
decreases-loop-left l = l.left
