use Rattle.std.proofs.Common.{◌≡◌, ◌-◌}
use Rattle.array_builtins.specs.Places.{place_from}
use Rattle.array_builtins.proofs.places.index_from.Given as goal

abbrev pub invariant-loop-at : goal.invariant-loop-at
invariant-loop-at l =
    place_from l.heap l.array l.value l.from (l.length - l.from)
    ≡ place_from l.heap l.array l.value l.at (l.length - l.at)
