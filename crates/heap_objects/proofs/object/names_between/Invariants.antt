use Rattle.std.proofs.Common.{◌≡◌, ◌++◌, ◌-◌}
use Rattle.heap_objects.specs.Object.{index_names}
use Rattle.heap_objects.proofs.object.names_between.Given as goal

abbrev pub invariant-loop-index : goal.invariant-loop-index
invariant-loop-index l = l.names ++ index_names l.index (l.to - l.index) ≡ index_names l.from (l.to - l.from)
