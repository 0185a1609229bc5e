use Rattle.std.proofs.Common.{◌≡◌, ◌-◌, ◌++◌}
use Rattle.object_heap.specs.declared.table.TheConstants.{FIRST_NATIVE, NATIVES}
use Rattle.object_heap.specs.Fresh.{natives_from}
use Rattle.object_heap.proofs.fresh.add_natives.Given as goal

abbrev pub invariant-loop-number : goal.invariant-loop-number
invariant-loop-number l = l.objects.items ++ natives_from l.number (NATIVES - l.number) ≡ l.fn.objects.items ++ natives_from FIRST_NATIVE (NATIVES - FIRST_NATIVE)
