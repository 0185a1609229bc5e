use Rattle.std.proofs.Common.{◌≡◌, ◌++◌, take, map}
use Rattle.object_heap.specs.Fresh.{object_read, object_of}
use Rattle.object_heap.proofs.fresh.add_objects.Given as goal

abbrev pub invariant-loop-blank : goal.invariant-loop-blank
invariant-loop-blank l = l.objects.items ≡ l.fn.objects.items ++ map object_of (map object_read (take l.blank-index l.table))
