use Rattle.std.proofs.Common.{◌≡◌, take}
use Rattle.heap_objects.specs.Keys.{with_names}
use Rattle.heap_objects.proofs.name_set.NameSet.add_all.Given as goal

abbrev pub invariant-loop-name : goal.invariant-loop-name
invariant-loop-name l = l.self ≡ with_names l.fn.self (take l.name-index l.names)
