use Rattle.std.proofs.Common.{◌≡◌, take, fold}
use Rattle.heap_elements.specs.Properties.{without_property}
use Rattle.heap_objects.proofs.object.remove_all.Given as goal

abbrev pub invariant-loop-name : goal.invariant-loop-name
invariant-loop-name l = l.properties ≡ fold without_property l.fn.properties (take l.name-index l.names)
