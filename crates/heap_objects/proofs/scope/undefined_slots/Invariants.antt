use Rattle.std.proofs.Common.{◌≡◌, replicate}
use Rattle.heap_values.specs.declared.value.Value.TheVariants.{Undefined}
use Rattle.heap_objects.proofs.scope.undefined_slots.Given as goal

abbrev pub invariant-loop-slot : goal.invariant-loop-slot
invariant-loop-slot l = l.slots.items ≡ replicate l._slot Undefined
