use Rattle.std.proofs.Common.{◌≡◌, ◌<◌, ◌^◌, drop}
use Rattle.heap_elements.specs.Names.{digits_value}
use Rattle.heap_elements.proofs.names.array_index.Given as goal

abbrev pub invariant-loop-unit : goal.invariant-loop-unit
invariant-loop-unit l = (l.value < 10 ^ l.unit-index) × (digits_value 0 l.units ≡ digits_value l.value (drop l.unit-index l.units))
