use Rattle.std.proofs.Common.{ap}
use Rattle.heap_values.specs.declared.value.Value.TheVariants as value
use Rattle.heap_steps.proofs.Bounds.{by_number}
use Rattle.js_expressions.proofs.suffixes.global_value.Goals as goal

pub returns : goal.returns
returns c = ap value.Object (by_number _ _ c.built_in.ensures)
