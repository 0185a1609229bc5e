use Rattle.std.proofs.Common.{◌≡◌, ◌++◌, length, map}
use Rattle.heap_values.specs.declared.value.Value.TheVariants as value
use Rattle.js_natives.proofs.lists.values_of.Given as goal

abbrev pub invariant-loop-left : goal.invariant-loop-left
invariant-loop-left l = l.values ++ map value.Text l.left ≡ map value.Text l.texts

abbrev pub decreases-loop-left : goal.decreases-loop-left
decreases-loop-left l = length l.left
