use Rattle.std.proofs.Common.{◌≡◌}
use Rattle.js_evaluation.specs.BySlots.{scope_out}
use Rattle.heap_steps.proofs.names.scope_out.Given as goal

abbrev pub invariant-loop-left : goal.invariant-loop-left
invariant-loop-left l = scope_out l.heap l.fn.up l.fn.scope ≡ scope_out l.heap l.left l.scope

abbrev pub decreases-loop-left : goal.decreases-loop-left
decreases-loop-left l = l.left
