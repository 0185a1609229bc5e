use Rattle.std.proofs.Common.{◌≡◌, ◌≤◌}
use Rattle.array_builtins.specs.Steps.{steps_down}
use Rattle.array_builtins.specs.Elements.{moved_backward, move_step}
use Rattle.array_builtins.proofs.elements.move_backward.Given as goal

abbrev pub invariant-loop-left : goal.invariant-loop-left
invariant-loop-left l = record {
  within : l.left ≤ l.count;
  moved : moved_backward l.fn.heap l.array l.from l.to l.count
      ≡ steps_down (move_step l.array l.from l.to) l.left l.heap;
}

abbrev pub decreases-loop-left : goal.decreases-loop-left
decreases-loop-left l = l.left
