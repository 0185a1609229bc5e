use Rattle.std.proofs.Common.{◌≡◌, ◌-◌}
use Rattle.array_builtins.specs.Steps.{steps}
use Rattle.array_builtins.specs.Elements.{moved_forward, move_step}
use Rattle.array_builtins.proofs.elements.move_forward.Given as goal

abbrev pub invariant-loop-k : goal.invariant-loop-k
invariant-loop-k l =
    moved_forward l.fn.heap l.array l.from l.to l.count
    ≡ steps (move_step l.array l.from l.to) (l.count - l.k) l.k l.heap
