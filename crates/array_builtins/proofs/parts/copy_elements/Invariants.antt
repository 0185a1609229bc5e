use Rattle.std.proofs.Common.{◌≡◌, ◌-◌}
use Rattle.array_builtins.specs.Steps.{steps}
use Rattle.array_builtins.specs.Parts.{copied, copy_step}
use Rattle.array_builtins.proofs.parts.copy_elements.Given as goal

abbrev pub invariant-loop-k : goal.invariant-loop-k
invariant-loop-k l =
    copied l.fn.heap l.array l.from l.into l.to l.count
    ≡ steps (copy_step l.array l.from l.into l.to) (l.count - l.k) l.k l.heap
