use Rattle.std.proofs.Common.{◌≡◌, ◌-◌}
use Rattle.array_builtins.specs.Steps.{steps}
use Rattle.array_builtins.specs.Order.{reversed, reverse_step}
use Rattle.array_builtins.proofs.order.swap_all.Given as goal

abbrev pub invariant-loop-low : goal.invariant-loop-low
invariant-loop-low l =
    reversed l.fn.heap l.array l.length ≡ steps (reverse_step l.array l.length) (l.half - l.low) l.low l.heap
