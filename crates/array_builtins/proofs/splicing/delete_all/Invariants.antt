use Rattle.std.proofs.Common.{◌≡◌, ◌≤◌}
use Rattle.array_builtins.specs.Steps.{steps_down}
use Rattle.array_builtins.specs.Splicing.{all_deleted, delete_step}
use Rattle.array_builtins.proofs.splicing.delete_all.Given as goal

abbrev pub invariant-loop-left : goal.invariant-loop-left
invariant-loop-left l = record {
  within : l.left ≤ l.count;
  deleted : all_deleted l.fn.heap l.array l.from l.count ≡ steps_down (delete_step l.array l.from) l.left l.heap;
}

abbrev pub decreases-loop-left : goal.decreases-loop-left
decreases-loop-left l = l.left
