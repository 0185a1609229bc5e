use Rattle.std.proofs.Common.{◌≡◌, ◌≤◌, length}
use Rattle.array_builtins.specs.Parts.{all_appended}
use Rattle.array_builtins.proofs.parts.append_all.Given as goal
use Rattle.object_heap.specs.declared.limits.TheConstants.{LONGEST_ARRAY}

abbrev pub invariant-loop-item : goal.invariant-loop-item
invariant-loop-item l = record {
  within : l.at ≤ LONGEST_ARRAY;
  appended : all_appended l.fn.heap l.into l.from l.items ≡ all_appended l.heap l.into l.at l.rest;
}

abbrev pub decreases-loop-item : goal.decreases-loop-item
decreases-loop-item l = length l.rest
