use Rattle.std.proofs.Common.{◌≡◌, ◌+◌, ◌≤◌, length}
use Rattle.array_builtins.specs.Elements.{all_put}
use Rattle.array_builtins.proofs.elements.put_all.Given as goal

abbrev pub invariant-loop-value : goal.invariant-loop-value
invariant-loop-value l = record {
  fits : l.at + length l.rest ≤ l.from + length l.values;
  put : all_put l.fn.heap l.array l.from l.values ≡ all_put l.heap l.array l.at l.rest;
}

abbrev pub decreases-loop-value : goal.decreases-loop-value
decreases-loop-value l = length l.rest
