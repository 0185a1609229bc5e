use Rattle.std.proofs.Common.{Result, length}
use Rattle.heap_values.specs.Views.{HeapView}
use Rattle.heap_steps.specs.declared.halt.Halt.{Halt}
use Rattle.heap_steps.specs.Works.{Works}
use Rattle.js_entries.specs.Globals.{variables_declared}
use Rattle.js_entries.proofs.globals.declare_names.Given as goal

abbrev pub invariant-loop-left : goal.invariant-loop-left
invariant-loop-left l = (r : Result (Unit {0}) Halt) (h : HeapView)
    → Works (variables_declared l.left) l.heap r h → Works (variables_declared l.names) l.fn.heap r h

abbrev pub decreases-loop-left : goal.decreases-loop-left
decreases-loop-left l = length l.left
