use Rattle.std.proofs.Common.{Result, length}
use Rattle.heap_values.specs.Views.{HeapView}
use Rattle.heap_steps.specs.declared.halt.Halt.{Halt}
use Rattle.heap_steps.specs.Works.{Works}
use Rattle.js_evaluation.specs.Patterns.{spend_values}
use Rattle.js_pattern_natives.proofs.giving.spend_values.Given as goal

abbrev pub invariant-loop-left : goal.invariant-loop-left
invariant-loop-left l = (r : Result (Unit {0}) Halt) (h : HeapView)
    → Works (spend_values l.left l.place) l.heap r h → Works (spend_values l.values l.place) l.fn.heap r h

abbrev pub decreases-loop-left : goal.decreases-loop-left
decreases-loop-left l = length l.left
