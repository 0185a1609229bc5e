use Rattle.std.proofs.Common.{Result, length}
use Rattle.heap_values.specs.Views.{HeapView}
use Rattle.heap_steps.specs.declared.halt.Halt.{Halt}
use Rattle.heap_steps.specs.Works.{Works}
use Rattle.js_evaluation.specs.NativeWork.{spend_all}
use Rattle.js_natives.proofs.lists.spend_all.Given as goal

abbrev pub invariant-loop-left : goal.invariant-loop-left
invariant-loop-left l = (r : Result (Unit {0}) Halt) (h : HeapView)
    → Works (spend_all l.left l.place) l.heap r h → Works (spend_all l.texts l.place) l.fn.heap r h

abbrev pub decreases-loop-left : goal.decreases-loop-left
decreases-loop-left l = length l.left
