use Rattle.std.proofs.Common.{Result, length}
use Rattle.heap_values.specs.Views.{HeapView}
use Rattle.heap_steps.specs.declared.halt.Halt.{Halt}
use Rattle.heap_steps.specs.Works.{Works}
use Rattle.js_evaluation.specs.Objects.{elements_from}
use Rattle.js_natives.proofs.lists.define_elements.Given as goal

abbrev pub invariant-loop-left : goal.invariant-loop-left
invariant-loop-left l = (r : Result (Unit {0}) Halt) (h : HeapView)
    → Works (elements_from l.place l.object l.index l.left) l.heap r h → Works (elements_from l.place l.object 0 l.values) l.fn.heap r h

abbrev pub decreases-loop-left : goal.decreases-loop-left
decreases-loop-left l = length l.left
