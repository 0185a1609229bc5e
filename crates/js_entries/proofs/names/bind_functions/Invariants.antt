use Rattle.std.proofs.Common.{Result, length, map}
use Rattle.heap_values.specs.Views.{HeapView}
use Rattle.heap_steps.specs.declared.halt.Halt.{Halt}
use Rattle.heap_steps.specs.Works.{Works}
use Rattle.heap_values.specs.declared.value.Value.{Value}
use Rattle.js_tree.specs.Tree.{statements_of}
use Rattle.js_tree.specs.View.{function_of}
use Rattle.js_evaluation.specs.Scoping.{by_slots}
use Rattle.js_evaluation.specs.Entries.{functions_from}
use Rattle.js_entries.proofs.names.bind_functions.Given as goal

abbrev pub invariant-loop-left : goal.invariant-loop-left
invariant-loop-left l = (this : Value) (r : Result (Unit {0}) Halt) (h : HeapView)
    → Works (functions_from by_slots (map function_of l.functions) (record { scope = l.scope; this = this }) l.place (statements_of l.left)) l.heap r h
    → Works (functions_from by_slots (map function_of l.functions) (record { scope = l.scope; this = this }) l.place (statements_of l.body)) l.fn.heap r h

abbrev pub decreases-loop-left : goal.decreases-loop-left
decreases-loop-left l = length l.left
