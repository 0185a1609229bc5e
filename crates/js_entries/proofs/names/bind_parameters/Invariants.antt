use Rattle.std.proofs.Common.{Result, length}
use Rattle.heap_values.specs.Views.{HeapView}
use Rattle.heap_steps.specs.declared.halt.Halt.{Halt}
use Rattle.heap_steps.specs.Works.{Works}
use Rattle.heap_values.specs.declared.value.Value.{Value}
use Rattle.js_evaluation.specs.Scoping.{by_slots}
use Rattle.js_evaluation.specs.Entries.{parameters_from}
use Rattle.js_entries.proofs.names.bind_parameters.Given as goal

abbrev pub invariant-loop-left : goal.invariant-loop-left
invariant-loop-left l = (this : Value) (r : Result (Unit {0}) Halt) (h : HeapView)
    → Works (parameters_from by_slots (record { scope = l.scope; this = this }) l.place l.left l.values) l.heap r h
    → Works (parameters_from by_slots (record { scope = l.scope; this = this }) l.place l.parameters l.arguments) l.fn.heap r h

abbrev pub decreases-loop-left : goal.decreases-loop-left
decreases-loop-left l = length l.left
