use Rattle.std.proofs.Common.{Result, length, map}
use Rattle.heap_values.specs.Views.{HeapView}
use Rattle.heap_steps.specs.declared.halt.Halt.{Halt}
use Rattle.heap_steps.specs.Works.{Works}
use Rattle.js_tree.specs.Tree.{statements_of}
use Rattle.js_tree.specs.View.{function_of}
use Rattle.js_entries.specs.Globals.{functions_declared}
use Rattle.js_entries.proofs.globals.declare_functions.Given as goal

abbrev pub invariant-loop-left : goal.invariant-loop-left
invariant-loop-left l = (r : Result (Unit {0}) Halt) (h : HeapView)
    → Works (functions_declared (map function_of l.functions) (statements_of l.left)) l.heap r h
    → Works (functions_declared (map function_of l.functions) (statements_of l.body)) l.fn.heap r h

abbrev pub decreases-loop-left : goal.decreases-loop-left
decreases-loop-left l = length l.left
