use Rattle.js_machine.specs.Moves.{at}
use Rattle.js_native_calls.specs.Calls as spec
use Rattle.js_native_calls.proofs.Steps.{Carries}
use Rattle.js_native_calls.proofs.handed.values_converted.Given as goal

abbrev pub invariant-loop-left : goal.invariant-loop-left
invariant-loop-left l =
    Carries (at l.fn.machine spec.converted_from l.native l.fn.left l.fn.done l.fn.handed l.place) l.fn.machine
    (at l.machine spec.converted_from l.native l.left l.done l.handed l.place) l.machine

abbrev pub decreases-loop-left : goal.decreases-loop-left
decreases-loop-left l = l.left
