use Rattle.js_machine.specs.Moves.{at}
use Rattle.js_native_calls.specs.Calls as spec
use Rattle.js_native_calls.proofs.Steps.{Carries}
use Rattle.js_native_calls.proofs.joining.joined_from.Given as goal

abbrev pub invariant-loop-left : goal.invariant-loop-left
invariant-loop-left l =
    Carries (at l.fn.machine spec.joined_from l.fn.left l.count l.array l.fn.texts l.fn.separator l.place) l.fn.machine
    (at l.machine spec.joined_from l.left l.count l.array l.texts l.separator l.place) l.machine

abbrev pub decreases-loop-left : goal.decreases-loop-left
decreases-loop-left l = l.left
