use Rattle.std.proofs.Common.{length}
use Rattle.js_tree.specs.Tree.{expressions_of}
use Rattle.js_machine.specs.Moves.{at}
use Rattle.js_native_calls.proofs.Steps.{CarriesEither}
use Rattle.js_primary.specs.Calls as spec
use Rattle.js_primary.proofs.calls.arguments_from.Given as goal

abbrev pub invariant-loop-left : goal.invariant-loop-left
invariant-loop-left l = CarriesEither (at l.fn.machine spec.arguments_from l.fn.call l.fn.done (expressions_of l.fn.left)) l.fn.machine
    (at l.machine spec.arguments_from l.call l.done (expressions_of l.left)) l.machine

abbrev pub decreases-loop-left : goal.decreases-loop-left
decreases-loop-left l = length l.left
