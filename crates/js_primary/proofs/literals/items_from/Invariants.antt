use Rattle.std.proofs.Common.{length}
use Rattle.js_tree.specs.Tree.{items_of}
use Rattle.js_evaluation.specs.Expressions as rule
use Rattle.js_evaluation.specs.Scoping.{by_slots}
use Rattle.js_machine.specs.Moves.{at}
use Rattle.js_native_calls.proofs.Steps.{Carries}
use Rattle.js_primary.proofs.literals.items_from.Given as goal

abbrev pub invariant-loop-left : goal.invariant-loop-left
invariant-loop-left l = Carries (at l.fn.machine (rule.items_from by_slots) l.place l.array l.fn.count l.fn.hole (items_of l.items)) l.fn.machine
    (at l.machine (rule.items_from by_slots) l.place l.array l.count l.hole (items_of l.left)) l.machine

abbrev pub decreases-loop-left : goal.decreases-loop-left
decreases-loop-left l = length l.left
