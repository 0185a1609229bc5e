use Rattle.std.proofs.Common.{length}
use Rattle.js_tree.specs.View.{operands_of}
use Rattle.js_evaluation.specs.Expressions as rule
use Rattle.js_evaluation.specs.Scoping.{by_slots}
use Rattle.js_machine.specs.Moves.{at}
use Rattle.js_native_calls.proofs.Steps.{Carries}
use Rattle.js_expressions.proofs.rows.operands_from.Given as goal

abbrev pub invariant-loop-left : goal.invariant-loop-left
invariant-loop-left l = Carries (at l.fn.machine (rule.operands_from by_slots) l.fn.value (operands_of l.operands)) l.fn.machine
    (at l.machine (rule.operands_from by_slots) l.value (operands_of l.left)) l.machine

abbrev pub decreases-loop-left : goal.decreases-loop-left
decreases-loop-left l = length l.left
