use Rattle.std.proofs.Common.{◌≡◌, length}
use Rattle.js_tree.specs.View.{clauses_of}
use Rattle.js_evaluation.specs.Statements as rule
use Rattle.js_evaluation.specs.Scoping.{by_slots}
use Rattle.js_machine.specs.Moves.{at}
use Rattle.js_statements.proofs.switch.from_default.Given as goal

abbrev pub invariant-loop-left : goal.invariant-loop-left
invariant-loop-left l = record {
  same : at l.fn.machine (rule.from_default by_slots) (clauses_of l.all) ≡ at l.fn.machine (rule.from_default by_slots) (clauses_of l.left);
  unmoved : l.machine ≡ l.fn.machine;
}

abbrev pub decreases-loop-left : goal.decreases-loop-left
decreases-loop-left l = length l.left
