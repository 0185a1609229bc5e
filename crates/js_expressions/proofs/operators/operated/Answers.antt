use Rattle.js_machine.proofs.Steps.{works_then, works_stops}
use Rattle.js_machine.specs.Moves.{inner}
use Rattle.js_evaluation.specs.Parts.{calls}
use Rattle.js_expressions.proofs.operators.operated.Goals as goal

pub returns-in_err-value : goal.returns-in_err-value
returns-in_err-value c = works_stops _ _ _ _ _ _ c.from_residual.ensures.1 (c.in_err-value.ensures (calls (inner c.args.machine.now)))

pub returns : goal.returns
returns c = works_then _ _ _ _ _ (c.in_ok-value.ensures (calls (inner c.args.machine.now))) c.behind_operator.ensures
