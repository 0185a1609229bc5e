use Rattle.js_tree.specs.View.{declarations_of}
use Rattle.js_evaluation.specs.Statements as rule
use Rattle.js_evaluation.specs.Scoping.{by_slots}
use Rattle.js_machine.specs.Moves.{at}
use Rattle.js_machine.proofs.Steps.{works_then, works_stops}
use Rattle.js_statements.proofs.variables.initialized.Goals as goal

pub returns-in_err-write_name : goal.returns-in_err-write_name
returns-in_err-write_name c = works_stops _ (λ _. at c.args.machine.now (rule.variables_from by_slots) c.args.place (declarations_of c.args.rest.now)) c.args.machine.now _ _ _ c.from_residual.ensures.1 (c.in_err-write_name.ensures c.args.machine.now.context.this)

pub returns : goal.returns
returns c = works_then _ (λ _. at c.args.machine.now (rule.variables_from by_slots) c.args.place (declarations_of c.args.rest.now)) c.args.machine.now _ tt (c.in_ok-write_name.ensures c.args.machine.now.context.this) c.variables_from.ensures
