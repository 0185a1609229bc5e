use Rattle.js_expressions.proofs.Objects.{no_instance}
use Rattle.js_machine.specs.Moves.{inner}
use Rattle.js_evaluation.specs.Parts.{calls}
use Rattle.js_expressions.proofs.operators.instance_by.Goals as goal

pub returns-in-Object : goal.returns-in-Object
returns-in-Object c = rw c.in-Object.is c.descends.ensures

pub returns-in_default : goal.returns-in_default
returns-in_default c = rw (no_instance (calls (inner c.args.machine.now)) _ _ _ c.in_default.not-Object) c.behind_operator.ensures
