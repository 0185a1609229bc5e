use Rattle.js_expressions.proofs.Objects.{in_nothing}
use Rattle.js_machine.specs.Moves.{inner}
use Rattle.js_evaluation.specs.Parts.{calls}
use Rattle.js_expressions.proofs.operators.is_in.Goals as goal

pub returns-in-Object : goal.returns-in-Object
returns-in-Object c = rw c.in-Object.is c.named_in.ensures

pub returns : goal.returns
returns c = rw (in_nothing (calls (inner c.args.machine.now)) _ _ _ c.in_default.not-Object) c.type_error.ensures
