use Rattle.js_native_calls.proofs.Objects.{is_primitive}
use Rattle.js_machine.specs.Moves.{inner}
use Rattle.js_evaluation.specs.Parts.{calls}
use Rattle.js_expressions.proofs.operators.right_operand.Goals as goal

pub returns-in-Object : goal.returns-in-Object
returns-in-Object c = rw c.in-Object.is c.right_object.ensures

pub returns : goal.returns
returns c = rw (is_primitive (calls (inner c.args.machine.now)) _ _ _ c.in_default.not-Object) c.operated.ensures
