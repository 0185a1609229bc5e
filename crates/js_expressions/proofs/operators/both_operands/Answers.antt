use Rattle.js_native_calls.proofs.Objects.{is_primitive}
use Rattle.js_machine.specs.Moves.{inner}
use Rattle.js_evaluation.specs.Parts.{calls}
use Rattle.js_expressions.proofs.operators.both_operands.Goals as goal

pub returns-in-Object : goal.returns-in-Object
returns-in-Object c = rw c.in-Object.is c.convert.ensures

pub returns-in_default : goal.returns-in_default
returns-in_default c = rw (is_primitive (calls (inner c.args.machine.now)) _ _ _ c.in_default.not-Object) c.right_operand.ensures
