use Rattle.js_native_calls.proofs.Objects.{is_primitive}
use Rattle.js_machine.specs.Moves.{inner}
use Rattle.js_machine.proofs.Steps.{works_either, either_stops}
use Rattle.js_evaluation.specs.Parts.{calls}
use Rattle.js_expressions.proofs.suffixes.index_done.Goals as goal

pub returns-in-Object : goal.returns-in-Object
returns-in-Object c = rw c.in-Object.is c.object_index.ensures

pub returns-in_err-value-in_default : goal.returns-in_err-value-in_default
returns-in_err-value-in_default c = rw (is_primitive (calls (inner c.args.machine.now)) _ _ _ c.in_default.not-Object) (either_stops _ _ _ _ _ _ c.from_residual.ensures.1 c.in_err-value-in_default.ensures)

pub returns-in_ok-value-in_default : goal.returns-in_ok-value-in_default
returns-in_ok-value-in_default c = rw (is_primitive (calls (inner c.args.machine.now)) _ _ _ c.in_default.not-Object) (works_either _ _ _ _ _ c.in_ok-value-in_default.ensures c.suffixes_from.ensures)
