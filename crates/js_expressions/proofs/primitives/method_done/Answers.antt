use Rattle.js_native_calls.proofs.Objects.{not_object}
use Rattle.js_machine.specs.Moves.{resumed}
use Rattle.js_expressions.proofs.primitives.method_done.Goals as goal

pub returns-in-Object : goal.returns-in-Object
returns-in-Object c = rw (c.in-Object.is, resumed) c.convert.ensures

pub returns-in_default : goal.returns-in_default
returns-in_default c = rw (not_object _ c.in_default.not-Object, resumed) c.primitive_done.ensures
