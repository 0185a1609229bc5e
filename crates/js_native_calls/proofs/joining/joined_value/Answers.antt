use Rattle.std.proofs.Common.{arith, refl}
use Rattle.js_evaluation.specs.Parts.{calls}
use Rattle.js_machine.specs.Moves.{inner}
use Rattle.js_native_calls.proofs.Objects.{joined_none}
use Rattle.js_native_calls.proofs.joining.joined_value.Goals as goal

pub returns-in-Object : goal.returns-in-Object
returns-in-Object c = rw c.in-Object.is c.array_joined.ensures

pub returns-in_default : goal.returns-in_default
returns-in_default c = rw (joined_none (calls (inner c.args.machine.now)) _ c.args.separator c.args.place c.in_default.not-Object) (record { goes = λ last. refl; light = omega arith })
