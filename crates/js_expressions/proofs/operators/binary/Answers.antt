use Rattle.js_expressions.proofs.Binary.{binary_else}
use Rattle.js_machine.specs.Moves.{inner}
use Rattle.js_evaluation.specs.Parts.{calls}
use Rattle.js_expressions.proofs.operators.binary.Goals as goal

pub returns-in-In : goal.returns-in-In
returns-in-In c = rw c.in-In.is c.is_in.ensures

pub returns-in-InstanceOf : goal.returns-in-InstanceOf
returns-in-InstanceOf c = rw c.in-InstanceOf.is c.instance_of.ensures

pub returns : goal.returns
returns c = rw (binary_else (calls (inner c.args.machine.now)) _ _ _ _ c.in_default.not-In c.in_default.not-InstanceOf) c.converted.ensures
