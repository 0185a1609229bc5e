use Rattle.js_primary.proofs.Constructors.{no_constructor}
use Rattle.js_machine.specs.Moves.{functions_of, inner}
use Rattle.js_frames.specs.Parts.{context_of}
use Rattle.js_primary.proofs.creation.constructed.Goals as goal

pub returns-in_default : goal.returns-in_default
returns-in_default c = rw (no_constructor (functions_of c.args.machine.now) (inner c.args.machine.now) (context_of c.args.machine.now.context) _ _ _ c.in_default.not-Object) c.type_error.ensures
