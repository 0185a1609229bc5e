use Rattle.std.proofs.Common.{arith}
use Rattle.js_machine.specs.Moves.{functions_of, run_state}
use Rattle.js_frames.specs.RestOf.{rest_of}
use Rattle.js_entries.proofs.Entering.{called_ends, constructing_ends}
use Rattle.js_entries.proofs.bodies.entry_stopped.Goals as goal

pub returns-in-Body : goal.returns-in-Body
returns-in-Body c = record { goes = λ last. rw (c.in-Body.is, c.called.ensures) (called_ends (rest_of (functions_of c.args.machine.now) last c.args.machine.now.frames).given c.args.stop (run_state c.args.machine.now.state)); light = omega arith }

pub returns-in-Construct : goal.returns-in-Construct
returns-in-Construct c = record { goes = λ last. rw (c.in-Construct.is, c.constructing.ensures) (constructing_ends c.in-Construct.made (rest_of (functions_of c.args.machine.now) last c.args.machine.now.frames).given c.args.stop (run_state c.args.machine.now.state)); light = omega arith }
