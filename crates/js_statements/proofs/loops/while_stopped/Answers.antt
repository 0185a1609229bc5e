use Rattle.std.proofs.Common.{arith, refl}
use Rattle.js_statements.proofs.loops.while_stopped.Goals as goal

pub returns-in-Thrown : goal.returns-in-Thrown
returns-in-Thrown c = record { goes = λ last. rw c.in-Thrown.is refl; light = omega arith }

pub returns-in-Returned : goal.returns-in-Returned
returns-in-Returned c = record { goes = λ last. rw c.in-Returned.is refl; light = omega arith }

pub returns-in-Broken : goal.returns-in-Broken
returns-in-Broken c = record { goes = λ last. rw c.in-Broken.is refl; light = omega arith }

pub returns-in-Continued : goal.returns-in-Continued
returns-in-Continued c = rw c.in-Continued.is c.while_turn.ensures
