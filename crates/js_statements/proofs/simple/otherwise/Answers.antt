use Rattle.std.proofs.Common.{arith, refl}
use Rattle.js_statements.proofs.simple.otherwise.Goals as goal

pub returns-in-None : goal.returns-in-None
returns-in-None c = record { goes = λ last. rw c.in-None.is refl; light = omega arith }

pub returns-in-Some : goal.returns-in-Some
returns-in-Some c = rw c.in-Some.is (rw c.deref.ensures at c.execute.ensures)
