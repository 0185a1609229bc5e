use Rattle.js_machine.specs.Moves.{resumed}
use Rattle.js_statements.proofs.attempts.block_stopped.Goals as goal

pub returns-in-None : goal.returns-in-None
returns-in-None c = rw (c.in-None.is, resumed) c.ended.ensures

pub returns-in-Thrown : goal.returns-in-Thrown
returns-in-Thrown c = rw (c.in-Some.is, c.in-Thrown.is, resumed) (rw c.deref.ensures at c.handled.ensures)

pub returns-in-Returned : goal.returns-in-Returned
returns-in-Returned c = rw (c.in-Some.is, c.in-Returned.is, resumed) c.ended-in-Returned.ensures

pub returns-in-Broken : goal.returns-in-Broken
returns-in-Broken c = rw (c.in-Some.is, c.in-Broken.is, resumed) c.ended-in-Broken.ensures

pub returns-in-Continued : goal.returns-in-Continued
returns-in-Continued c = rw (c.in-Some.is, c.in-Continued.is, resumed) c.ended-in-Continued.ensures
