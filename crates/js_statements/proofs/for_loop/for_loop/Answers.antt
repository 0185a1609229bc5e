use Rattle.js_statements.proofs.for_loop.for_loop.Goals as goal

pub returns-in-None : goal.returns-in-None
returns-in-None c = rw c.in-None.is c.for_begun.ensures

pub returns-in-Some : goal.returns-in-Some
returns-in-Some c = rw c.in-Some.is (rw c.deref.ensures at c.for_started.ensures)
