use Rattle.js_statements.proofs.Turns.{stepped_by}
use Rattle.js_statements.proofs.for_loop.for_step.Goals as goal

pub returns-in-None : goal.returns-in-None
returns-in-None c = stepped_by c.args.machine.now c.args.turns c.args.looped _ c.in-None.is c.for_turn.ensures

pub returns-in-Some : goal.returns-in-Some
returns-in-Some c = stepped_by c.args.machine.now c.args.turns c.args.looped _ c.in-Some.is (rw c.deref.ensures at c.evaluate.ensures)
