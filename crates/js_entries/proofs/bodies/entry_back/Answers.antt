use Rattle.js_machine.specs.Moves.{resumed}
use Rattle.js_entries.proofs.bodies.entry_back.Goals as goal

pub returns-in-Body : goal.returns-in-Body
returns-in-Body c = λ v. rw (c.in-Body.is, resumed) c.called_body.ensures

pub returns-in-Construct : goal.returns-in-Construct
returns-in-Construct c = λ v. rw (c.in-Construct.is, resumed) c.constructing_body.ensures
