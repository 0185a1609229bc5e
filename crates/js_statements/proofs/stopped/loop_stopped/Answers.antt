use Rattle.js_statements.proofs.stopped.loop_stopped.Goals as goal

pub returns-in-WhileBody : goal.returns-in-WhileBody
returns-in-WhileBody c = rw c.in-WhileBody.is c.while_stopped.ensures

pub returns-in-DoBody : goal.returns-in-DoBody
returns-in-DoBody c = rw c.in-DoBody.is c.do_stopped.ensures

pub returns-in-ForBody : goal.returns-in-ForBody
returns-in-ForBody c = rw c.in-ForBody.is c.for_stopped.ensures

pub returns-in-ForInBody : goal.returns-in-ForInBody
returns-in-ForInBody c = rw c.in-ForInBody.is c.names_stopped.ensures
