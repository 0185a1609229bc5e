use Rattle.heap_steps.proofs.writing.put.Goals as goal

pub returns-in-Object : goal.returns-in-Object
returns-in-Object c = rw c.in-Object.is c.put_on.ensures
