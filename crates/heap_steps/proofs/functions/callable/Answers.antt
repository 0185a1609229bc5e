use Rattle.heap_steps.proofs.functions.callable.Goals as goal

pub returns-in-Object : goal.returns-in-Object
returns-in-Object c = rw c.in-Object.is (rw c.kind.ensures at c.called_if.ensures)
