use Rattle.js_statements.proofs.for_loop.for_started.Goals as goal

pub returns-in-Var : goal.returns-in-Var
returns-in-Var c = rw c.in-Var.is (rw c.as_slice.ensures at c.declare.ensures)

pub returns-in-Expression : goal.returns-in-Expression
returns-in-Expression c = rw c.in-Expression.is c.evaluate.ensures
