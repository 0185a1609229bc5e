use Rattle.std.proofs.Common.{arith, refl}
use Rattle.js_evaluation.specs.Statements.{statement_node}
use Rattle.js_statements.proofs.Nodes.{declares}
use Rattle.js_statements.proofs.statement.statement_node.Goals as goal

pub returns-in-Block : goal.returns-in-Block
unfolding statement_node
returns-in-Block c = rw (← c.s.view_is, c.in-Block.is) (rw c.as_slice.ensures at c.statements_from.ensures)

pub returns-in-Empty : goal.returns-in-Empty
unfolding statement_node
returns-in-Empty c = record { goes = λ last. rw (← c.s.view_is, c.in-Empty.is) refl; light = omega arith }

pub returns-in-Expression : goal.returns-in-Expression
unfolding statement_node
returns-in-Expression c = rw (← c.s.view_is, c.in-Expression.is) (rw c.deref.ensures at c.evaluate_alone.ensures)

pub returns-in-Debugger : goal.returns-in-Debugger
unfolding statement_node
returns-in-Debugger c = record { goes = λ last. rw (← c.s.view_is, c.in-Debugger.is) refl; light = omega arith }

pub returns-in-Var : goal.returns-in-Var
unfolding statement_node
returns-in-Var c = rw (← c.s.view_is, c.in-Var.is) (rw c.as_slice-in-Var.ensures at c.variables_from.ensures)

pub returns-in-If : goal.returns-in-If
unfolding statement_node
returns-in-If c = rw (← c.s.view_is, c.in-If.is) (rw c.as_slice-in-If.ensures at c.branches_from.ensures)

pub returns-in-DoWhile : goal.returns-in-DoWhile
unfolding statement_node
returns-in-DoWhile c = rw (← c.s.view_is, c.in-DoWhile.is) (rw (c.deref-in-DoWhile.ensures, c.deref-in-DoWhile-2.ensures) at c.do_loop.ensures)

pub returns-in-While : goal.returns-in-While
unfolding statement_node
returns-in-While c = rw (← c.s.view_is, c.in-While.is) (rw (c.deref-in-While.ensures, c.deref-in-While-2.ensures) at c.while_loop.ensures)

pub returns-in-For : goal.returns-in-For
unfolding statement_node
returns-in-For c = rw (← c.s.view_is, c.in-For.is) (rw c.deref-in-For.ensures at c.for_loop.ensures)

pub returns-in-ForIn : goal.returns-in-ForIn
unfolding statement_node
returns-in-ForIn c = rw (← c.s.view_is, c.in-ForIn.is) (rw (c.deref-in-ForIn.ensures, c.deref-in-ForIn-2.ensures, c.deref-in-ForIn-3.ensures) at c.for_in_loop.ensures)

pub returns-in-Continue : goal.returns-in-Continue
unfolding statement_node
returns-in-Continue c = record { goes = λ last. rw (← c.s.view_is, c.in-Continue.is) refl; light = omega arith }

pub returns-in-Break : goal.returns-in-Break
unfolding statement_node
returns-in-Break c = record { goes = λ last. rw (← c.s.view_is, c.in-Break.is) refl; light = omega arith }

pub returns-in-Return : goal.returns-in-Return
unfolding statement_node
returns-in-Return c = rw (← c.s.view_is, c.in-Return.is) c.returned.ensures

pub returns-in-Throw : goal.returns-in-Throw
unfolding statement_node
returns-in-Throw c = rw (← c.s.view_is, c.in-Throw.is) (rw c.deref-in-Throw.ensures at c.thrown.ensures)

pub returns-in-Switch : goal.returns-in-Switch
unfolding statement_node
returns-in-Switch c = rw (← c.s.view_is, c.in-Switch.is) (rw (c.deref-in-Switch.ensures, c.as_slice-in-Switch.ensures) at c.switched.ensures)

pub returns-in-Try : goal.returns-in-Try
unfolding statement_node
returns-in-Try c = rw (← c.s.view_is, c.in-Try.is) (rw c.deref-in-Try.ensures at c.tried.ensures)

pub returns-in-Function : goal.returns-in-Function
returns-in-Function c = rw (← c.s.view_is, c.in-Function.is) (declares c.args.machine.now _ _ _)
