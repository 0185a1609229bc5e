use Rattle.js_frames.specs.RestOf.{after_expression}
use Rattle.js_frames.specs.declared.frame.Frame.TheVariants as frame
use Rattle.js_frames.specs.declared.expression_frame.ExpressionFrame.TheVariants as of_expression
use Rattle.js_machine.specs.Moves.{evaluated, visited}
use Rattle.js_machine.proofs.Steps.{works_then, works_stops}
use Rattle.js_machine.proofs.Acting.{reached_then, reached_stops, reached_none}
use Rattle.js_expressions.proofs.assignments.target_read.Goals as goal

pub returns-in_err-old : goal.returns-in_err-old
returns-in_err-old c = works_stops _ _ _ _ _ _ c.from_residual.ensures.1 (c.in_err-old.ensures c.args.machine.now.context.this)

pub returns-in_err-value : goal.returns-in_err-value
returns-in_err-value c = works_then _ _ _ _ _ (c.in_ok-old.ensures c.args.machine.now.context.this)
    (reached_stops (visited c.args.machine.now c.args.value.now)
    (λ functions go cx. after_expression functions go cx (of_expression.AssignOperand c.args.op c.in_ok-old.old c.args.reference c.args.place)) _ _ _ _
    c.from_residual-in_err-value.ensures.1 c.in_err-value.ensures)

pub returns-in-Some : goal.returns-in-Some
returns-in-Some c = works_then _ _ _ _ _ (c.in_ok-old.ensures c.args.machine.now.context.this)
    (reached_then (visited c.args.machine.now c.args.value.now)
    (λ functions go cx. after_expression functions go cx (of_expression.AssignOperand c.args.op c.in_ok-old.old c.args.reference c.args.place)) _ _ _ _ _
    (rw c.in-Some.is at c.in_ok-value.ensures) c.assigned_operand.ensures)

pub returns-in-None : goal.returns-in-None
returns-in-None c = works_then _ _ _ _ _ (c.in_ok-old.ensures c.args.machine.now.context.this)
    (reached_none (visited c.args.machine.now c.args.value.now)
    (λ functions go cx. evaluated functions go cx c.args.value.now (frame.Expression (of_expression.AssignOperand c.args.op c.in_ok-old.old c.args.reference c.args.place))) _ _ _ _
    (rw c.in-None.is at c.in_ok-value.ensures) c.evaluate.ensures)
