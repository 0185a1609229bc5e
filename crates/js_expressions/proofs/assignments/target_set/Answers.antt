use Rattle.js_frames.specs.RestOf.{after_expression}
use Rattle.js_frames.specs.declared.frame.Frame.TheVariants as frame
use Rattle.js_frames.specs.declared.expression_frame.ExpressionFrame.TheVariants as of_expression
use Rattle.js_machine.specs.Moves.{evaluated, visited}
use Rattle.js_machine.proofs.Acting.{reached_then, reached_none}
use Rattle.js_expressions.proofs.assignments.target_set.Goals as goal

pub returns-in-Some : goal.returns-in-Some
returns-in-Some c = reached_then (visited c.args.machine.now c.args.value.now)
    (λ functions go cx. after_expression functions go cx (of_expression.AssignValue c.args.reference c.args.place)) _ _ _ _ _
    (rw c.in-Some.is at c.in_ok-value.ensures) c.value_done.ensures

pub returns : goal.returns
returns c = reached_none (visited c.args.machine.now c.args.value.now)
    (λ functions go cx. evaluated functions go cx c.args.value.now (frame.Expression (of_expression.AssignValue c.args.reference c.args.place))) _ _ _ _
    (rw c.in-None.is at c.in_ok-value.ensures) c.evaluate.ensures
