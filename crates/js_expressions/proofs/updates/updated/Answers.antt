use Rattle.js_frames.specs.RestOf.{after_target}
use Rattle.js_frames.specs.declared.frame.Frame.TheVariants as frame
use Rattle.js_frames.specs.declared.target_frame.TargetFrame.TheVariants as of_target
use Rattle.js_machine.specs.Moves.{targeted, visited_target}
use Rattle.js_machine.proofs.Acting.{reached_either, reached_short, reached_none}
use Rattle.js_expressions.proofs.updates.updated.Goals as goal

pub returns-in_err-reference : goal.returns-in_err-reference
returns-in_err-reference c = reached_short (visited_target c.args.machine.now c.args.target.now)
    (λ functions go cx. after_target functions go cx (of_target.Update c.args.form c.args.op c.args.place)) _ _ _ _ c.from_residual.ensures.1 c.in_err-reference.ensures

pub returns-in-Some : goal.returns-in-Some
returns-in-Some c = reached_either (visited_target c.args.machine.now c.args.target.now)
    (λ functions go cx. after_target functions go cx (of_target.Update c.args.form c.args.op c.args.place)) _ _ _ _ _
    (rw c.in-Some.is at c.in_ok-reference.ensures) c.update_done.ensures

pub returns-in-None : goal.returns-in-None
returns-in-None c = reached_none (visited_target c.args.machine.now c.args.target.now)
    (λ functions go cx. targeted functions go cx c.args.target.now (frame.Target (of_target.Update c.args.form c.args.op c.args.place))) _ _ _ _
    (rw c.in-None.is at c.in_ok-reference.ensures) c.refer.ensures
