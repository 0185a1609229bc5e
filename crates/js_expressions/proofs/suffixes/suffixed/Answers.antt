use Rattle.std.proofs.Common.{sym}
use Rattle.js_tree.specs.View.{suffixes_of}
use Rattle.js_frames.specs.RestOf.{suffixes_by}
use Rattle.js_frames.specs.declared.expression_frame.SuffixFrame.TheVariants as of_suffix
use Rattle.js_frames.specs.declared.frame.Frame.TheVariants as frame
use Rattle.js_evaluation.specs.State.{global_object}
use Rattle.js_machine.specs.Moves.{evaluated, visited}
use Rattle.js_machine.proofs.Acting.{reached_either, reached_short, reached_none}
use Rattle.js_expressions.proofs.suffixes.suffixed.Goals as goal

pub returns-then-refers_to_property : goal.returns-then-refers_to_property
returns-then-refers_to_property c = rw (sym c.refers_to_property.ensures, c.if-refers_to_property.true) c.refer.ensures

pub returns-in_err-value : goal.returns-in_err-value
returns-in_err-value c = rw (sym c.refers_to_property.ensures, c.if-refers_to_property.false)
    (reached_short (visited c.args.machine.now c.args.first.now)
    (λ functions go cx v. suffixes_by functions go cx c.args.aim global_object v (suffixes_of c.args.suffixes.now)) _ _ _ _ c.from_residual.ensures.1 c.in_err-value.ensures)

pub returns-in-Some : goal.returns-in-Some
returns-in-Some c = rw (sym c.refers_to_property.ensures, c.if-refers_to_property.false)
    (reached_either (visited c.args.machine.now c.args.first.now)
    (λ functions go cx v. suffixes_by functions go cx c.args.aim global_object v (suffixes_of c.args.suffixes.now)) _ _ _ _ _
    (rw c.in-Some.is at c.in_ok-value.ensures) c.applied.ensures)

pub returns-in-None : goal.returns-in-None
returns-in-None c = rw (sym c.refers_to_property.ensures, c.if-refers_to_property.false)
    (reached_none (visited c.args.machine.now c.args.first.now)
    (λ functions go cx. evaluated functions go cx c.args.first.now (frame.Suffix (of_suffix.First c.args.aim c.args.suffixes))) _ _ _ _
    (rw c.in-None.is at c.in_ok-value.ensures) c.evaluate.ensures)
