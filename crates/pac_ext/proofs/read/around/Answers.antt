use Rattle.std.proofs.Common.{◌∙◌, ap, Some}
use Rattle.pac_ext.specs.declared.side.Ending.TheVariants.{Group, GroupOrQuad}
use Rattle.pac_ext.specs.Reading.{side_in, filled}
use Rattle.pac_ext.proofs.Sides.{around-is, no-head, no-tail}
use Rattle.pac_ext.proofs.read.around.Goals as goal

pub returns-in_err-head : goal.returns-in_err-head
returns-in_err-head c = c.from_residual.ensures ∙ no-head (side_in Group c.args.before.now) (side_in GroupOrQuad c.args.behind.now) c.in_err-head.ensures

pub returns-in_err-tail : goal.returns-in_err-tail
returns-in_err-tail c =
    c.from_residual-in_err-tail.ensures ∙ no-tail (side_in Group c.args.before.now) (side_in GroupOrQuad c.args.behind.now) c.in_err-tail.ensures

pub returns : goal.returns
returns c =
    c.filled.ensures ∙ ap (λ gs. filled (Some c.in_ok-head.head.items) (Some gs)) c.as_slice.ensures.value
    ∙ around-is (side_in Group c.args.before.now) (side_in GroupOrQuad c.args.behind.now) c.in_ok-head.head.items c.in_ok-tail.tail.items c.in_ok-head.ensures c.in_ok-tail.ensures
