use Rattle.std.proofs.Common.{sym, ◌∙◌, ap}
use Rattle.pac_ext.specs.Reading.{one_in, groups_in, at_most_eight}
use Rattle.pac_ext.proofs.Sides.{pieces, next-piece, grows, ends}
use Rattle.pac_ext.proofs.side.side_in.Goals as goal

pub returns-in_err-groups : goal.returns-in_err-groups
returns-in_err-groups c =
    let next = next-piece c.args.ending c.loop-cut.groups.items c.loop-cut.rest.now c.in-Some.cut.before.now c.in-Some.cut.behind.now c.in-Some.ensures.pieces in
    rw c.from_residual.ensures
    (sym (ap at_most_eight (c.loop-cut.invariant ∙ next)
    ∙ ends c.loop-cut.groups.items (one_in c.in-Some.cut.before.now) (groups_in c.args.ending (pieces c.in-Some.cut.behind.now)) c.in_err-groups.ensures))

pub loop-cut-preserved : goal.loop-cut-preserved
loop-cut-preserved c =
    let next = next-piece c.args.ending c.loop-cut.groups.items c.loop-cut.rest.now c.in-Some.cut.before.now c.in-Some.cut.behind.now c.in-Some.ensures.pieces in
    c.loop-cut.invariant ∙ next
    ∙ grows c.loop-cut.groups.items c.in_ok-groups.groups.items (one_in c.in-Some.cut.before.now) (groups_in c.args.ending (pieces c.in-Some.cut.behind.now)) c.in_ok-groups.ensures
