use Rattle.js_regex.specs.Moves.{back_of}
use Rattle.js_regex.specs.Stacks.{after}
use Rattle.js_regex.specs.Subjects.{subject_in}
use Rattle.js_regex.proofs.SingleTurns.{later_counts, later_trans, leaving_fails, terms_fail_first}
use Rattle.js_regex.proofs.matcher.Matcher.last_open.Goals as goal

pub loop-cost-preserved : goal.loop-cost-preserved
loop-cost-preserved c =
    let s = subject_in c.args.self in
    let fails = terms_fail_first s _ _ c.args.state.now.pending _ c.args.state.now.groups c.loop-cost.place c.in-Some.cost
    (rw c.in-Some-Terms.field-0-is at c.in-Some-Terms.ensures) c.in-Some.ensures in
    later_trans _ _ _ _ _ _ c.loop-cost.invariant
    (later_counts c.in-Some.cost _ _ _ _
    (leaving_fails (after s c.args.state.now.pending) c.args.state.now.groups (back_of s c.args.state.now)
    c.args.from c.loop-cost.place c.in-Some.cost (fails.0) c.if-place-from.false)
    c.in_ok-spend.ensures)
