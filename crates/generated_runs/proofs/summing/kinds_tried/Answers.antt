use Rattle.std.proofs.Common.{append-nil, sym, ◌∙◌}
use Rattle.generated_runs.proofs.Counting.{kinds_more}
use Rattle.generated_runs.proofs.summing.kinds_tried.Goals.{in-Some+in_ok-push, in_default}
use Rattle.generated_runs.proofs.summing.kinds_tried.Goals as goal

pub loop-end-preserved : goal.loop-end-preserved
loop-end-preserved c =
    let more = kinds_more c.args.ends.now c.loop-end.end-index c.end-item.result c.loop-end-test.true c.end-item.is in
    elim c.match-branch-2.branch [
      | in-Some+in_ok-push w ↦ rw (w.kinds-is, more, ← c.in_ok-kind.ensures, w.in-Some.is, ← c.loop-end.invariant) w.in_ok-push.ensures.items
      | in_default w ↦ rw (w.kinds-is, more, ← c.in_ok-kind.ensures, w.in_default.is) (c.loop-end.invariant ∙ sym (append-nil _))
    ]
