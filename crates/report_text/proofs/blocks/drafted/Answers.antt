use Rattle.std.proofs.Common.{rules, FitsSigned, w64, to_z-of_z, ◌+◌, ◌∷◌, List, drop, map, arith, ap, ◌∙◌}
use Rattle.batch_text.specs.declared.batch.BatchLine.{BatchLine}
use Rattle.batch_text.specs.Batch.{entry_seen}
use Rattle.report_text.proofs.Steps.{after_failure, after_success, after_url, next_end, next_line}
use Rattle.report_text.proofs.blocks.drafted.Goals.{in-Fail+in_ok-failed-in-Fail, in-Good+in_ok-worked-in-Good, in-Get+in-len1-up+in_ok-write_tried-in-Get}
use Rattle.report_text.proofs.blocks.drafted.Goals as goal

pub loop-line-preserved : goal.loop-line-preserved
loop-line-preserved c =
    let lines : List BatchLine = c.args.batch.now in
    let i = c.loop-line.line-index in
    let left = map entry_seen (drop (i + 1) lines) in
    let here = next_line lines i c.line-item.result (rw c.as_slice-line-items.ensures at c.line-item.is) (rw c.as_slice-line-items.ensures at c.loop-line-test.true) in
    elim c.match-line.branch [
      | in-Fail+in_ok-failed-in-Fail w ↦ (
          let fits : FitsSigned w64 w.in-Fail.moment = search rules in
          let stands = rw (here ∙ ap (λ x. entry_seen x ∷ left) w.in-Fail.is) at c.loop-line.invariant.1 in (
            omega (arith, c.loop-line.invariant.0, w.number-is),
            rw (w.out-is, w.proxies-is, w.left-is, w.number-is) (after_failure stands (λ reports known. rw (to_z-of_z fits) at (w.in_ok-failed-in-Fail.ensures.ok reports known))),
          ))
      | in-Good+in_ok-worked-in-Good w ↦ (
          let stands = rw (here ∙ ap (λ x. entry_seen x ∷ left) w.in-Good.is) at c.loop-line.invariant.1 in (
            omega (arith, c.loop-line.invariant.0, w.number-is),
            rw (w.out-is, w.proxies-is, w.left-is, w.number-is) (after_success stands w.in_ok-worked-in-Good.ensures.ok),
          ))
      | in-Get+in-len1-up+in_ok-write_tried-in-Get w ↦ (
          let fits : FitsSigned w64 w.in-Get.moment = search rules in
          let ends = next_end c.loop-line.left.now w.end-item.result w.end-item.is w.in-len1-up.len_at_least in
          let stands = rw (here ∙ ap (λ x. entry_seen x ∷ left) w.in-Get.is, ends) at c.loop-line.invariant.1 in (
            omega (arith, c.loop-line.invariant.0, w.number-is),
            rw (w.out-is, w.proxies-is, w.left-is, w.number-is) (after_url stands (λ reports known. rw (to_z-of_z fits) at (w.in_ok-write_tried-in-Get.ensures reports known))),
          ))
    ]
