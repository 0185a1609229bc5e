use Rattle.std.proofs.Common.{◌≡◌, map, take}
use Rattle.report_text.specs.Report.{seen_end}
use Rattle.generated_runs.specs.Summing.{kinds_tried}
use Rattle.generated_runs.proofs.summing.kinds_tried.Given as goal

abbrev pub invariant-loop-end : goal.invariant-loop-end
invariant-loop-end l = l.kinds.items ≡ kinds_tried (map seen_end (take l.end-index l.ends))
