use Rattle.std.proofs.Common.{◌≤◌, ◌+◌, drop}
use Rattle.std.specs.Prelude.{map}
use Rattle.batch_text.specs.Batch.{entry_seen}
use Rattle.report_text.specs.Report.{report_of, seen_end}
use Rattle.report_text.proofs.Steps.{Stands}
use Rattle.report_text.proofs.blocks.drafted.Given as goal

abbrev pub invariant-loop-line : goal.invariant-loop-line
invariant-loop-line l =
    (l.number ≤ l.line-index + 1)
    × Stands l.number l.out l.proxies (map entry_seen (drop l.line-index l.batch)) (map seen_end l.left) (report_of (map entry_seen l.batch) (map seen_end l.ends))
