use Rattle.std.proofs.Common.{◌≡◌, ◌++◌, take}
use Rattle.std.specs.Prelude.{flat_map}
use Rattle.report_text.specs.Report.{alert_line}
use Rattle.report_text.proofs.blocks.write_alerts.Given as goal

abbrev pub invariant-loop-alert : goal.invariant-loop-alert
invariant-loop-alert l = l.out ≡ l.fn.out ++ flat_map alert_line (take l.alert-index l.alerts)
