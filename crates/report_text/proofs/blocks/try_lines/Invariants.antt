use Rattle.std.proofs.Common.{◌≡◌, take}
use Rattle.std.specs.Prelude.{flat_map}
use Rattle.report_text.specs.Report.{try_line}
use Rattle.report_text.proofs.blocks.try_lines.Given as goal

abbrev pub invariant-loop-proxy : goal.invariant-loop-proxy
invariant-loop-proxy l = l.lines.items ≡ flat_map try_line (take l.proxy-index l.tries)
