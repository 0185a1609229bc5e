use Rattle.std.proofs.Common.{◌≡◌, map}
use Rattle.report_text.specs.Report.{seen_end}
use Rattle.url_runs.specs.Ends.{session_end}
use Rattle.url_runs.proofs.resolving.ends_of.Given as goal

-- of the sessions so far
abbrev pub invariant-loop-session : goal.invariant-loop-session
invariant-loop-session l = map seen_end l.ends.items ≡ map session_end l.yielded
