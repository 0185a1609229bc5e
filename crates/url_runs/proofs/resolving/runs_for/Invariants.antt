use Rattle.std.proofs.Common.{◌≡◌, map}
use Rattle.url_runs.specs.Runs.{program_runs, seen_for, seen_run}
use Rattle.url_runs.proofs.resolving.runs_for.Given as goal

-- those of the entries so far
abbrev pub invariant-loop-entry : goal.invariant-loop-entry
invariant-loop-entry l = map seen_run l.all.items ≡ map (seen_for (program_runs l.fn.program.program.now)) l.yielded
