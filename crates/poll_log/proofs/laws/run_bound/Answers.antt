use Rattle.std.proofs.Common.{◌+◌, ◌≤◌, arith}
use Rattle.poll_log.specs.Told.{told}
use Rattle.poll_log.specs.Jobs.{runs_of}
use Rattle.poll_log.proofs.Bounds.{runs_bound}
use Rattle.poll_log.proofs.laws.run_bound.Goals as goal

pub returns : goal.returns
returns c most t h job law =
    let runs : runs_of t h job ≤ law.depth (told t h) + 1 = runs_bound most t h job law in
    let within = law.within (told t h) in (runs, omega arith)
