-- No URL costs more runs than the distinct names of its whole run, and one.
use Rattle.std.proofs.Common.{◌+◌, ◌≤◌, List, length, arith, subst}
use Rattle.std.specs.FinMap as map
use Rattle.pac_names.specs.Names.{Name}
use Rattle.run_trees.specs.RunTree.{RunTree}
use Rattle.run_trees.specs.WholeRun.{asked_names}
use Rattle.js_evaluation.specs.State.{RunEnd}
use Rattle.poll_log.specs.Told.{told}
use Rattle.poll_log.specs.Jobs.{runs_of}
use Rattle.poll_log.specs.Laws.{IsRestartableBy}
use Rattle.poll_log.proofs.Bounds.{runs_bound}
use Rattle.poll_log.proofs.Orders.{runs_restartable}
use Rattle.session_log.specs.Asked.{asked_in, job_of}
use Rattle.session_log.proofs.Asking.{asked_in-map}
use Rattle.session_log.proofs.Orders.{in_order}
use Rattle.url_runs.specs.Laws.{RunsAreFew}
use Rattle.pac_names.specs.declared.limits.TheConstants.{MOST_NAMES}

pub few : RunsAreFew
few program entry t h all p =
    let run : RunTree RunEnd = program entry in
    let by : IsRestartableBy MOST_NAMES (asked_in run) = runs_restartable MOST_NAMES (asked_in run) (in_order run) in
    let bound : runs_of t h (job_of run) ≤ by.law.depth (told t h) + 1 = runs_bound MOST_NAMES t h (job_of run) by.law in
    let grows : by.law.depth (told t h) ≤ by.law.depth (map.get all) = by.law.grows (map.get all) (told t h) p in
    let deep : by.law.depth (map.get all) ≤ length (asked_in run (map.get all)) = by.depth (map.get all) in
    let names : by.law.depth (map.get all) ≤ length (asked_names all run) =
    subst (λ (names : List Name). by.law.depth (map.get all) ≤ length names) (asked_in-map all run) deep in
    omega arith
