use Rattle.std.proofs.Common.{[]}
use Rattle.pac_plan.specs.Plan.{unfinished}
use Rattle.poll_loop.proofs.Kept.{not_begun}
use Rattle.url_runs.proofs.resolving.end_urls.Goals as goal

pub returns-in-Err : goal.returns-in-Err
returns-in-Err g c = λ o. (unfinished, [], not_begun _ _)

pub returns-in-Ok : goal.returns-in-Ok
returns-in-Ok g c = rw c.in-Ok.ensures at c.end_prepared.ensures
