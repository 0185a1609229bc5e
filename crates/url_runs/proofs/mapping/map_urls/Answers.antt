use Rattle.std.proofs.Common.{refl}
use Rattle.std.proofs.lemmas.Result.{err_from_is_err_and}
use Rattle.pac_plan.specs.Plan.{say}
use Rattle.url_runs.specs.Runs.{seen_work}
use Rattle.url_runs.specs.Mapping.{map_report}
use Rattle.url_runs.proofs.Running.{ran_all, ran_some}
use Rattle.url_runs.proofs.mapping.map_urls.Goals as goal

pub returns-in_err-ends : goal.returns-in_err-ends
returns-in_err-ends g c = λ o.
    let p = err_from_is_err_and c.from_residual.result c.from_residual.ensures.1 in
    let done = c.in_err-ends.ensures.memory in
    rw p.1 (ran_some c.args.work.entries.items (say (map_report c.args.answers.now (seen_work c.args.work))) o c.args.runs.now c.run_each.new.runs done.0 done.1 done.2)

pub returns : goal.returns
returns g c = λ o.
    let done = c.in_ok-ends.ensures in
    ran_all c.args.work.entries.items (say (map_report c.args.answers.now (seen_work c.args.work))) o c.args.runs.now c.run_each.new.runs _ _ done.ran
    (refl, rw (← done.ends) (rw c.deref.ensures.value at c.reported.ensures))
