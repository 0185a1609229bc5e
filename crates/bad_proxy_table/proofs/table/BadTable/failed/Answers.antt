use Rattle.std.proofs.Common.{◌∙◌, Some, cond, ap, to_z-of_z}
use Rattle.bad_proxy_table.specs.Retry.{kept_failure, same_proxy}
use Rattle.bad_proxy_table.proofs.table.BadTable.failed.Goals as goal

pub returns-clause-ok : goal.returns-clause-ok
returns-clause-ok c = λ reports stands proxy.
    let updated = rw (to_z-of_z c.ranges.moment) at (c.in_ok-insert.ensures.updates.0 proxy) in
    updated
    ∙ ap (λ key. cond (same_proxy key proxy) (Some c.args.moment) (kept_failure c.self.inside.failures.entries proxy)) c.in_ok-copy.ensures
    ∙ ap (cond (same_proxy c.args.proxy.now proxy) (Some c.args.moment)) (ap (λ failures. kept_failure failures proxy) c.self.view_is ∙ stands proxy)
