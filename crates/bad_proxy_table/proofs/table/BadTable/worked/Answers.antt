use Rattle.std.proofs.Common.{◌∙◌, None, cond, ap}
use Rattle.bad_proxy_table.specs.Retry.{kept_failure, same_proxy}
use Rattle.bad_proxy_table.proofs.table.BadTable.worked.Goals as goal

pub returns-clause-ok : goal.returns-clause-ok
returns-clause-ok c = λ reports stands proxy.
    c.remove-failed.ensures.updates.0 proxy
    ∙ ap (cond (same_proxy c.args.proxy.now proxy) None) (ap (λ failures. kept_failure failures proxy) c.self.view_is ∙ stands proxy)
