use Rattle.std.proofs.Common.{◌∙◌, to_z-of_z}
use Rattle.bad_proxy_table.proofs.Orders.{bad_in}
use Rattle.bad_proxy_table.proofs.table.BadTable.is_bad.Goals as goal

pub returns : goal.returns
returns c = λ reports stands.
    let bad = rw (to_z-of_z c.ranges.moment) at c.has_bad.ensures in
    bad ∙ bad_in _ reports stands c.args.moment c.args.proxy.now
