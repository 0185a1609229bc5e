use Rattle.std.proofs.Common.{◌∙◌, ap, to_z-of_z}
use Rattle.bad_proxy_table.specs.Retry.{good_first, is_bad_in}
use Rattle.bad_proxy_table.proofs.Orders.{good_first-same}
use Rattle.bad_proxy_table.proofs.table.BadTable.order.Goals as goal

pub returns : goal.returns
returns c = λ reports stands.
    let ordered = rw (to_z-of_z c.ranges.moment) at c.in_ok-good_first.ensures in
    ordered ∙ ap (good_first (is_bad_in c.args.self.now c.args.moment)) c.as_slice.ensures
    ∙ good_first-same _ reports stands c.args.moment c.args.list.now
