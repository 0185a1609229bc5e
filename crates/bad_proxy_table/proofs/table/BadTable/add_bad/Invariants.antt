use Rattle.std.proofs.Common.{◌≡◌, ◌++◌, drop, filter}
use Rattle.bad_proxy_table.specs.Retry.{is_bad_in}
use Rattle.bad_proxy_table.proofs.table.BadTable.add_bad.Given as goal

abbrev pub invariant-loop-proxy : goal.invariant-loop-proxy
invariant-loop-proxy l = l.ordered ++ filter (is_bad_in l.self l.moment) (drop l.proxy-index l.proxies) ≡ l.fn.ordered ++ filter (is_bad_in l.self l.moment) l.proxies
