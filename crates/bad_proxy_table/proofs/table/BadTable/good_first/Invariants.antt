use Rattle.std.proofs.Common.{◌≡◌, ◌++◌, drop, filter, not}
use Rattle.bad_proxy_table.specs.Retry.{is_bad_in}
use Rattle.bad_proxy_table.proofs.table.BadTable.good_first.Given as goal

abbrev pub invariant-loop-proxy : goal.invariant-loop-proxy
invariant-loop-proxy l = l.ordered ++ filter (λ proxy. not (is_bad_in l.self l.moment proxy)) (drop l.proxy-index l.proxies) ≡ filter (λ proxy. not (is_bad_in l.self l.moment proxy)) l.proxies
