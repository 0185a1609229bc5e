use Rattle.std.proofs.Common.{◌≡◌, take}
use Rattle.std.specs.Prelude.{flat_map}
use Rattle.library_calls.specs.Listing.{proxy_line}
use Rattle.library_calls.proofs.list.lines_of.Given as goal

abbrev pub invariant-loop-proxy : goal.invariant-loop-proxy
invariant-loop-proxy l = l.lines.items ≡ flat_map proxy_line (take l.proxy-index l.proxies)
