use Rattle.std.proofs.Common.{◌≡◌, ◌++◌, map, take}
use Rattle.proxy_list.specs.Proxies.{byte_of}
use Rattle.proxy_list.proofs.writing.append_host.Given as goal

abbrev pub invariant-loop-unit : goal.invariant-loop-unit
invariant-loop-unit l = l.out.items ≡ l.fn.out.items ++ map byte_of (take l.unit-index l.host)
