-- The proxies of a list.
use Rattle.std.specs.Prelude.{ℕ, List, flat_map}
use Rattle.utf16_text.specs.Decode.{decoded_units}
use Rattle.pac_plan.specs.Plan.{line}
use Rattle.proxy_list.specs.declared.proxy.Proxy.{Proxy}
use Rattle.proxy_list.specs.Proxies.{entry_text, proxies_of}
use Rattle.library_calls.specs.declared.told.Status.TheVariants as status
use Rattle.library_calls.specs.Told.{Told}

abbrev pub proxy_line : Proxy → List ℕ
proxy_line proxy = line (entry_text proxy)

-- a line for each proxy of a list of these bytes
abbrev pub listed : List ℕ → Told
listed bytes = record { status = status.Done; bytes = flat_map proxy_line (proxies_of (decoded_units bytes)) }
