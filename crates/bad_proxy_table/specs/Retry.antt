-- Proxies that failed a short while ago, by what was reported of them.
use Rattle.std.specs.Prelude.{◌≡◌, ℤ, pos, ◌-ℤ◌, int_le, int_lt, List, [], ◌∷◌, ◌++◌, Bool, false, not, ◌&&◌, filter, if◌then◌else◌, Option, Some, None}
use Rattle.std.specs.Ordering.{is_eq}
use Rattle.std.specs.Map.{lookup}
use Rattle.proxy_list.specs.declared.proxy.Proxy.{Proxy}
use Rattle.proxy_list.specs.Proxies.{is_direct}
use Rattle.proxy_list.specs.contracts.proxy.ProxyOrd.TheImpl as order
use Rattle.bad_proxy_table.specs.declared.table.TheConstants.{RETRY_SECONDS}

-- what is reported of a proxy at a moment in seconds
pub data Report : Type 0 where
  Failed : Proxy → ℤ → Report
  Worked : Proxy → ℤ → Report

-- equal in kind, host and port
abbrev pub same_proxy : Proxy → Proxy → Bool
same_proxy p q = is_eq (order.ghosts.cmp p q)

-- the moment of the last report on a proxy, where it is a failure; the last report stands first
abbrev pub last_failure : List Report → Proxy → Option ℤ
last_failure [] proxy = None
last_failure (Failed other moment ∷ before) proxy = if same_proxy other proxy then Some moment else last_failure before proxy
last_failure (Worked other moment ∷ before) proxy = if same_proxy other proxy then None else last_failure before proxy

-- a failure counts for so many seconds
abbrev pub is_recent : Option ℤ → ℤ → Bool
is_recent None moment = false
is_recent (Some failed) moment = int_le failed moment && int_lt (moment -ℤ failed) RETRY_SECONDS

-- a proxy is bad by its failure while that counts; no proxy never is bad
abbrev pub is_bad_by : Option ℤ → Proxy → ℤ → Bool
is_bad_by failure proxy moment = not (is_direct proxy.kind) && is_recent failure moment

-- whether a proxy is bad at a moment, after these reports
abbrev pub is_bad : List Report → Proxy → ℤ → Bool
is_bad reports proxy moment = is_bad_by (last_failure reports proxy) proxy moment

-- the proxies that aren't bad, then the bad ones, each of them in the list's order
abbrev pub good_first : (Proxy → Bool) → List Proxy → List Proxy
good_first bad proxies = filter (λ proxy. not (bad proxy)) proxies ++ filter bad proxies

-- the order in which to try them at a moment, after these reports
abbrev pub try_order : List Report → List Proxy → ℤ → List Proxy
try_order reports proxies moment = good_first (λ proxy. is_bad reports proxy moment) proxies

-- ---- what the code keeps

-- the failure that is kept of a proxy
abbrev pub kept_failure : List (Proxy × ℤ) → Proxy → Option ℤ
kept_failure failures proxy = lookup (λ other. same_proxy proxy other) failures

-- the failures that are the last reports of these
abbrev pub StandsFor : List (Proxy × ℤ) → List Report → Type 0
StandsFor failures reports = (proxy : Proxy) → kept_failure failures proxy ≡ last_failure reports proxy

-- bad by the failures that are kept
abbrev pub is_bad_in : List (Proxy × ℤ) → ℤ → Proxy → Bool
is_bad_in failures moment proxy = is_bad_by (kept_failure failures proxy) proxy moment
