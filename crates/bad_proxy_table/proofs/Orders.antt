-- The order by the failures that are kept is that by the reports for which they stand.
use Rattle.std.proofs.Common.{◌≡◌, ℤ, List, [], ◌∷◌, ◌++◌, Bool, not, cond, filter, refl, ap, ◌∙◌}
use Rattle.proxy_list.specs.declared.proxy.Proxy.{Proxy}
use Rattle.bad_proxy_table.specs.Retry.{Report, StandsFor, is_bad, is_bad_by, is_bad_in, good_first, try_order}

pub bad_in : (failures : List (Proxy × ℤ)) (reports : List Report) → StandsFor failures reports → (moment : ℤ) (proxy : Proxy) → is_bad_in failures moment proxy ≡ is_bad reports proxy moment
bad_in failures reports stands moment proxy = ap (λ failure. is_bad_by failure proxy moment) (stands proxy)

filter_same : (p q : Proxy → Bool) → ((proxy : Proxy) → p proxy ≡ q proxy) → (proxies : List Proxy) → filter p proxies ≡ filter q proxies
filter_same p q same [] = refl
filter_same p q same (proxy ∷ proxies) =
    ap (λ b. cond b (proxy ∷ filter p proxies) (filter p proxies)) (same proxy)
    ∙ ap (λ rest. cond (q proxy) (proxy ∷ rest) rest) (filter_same p q same proxies)

pub good_first-same : (failures : List (Proxy × ℤ)) (reports : List Report) → StandsFor failures reports → (moment : ℤ) (proxies : List Proxy) → good_first (is_bad_in failures moment) proxies ≡ try_order reports proxies moment
good_first-same failures reports stands moment proxies =
    let same = bad_in failures reports stands moment in
    ap (λ front. front ++ filter (is_bad_in failures moment) proxies) (filter_same _ _ (λ proxy. ap not (same proxy)) proxies)
    ∙ ap (λ rest. filter (λ proxy. not (is_bad reports proxy moment)) proxies ++ rest) (filter_same _ _ same proxies)
