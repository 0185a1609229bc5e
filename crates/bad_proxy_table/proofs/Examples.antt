-- The order of tries, by example. The values come from docs/PROXIES.md.
use Rattle.std.proofs.Common.{◌≡◌, ℕ, pos, List, [], ◌∷◌, true, false, refl, codes}
use Rattle.proxy_list.specs.declared.proxy.Proxy.{Proxy}
use Rattle.proxy_list.specs.declared.proxy.ProxyKind.{ProxyKind}
use Rattle.proxy_list.specs.declared.proxy.ProxyKind.TheVariants.{Http, Https, Socks4}
use Rattle.proxy_list.specs.Proxies.{direct}
use Rattle.bad_proxy_table.specs.Retry.{Failed, Worked, is_bad, same_proxy, try_order}

abbrev proxy : ProxyKind → List ℕ → ℕ → Proxy
proxy kind host port = record { kind = kind; host = host; port = port }

abbrev a : Proxy
a = proxy Http (codes "a") 80

abbrev b : Proxy
b = proxy Socks4 (codes "b") 1080

abbrev c : Proxy
c = proxy Http (codes "c") 80

-- proxies
same : same_proxy a a ≡ true
same = refl

other_kind : same_proxy a (proxy Https (codes "a") 80) ≡ false
other_kind = refl

other_host : same_proxy a c ≡ false
other_host = refl

other_port : same_proxy a (proxy Http (codes "a") 81) ≡ false
other_port = refl

-- 300 seconds
no_report : is_bad [] a (pos 0) ≡ false
no_report = refl

just_recent : is_bad (Failed a (pos 1000) ∷ []) a (pos 1299) ≡ true
just_recent = refl

past : is_bad (Failed a (pos 1000) ∷ []) a (pos 1300) ≡ false
past = refl

to_come : is_bad (Failed a (pos 1000) ∷ []) a (pos 999) ≡ false
to_come = refl

-- the last report counts, which stands first here, and no other proxy's
worked_last : is_bad (Worked a (pos 1000) ∷ Failed a (pos 1000) ∷ []) a (pos 1000) ≡ false
worked_last = refl

failed_last : is_bad (Failed a (pos 1000) ∷ Worked a (pos 1000) ∷ []) a (pos 1000) ≡ true
failed_last = refl

older_last : is_bad (Failed a (pos 0) ∷ Failed a (pos 400) ∷ []) a (pos 500) ≡ false
older_last = refl

other_worked : is_bad (Worked b (pos 10) ∷ Failed a (pos 0) ∷ []) a (pos 10) ≡ true
other_worked = refl

direct_never : is_bad (Failed direct (pos 0) ∷ []) direct (pos 0) ≡ false
direct_never = refl

-- orders
one_bad : try_order (Failed a (pos 1000) ∷ []) (a ∷ b ∷ direct ∷ []) (pos 1299) ≡ b ∷ direct ∷ a ∷ []
one_bad = refl

good_again : try_order (Failed a (pos 1000) ∷ []) (a ∷ b ∷ direct ∷ []) (pos 1300) ≡ a ∷ b ∷ direct ∷ []
good_again = refl

both_bad : try_order (Failed a (pos 9) ∷ Failed b (pos 9) ∷ []) (a ∷ c ∷ b ∷ a ∷ []) (pos 10) ≡ c ∷ a ∷ b ∷ a ∷ []
both_bad = refl
