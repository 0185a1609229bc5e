-- The rules of proxy lists, by example. The values come from docs/PROXIES.md.
use Rattle.std.proofs.Common.{◌≡◌, ℕ, List, [], ◌∷◌, ◌++◌, replicate, true, false, Some, None, refl, codes}
use Rattle.std.specs.Fmt.{decimal}
use Rattle.proxy_list.specs.declared.proxy.Proxy.{Proxy}
use Rattle.proxy_list.specs.declared.proxy.ProxyKind.{ProxyKind}
use Rattle.proxy_list.specs.declared.proxy.ProxyKind.TheVariants.{Http, Https, Socks4, Socks5}
use Rattle.proxy_list.specs.Proxies.{direct, entry_of, entry_text, is_host, proxies_of}

abbrev proxy : ProxyKind → List ℕ → ℕ → Proxy
proxy kind host port = record { kind = kind; host = host; port = port }

-- lists
own_ports : proxies_of (codes "PROXY a;HTTP a;HTTPS a;SOCKS a;SOCKS4 a;SOCKS5 a")
    ≡ proxy Http (codes "a") 80 ∷ proxy Http (codes "a") 80 ∷ proxy Https (codes "a") 443 ∷ proxy Socks4 (codes "a") 1080 ∷ proxy Socks4 (codes "a") 1080 ∷ proxy Socks5 (codes "a") 1080 ∷ []
own_ports = refl

any_case : proxies_of (codes "pRoXy ExAmple.COM:3128; direct") ≡ proxy Http (codes "example.com") 3128 ∷ direct ∷ []
any_case = refl

skipped : proxies_of (codes "BOGUS x; DIRECT a;; PROXY; PROXY a b; PROXY a:0; SOCKS b") ≡ proxy Socks4 (codes "b") 1080 ∷ []
skipped = refl

repeated : proxies_of (codes "PROXY a; HTTP A:80") ≡ proxy Http (codes "a") 80 ∷ proxy Http (codes "a") 80 ∷ []
repeated = refl

no_entry : proxies_of (codes "none;") ≡ direct ∷ []
no_entry = refl

no_text : proxies_of [] ≡ direct ∷ []
no_text = refl

-- a tab before the word, and one behind
tabs : proxies_of (9 ∷ codes "PROXY" ++ 9 ∷ codes " a:1" ++ 9 ∷ []) ≡ proxy Http (codes "a") 1 ∷ []
tabs = refl

line_feed : proxies_of (codes "PROXY" ++ 10 ∷ codes "a:1") ≡ direct ∷ []
line_feed = refl

-- ports
largest_port : entry_of (codes "proxy a:65535") ≡ Some (proxy Http (codes "a") 65535)
largest_port = refl

port_past : entry_of (codes "proxy a:65536") ≡ None
port_past = refl

five_digits : entry_of (codes "proxy a:00080") ≡ Some (proxy Http (codes "a") 80)
five_digits = refl

six_digits : entry_of (codes "proxy a:000080") ≡ None
six_digits = refl

no_digits : entry_of (codes "proxy a:") ≡ None
no_digits = refl

-- hosts
in_brackets : entry_of (codes "socks5 [::1]:9050") ≡ Some (proxy Socks5 (codes "[::1]") 9050)
in_brackets = refl

colon_without : entry_of (codes "proxy ::1") ≡ None
colon_without = refl

longest_host : is_host (replicate 255 97) ≡ true
longest_host = refl

host_past : is_host (replicate 256 97) ≡ false
host_past = refl

longest_inner : is_host (91 ∷ replicate 255 58 ++ 93 ∷ []) ≡ true
longest_inner = refl

inner_past : is_host (91 ∷ replicate 256 58 ++ 93 ∷ []) ≡ false
inner_past = refl

-- writing; a numeral of std isn't computed here
direct_text : entry_text direct ≡ codes "DIRECT"
direct_text = refl

http_text : entry_text (proxy Http (codes "example.com") 8080) ≡ codes "PROXY example.com:" ++ decimal 8080
http_text = refl

https_text : entry_text (proxy Https (codes "a") 443) ≡ codes "HTTPS a:" ++ decimal 443
https_text = refl

socks_text : entry_text (proxy Socks4 (codes "a") 1080) ≡ codes "SOCKS a:" ++ decimal 1080
socks_text = refl

brackets_text : entry_text (proxy Socks5 (codes "[::1]") 1) ≡ codes "SOCKS5 [::1]:" ++ decimal 1
brackets_text = refl
