-- The summary of a generated batch that was resolved.
use Rattle.std.specs.Prelude.{ℕ, List, ◌++◌, Bool, true, false, codes, count_by}
use Rattle.std.specs.Fmt.{decimal}
use Rattle.proxy_list.specs.declared.proxy.ProxyKind.{ProxyKind}
use Rattle.proxy_list.specs.declared.proxy.ProxyKind.TheVariants.{Direct, Http, Https, Socks4, Socks5}
use Rattle.pac_generate.specs.declared.summary.Kinds.{Kinds}
use Rattle.pac_generate.specs.declared.summary.Summary.{Summary}

-- no proxy; an HTTP or HTTPS proxy; a SOCKS proxy of either version
abbrev pub is_direct : ProxyKind → Bool
is_direct Direct = true
is_direct kind = false

abbrev pub is_proxy : ProxyKind → Bool
is_proxy Http = true
is_proxy Https = true
is_proxy kind = false

abbrev pub is_socks : ProxyKind → Bool
is_socks Socks4 = true
is_socks Socks5 = true
is_socks kind = false

-- how many there are of each of the three
abbrev pub kinds_of : List ProxyKind → Kinds
kinds_of kinds = record {
  direct = count_by is_direct kinds;
  proxy = count_by is_proxy kinds;
  socks = count_by is_socks kinds;
}

-- a line ends in a line feed
abbrev pub input_line : Summary → List ℕ
input_line s = codes "seed " ++ decimal s.seed ++ codes " sites " ++ decimal s.sites ++ codes "\n"

abbrev pub count_line : Summary → List ℕ
count_line s = codes "urls " ++ decimal s.urls ++ codes " runs " ++ decimal s.runs ++ codes " names " ++ decimal s.names ++ codes "\n"

abbrev pub kind_line : Kinds → List ℕ
kind_line k = codes "direct " ++ decimal k.direct ++ codes " proxy " ++ decimal k.proxy ++ codes " socks " ++ decimal k.socks ++ codes "\n"

unfoldable pub summary_text : Summary → List ℕ
summary_text s = input_line s ++ count_line s ++ kind_line s.kinds
