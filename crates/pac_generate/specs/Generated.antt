-- What a seed and a number of sites generate: a script, a batch of URLs, and the answers to all names that it asks for.
use Rattle.std.specs.Prelude.{ℕ, zero, suc, List, [], ◌∷◌, ◌++◌, codes}
use Rattle.batch_text.specs.declared.batch.BatchLine.{BatchLine}
use Rattle.batch_text.specs.declared.batch.BatchLine.TheVariants as line
use Rattle.pac_generate.specs.Names.{site_host, site_map}
use Rattle.pac_generate.specs.declared.generating.TheConstants.{MOMENT}
use Rattle.pac_generate.specs.declared.generating.Generated.{Generated}

-- a line of the script, and a line feed
abbrev line_then : List ℕ → List ℕ → List ℕ
line_then text rest = text ++ 10 ∷ rest

-- it answers by the host's name and address alone, and asks for both the host and one of ten gates
abbrev pub script : List ℕ
script =
    line_then (codes "function FindProxyForURL(url, host) {")
    (line_then (codes "  var gate = dnsResolve(\"gw\" + host.charAt(4) + \".example\");")
    (line_then (codes "  if (!isResolvable(host)) return \"DIRECT\";")
    (line_then (codes "  if (isInNet(host, \"10.0.0.0\", \"255.128.0.0\")) return \"PROXY \" + gate + \":8080\";")
    (line_then (codes "  return \"SOCKS \" + gate + \":1080; DIRECT\";")
    (line_then (codes "}") [])))))

abbrev pub site_url : ℕ → List ℕ
site_url site = codes "http://" ++ site_host site ++ codes "/"

-- a site's line: `get` and its URL
abbrev pub site_line : ℕ → BatchLine
site_line site = line.Get MOMENT (record { url = site_url site; host = site_host site })

-- one line for each site, in order
abbrev pub site_lines : ℕ → List BatchLine
site_lines zero = []
site_lines (suc site) = site_lines site ++ site_line site ∷ []

abbrev pub generated : ℕ → ℕ → Generated
generated seed sites = record { script = script; batch = site_lines sites; map = site_map seed sites }
