-- What a script sees of a URL. What a text parses as, and how a host is written, is as the URL Standard has it.
use Rattle.std.specs.Prelude.{◌≡◌, ℕ, ◌++◌, Bool, ◌||◌, nat_lt, List, [], length, codes, decimal, bytes_eq, if◌then◌else◌, Option, Some, None, Result, Ok, Err}
use Rattle.utf16_text.specs.Decode.{utf16_units}
use Rattle.url.specs.Parts.{Parts, host_or_empty}
use Rattle.std.specs.Net.Addr.{ipv6_segments}
use Rattle.std.specs.Net.Text.{hex_groups_text}
use Rattle.url.specs.Host.{host_text}
use Rattle.url.specs.declared.host.Host.{Host}
use Rattle.url.specs.declared.host.Host.TheVariants.{Domain, Ipv4, Ipv6}
use Rattle.url.specs.Parser.{Parsed, parse_url}
use Rattle.batch_text.specs.declared.seen.View.{View}
use Rattle.batch_text.specs.declared.seen.ViewAnswer.{ViewAnswer}
use Rattle.batch_text.specs.declared.seen.ViewAnswer.TheVariants.{BadUrl, Memory}
use Rattle.batch_text.specs.declared.urls.TheConstants.{LONGEST_URL}

-- the schemes that a script is asked about
unfoldable pub is_served : List ℕ → Bool
is_served scheme =
    bytes_eq scheme (codes "http") || bytes_eq scheme (codes "https") || bytes_eq scheme (codes "ws")
    || bytes_eq scheme (codes "wss") || bytes_eq scheme (codes "ftp")

-- the schemes whose paths and queries are kept from scripts
unfoldable pub is_private : List ℕ → Bool
is_private scheme = bytes_eq scheme (codes "https") || bytes_eq scheme (codes "wss")

-- a colon and the port, where there is one
abbrev pub port_part : Option ℕ → List ℕ
port_part None = []
port_part (Some port) = codes ":" ++ decimal port

-- a question mark and the query, where there is one
abbrev pub query_part : Option (List ℕ) → List ℕ
query_part None = []
query_part (Some query) = codes "?" ++ query

-- the path and the query, but only `/` where they are kept from scripts
abbrev pub path_part : Parts → List ℕ
path_part url = if is_private url.scheme then codes "/" else url.path ++ query_part url.query

-- scheme, host, port, path and query: no user, no password and no fragment
abbrev pub url_text : Parts → List ℕ
url_text url =
    url.scheme ++ codes "://" ++ host_text (host_or_empty url) ++ port_part url.port ++ path_part url

-- the host's text, for an IPv6 address without its brackets
abbrev pub bare_host : Host (List ℕ) → List ℕ
bare_host (Domain domain) = domain
bare_host (Ipv4 address) = host_text (Ipv4 address)
bare_host (Ipv6 address) = hex_groups_text (ipv6_segments address)

-- the script's `url` and `host`
pub record Seen : Type 0 where
  pub url : List ℕ
  pub host : List ℕ

-- the same, as the code has it
abbrev pub seen_of : View → Seen
seen_of view = record { url = view.url; host = view.host }

-- what a script sees of a URL, unless it isn't asked about such
abbrev pub seen_by_scripts : Parts → Option Seen
seen_by_scripts url =
    if is_served url.scheme
    then Some (record { url = utf16_units (url_text url); host = utf16_units (bare_host (host_or_empty url)) })
    else None

abbrev pub seen_if_parsed : Parsed Parts → Option Seen
seen_if_parsed (Ok url) = seen_by_scripts url
seen_if_parsed (Err e) = None

-- what a script sees of the URL that a text that isn't too long spells
abbrev pub view_of : List ℕ → Option Seen
view_of text = if nat_lt LONGEST_URL (length text) then None else seen_if_parsed (parse_url None text)

abbrev pub Views : Result View ViewAnswer → Option Seen → Type 0
Views (Ok view) seen = seen ≡ Some (seen_of view)
Views (Err BadUrl) seen = seen ≡ None
Views (Err Memory) seen = Unit {0}
