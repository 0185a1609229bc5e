-- Proxy lists, as the function of a script answers them: entries parted by `;`, in either case of letters.
use Rattle.std.specs.Prelude.{ℕ, ◌+◌, ◌-◌, ◌%◌, List, [], ◌∷◌, ◌++◌, Bool, true, false, not, ◌&&◌, ◌||◌, ◌==◌, nat_le, length, map, take, drop, filter, slice_index, bytes_eq, codes, if◌then◌else◌, Option, Some, None}
use Rattle.std.specs.Fmt.{decimal}
use Rattle.std.specs.List.{list_all, filter_map, slice_split, position_or_len}
use Rattle.std.specs.Option.{option_and_then}
use Rattle.utf16_text.specs.Digits.{is_digit, value_of}
use Rattle.utf16_text.specs.Letters.{is_between, lower_unit}
use Rattle.proxy_list.specs.declared.proxy.Proxy.{Proxy}
use Rattle.proxy_list.specs.declared.proxy.ProxyKind.{ProxyKind}
use Rattle.proxy_list.specs.declared.proxy.ProxyKind.TheVariants.{Direct, Http, Https, Socks4, Socks5}

-- ---- kinds

-- the kind that a word in lower case names
abbrev pub kind_named : List ℕ → Option ProxyKind
kind_named word =
    if bytes_eq word (codes "proxy") || bytes_eq word (codes "http") then Some Http
    else (if bytes_eq word (codes "https") then Some Https
    else (if bytes_eq word (codes "socks") || bytes_eq word (codes "socks4") then Some Socks4
    else (if bytes_eq word (codes "socks5") then Some Socks5
    else None)))

-- the port of an entry that writes none
abbrev pub standard_port : ProxyKind → ℕ
standard_port Direct = 0
standard_port Http = 80
standard_port Https = 443
standard_port Socks4 = 1080
standard_port Socks5 = 1080

-- ---- hosts and ports

-- `[` is 91, `]` 93, `;` 59 and `:` 58
abbrev pub is_literal_unit : ℕ → Bool
is_literal_unit u = is_between 33 126 u && not (u == 91 || u == 93 || u == 59)

abbrev pub is_name_unit : ℕ → Bool
is_name_unit u = is_literal_unit u && not (u == 58)

-- 1 to 255 units that pass a test
abbrev pub is_part : (ℕ → Bool) → List ℕ → Bool
is_part test units = nat_le 1 (length units) && nat_le (length units) 255 && list_all test units

abbrev pub is_in_brackets : List ℕ → Bool
is_in_brackets host = nat_le 2 (length host) && slice_index host 0 == 91 && slice_index host (length host - 1) == 93

-- what stands between the brackets
abbrev pub inner_of : List ℕ → List ℕ
inner_of host = take (length host - 2) (drop 1 host)

-- a name or an address without `:`, or between brackets an address with it
abbrev pub is_host : List ℕ → Bool
is_host host = if is_in_brackets host then is_part is_literal_unit (inner_of host) else is_part is_name_unit host

-- how many units stand before the first of these
abbrev pub length_before : ℕ → List ℕ → ℕ
length_before end units = position_or_len (λ u. u == end) units

-- how many units stand before the bracket that closes the one at the front
abbrev pub bracket_length : List ℕ → ℕ
bracket_length [] = 0
bracket_length (u ∷ us) = if u == 91 then length_before 93 (u ∷ us) else 0

-- how many units stand before the `:` in front of the port; one between brackets is none
abbrev pub host_length : List ℕ → ℕ
host_length address = bracket_length address + length_before 58 (drop (bracket_length address) address)

-- 1 to 5 digits
abbrev pub are_port_digits : List ℕ → Bool
are_port_digits units = nat_le 1 (length units) && nat_le (length units) 5 && list_all is_digit units

-- such digits of a number from 1 to 65,535
abbrev pub is_port : List ℕ → Bool
is_port digits = are_port_digits digits && is_between 1 65535 (value_of 10 digits)

abbrev pub port_in : List ℕ → Option ℕ
port_in digits = if is_port digits then Some (value_of 10 digits) else None

-- the port that stands behind the host: none, or `:` and digits
abbrev pub port_behind : ProxyKind → List ℕ → Option ℕ
port_behind kind [] = Some (standard_port kind)
port_behind kind (colon ∷ digits) = port_in digits

abbrev pub proxy_with : ProxyKind → List ℕ → Option ℕ → Option Proxy
proxy_with kind host None = None
proxy_with kind host (Some port) = if is_host host then Some (record { kind = kind; host = host; port = port }) else None

-- the proxy of a kind at an address, which is a host, or a host, `:` and a port
abbrev pub proxy_at : ProxyKind → List ℕ → Option Proxy
proxy_at kind address = proxy_with kind (take (host_length address) address) (port_behind kind (drop (host_length address) address))

-- ---- entries

-- no proxy
abbrev pub direct : Proxy
direct = record { kind = Direct; host = []; port = 0 }

-- a space or a tab
abbrev pub is_blank : ℕ → Bool
is_blank u = u == 32 || u == 9

abbrev pub is_word : List ℕ → Bool
is_word [] = false
is_word (u ∷ us) = true

-- what stands between the blanks
abbrev pub words_of : List ℕ → List (List ℕ)
words_of piece = filter is_word (slice_split is_blank piece)

-- `direct` alone, or a kind and an address
abbrev pub entry_in : List (List ℕ) → Option Proxy
entry_in (kind ∷ []) = if bytes_eq kind (codes "direct") then Some direct else None
entry_in (kind ∷ address ∷ []) = option_and_then (λ kind. proxy_at kind address) (kind_named kind)
entry_in words = None

-- the entry of a piece in lower case, where it can be read
abbrev pub entry_of : List ℕ → Option Proxy
entry_of piece = entry_in (words_of piece)

abbrev pub lower : List ℕ → List ℕ
lower text = map lower_unit text

-- ---- lists

-- what stands between the `;`
abbrev pub pieces_of : List ℕ → List (List ℕ)
pieces_of text = slice_split (λ u. u == 59) text

abbrev pub or_direct : List Proxy → List Proxy
or_direct [] = direct ∷ []
or_direct (proxy ∷ proxies) = proxy ∷ proxies

-- the proxies of a text, in its order: each entry that can be read, or `direct` where there is none
abbrev pub proxies_of : List ℕ → List Proxy
proxies_of text = or_direct (filter_map entry_of (pieces_of (lower text)))

-- ---- writing

abbrev pub kind_text : ProxyKind → List ℕ
kind_text Direct = codes "DIRECT"
kind_text Http = codes "PROXY"
kind_text Https = codes "HTTPS"
kind_text Socks4 = codes "SOCKS"
kind_text Socks5 = codes "SOCKS5"

-- a unit as one byte; those of a host that was read are below 127
abbrev pub byte_of : ℕ → ℕ
byte_of u = u % 256

-- a space, the host, `:` and the port
abbrev pub address_text : List ℕ → ℕ → List ℕ
address_text host port = codes " " ++ map byte_of host ++ codes ":" ++ decimal port

abbrev pub is_direct : ProxyKind → Bool
is_direct Direct = true
is_direct kind = false

-- an entry as it is written
abbrev pub entry_text : Proxy → List ℕ
entry_text proxy = kind_text proxy.kind ++ (if is_direct proxy.kind then [] else address_text proxy.host proxy.port)
