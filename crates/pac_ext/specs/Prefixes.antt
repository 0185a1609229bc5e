-- Prefixes, and the addresses in them (RFC 4291, section 2.3).
use Rattle.std.specs.Prelude.{ℕ, ◌-◌, ◌/◌, ◌^◌, List, Bool, false, ◌==◌, nat_le, if◌then◌else◌, Option, Some, None, option_map}
use Rattle.std.specs.List.{before_first, after_first}
use Rattle.pac_names.specs.Quads.{quad_of, is_group, decimal_value}
use Rattle.pac_ext.specs.declared.address.Address.{Address}
use Rattle.pac_ext.specs.declared.address.Address.TheVariants.{V4, V6}
use Rattle.pac_ext.specs.declared.prefix.Prefix.{Prefix}
use Rattle.pac_ext.specs.Reading.{ipv6_of}

-- a dotted quad, where there is one, or else an IPv6 address
abbrev pub either_of : Option ℕ → Option ℕ → Option Address
either_of (Some quad) ipv6 = Some (V4 quad)
either_of None ipv6 = option_map V6 ipv6

-- the address of either family that a text writes
abbrev pub ip_of : List ℕ → Option Address
ip_of text = either_of (quad_of text) (ipv6_of text)

-- how many bits an address of the family has
abbrev pub width_of : Address → ℕ
width_of (V4 _) = 32
width_of (V6 _) = 128

-- the number of bits that one to three decimal digits write
abbrev pub bits_in : List ℕ → Option ℕ
bits_in text = if is_group text then Some (decimal_value text) else None

-- the prefix of an address and a number of bits, at most all bits of its family
abbrev pub prefix_by : Option Address → Option ℕ → Option Prefix
prefix_by None bits = None
prefix_by (Some address) None = None
prefix_by (Some address) (Some bits) = if nat_le bits (width_of address) then Some (record { address = address; bits = bits }) else None

-- the prefix that a text writes: an address before the first `/` (47), and a number of bits behind it
abbrev pub prefix_of : List ℕ → Option Prefix
prefix_of text = prefix_by (ip_of (before_first (λ u. u == 47) text)) (bits_in (after_first (λ u. u == 47) text))

-- two numbers agree above so many bits
abbrev pub agree_above : ℕ → ℕ → ℕ → Bool
agree_above bits one other = one / 2 ^ bits == other / 2 ^ bits

-- two addresses are of one family, and agree in so many leading bits
abbrev pub agree_in : ℕ → Address → Address → Bool
agree_in bits (V4 one) (V4 other) = agree_above (32 - bits) one other
agree_in bits (V6 one) (V6 other) = agree_above (128 - bits) one other
agree_in bits (V4 one) (V6 other) = false
agree_in bits (V6 one) (V4 other) = false

-- an address agrees with a prefix in the leading bits that count
abbrev pub is_in : Option Address → Option Prefix → Bool
is_in None prefix = false
is_in (Some address) None = false
is_in (Some address) (Some prefix) = agree_in prefix.bits address prefix.address

-- an address is in a prefix, as texts
abbrev pub is_in_prefix : List ℕ → List ℕ → Bool
is_in_prefix address prefix = is_in (ip_of address) (prefix_of prefix)
