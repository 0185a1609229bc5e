-- Worked cases, with the values of RFC 4291 (sections 2.2 and 2.3) and RFC 5952 (section 4).
use Rattle.std.specs.Prelude.{◌≡◌, true, false, Some, None, codes, refl}
use Rattle.pac_ext.specs.Reading.{ipv6_of}
use Rattle.pac_ext.specs.Writing.{ipv6_text}
use Rattle.pac_ext.specs.Prefixes.{is_in_prefix}

-- a unicast address in full, and with `::`
pub in_full : ipv6_of (codes "2001:DB8:0:0:8:800:200C:417A") ≡ Some 0x20010db80000000000080800200c417a
in_full = refl

pub shortened : ipv6_of (codes "2001:DB8::8:800:200C:417A") ≡ Some 0x20010db80000000000080800200c417a
shortened = refl

-- the loopback address, and the unspecified one
pub loopback : ipv6_of (codes "::1") ≡ Some 1
loopback = refl

pub unspecified : ipv6_of (codes "::") ≡ Some 0
unspecified = refl

-- a dotted quad at the end, in full and with `::`
pub with_a_quad : ipv6_of (codes "0:0:0:0:0:FFFF:129.144.52.38") ≡ Some 0xffff81903426
with_a_quad = refl

pub short_with_a_quad : ipv6_of (codes "::13.1.68.3") ≡ Some 0xd014403
short_with_a_quad = refl

-- `::` may stand for one group, at an end too
pub for_one_group : ipv6_of (codes "1:2:3:4:5:6:7::") ≡ Some 0x10002000300040005000600070000
for_one_group = refl

-- no address: `::` for no group or twice, nine groups, five digits, a quad before other groups, a zone
pub for_no_group : ipv6_of (codes "1:2:3:4::5:6:7:8") ≡ None
for_no_group = refl

pub twice : ipv6_of (codes "2001::25de::cade") ≡ None
twice = refl

pub nine_groups : ipv6_of (codes "1:2:3:4:5:6:7:8:9") ≡ None
nine_groups = refl

pub five_digits : ipv6_of (codes "::00001") ≡ None
five_digits = refl

pub quad_before : ipv6_of (codes "1.2.3.4::") ≡ None
quad_before = refl

pub zone : ipv6_of (codes "fe80::1%1") ≡ None
zone = refl

-- of two rows as long, the first one is shortened; of others the longest
pub first_of_two : ipv6_text 0x20010db8000000000001000000000001 ≡ codes "2001:db8::1:0:0:1"
first_of_two = refl

pub longest : ipv6_text 0x20010000000000010000000000000001 ≡ codes "2001:0:0:1::1"
longest = refl

-- one group of zero isn't
pub one_alone : ipv6_text 0x20010db8000000010001000100010001 ≡ codes "2001:db8:0:1:1:1:1:1"
one_alone = refl

pub all_zero : ipv6_text 0 ≡ codes "::"
all_zero = refl

-- an address in a prefix of 60 bits, and the next one that isn't
pub within : is_in_prefix (codes "2001:0DB8:0:CD3F::") (codes "2001:0DB8:0:CD30::/60") ≡ true
within = refl

pub without : is_in_prefix (codes "2001:0DB8:0:CD40::") (codes "2001:0DB8:0:CD30::/60") ≡ false
without = refl

-- of either family, and of one each
pub quads : is_in_prefix (codes "10.1.2.3") (codes "10.0.0.0/8") ≡ true
quads = refl

pub of_one_each : is_in_prefix (codes "10.1.2.3") (codes "2001:db8::/32") ≡ false
of_one_each = refl
