-- Numbers in messages, the high octet first (RFC 1035, section 2.3.2).
use Rattle.std.specs.Prelude.{ℕ, List, drop}
use Rattle.byteorder.specs.Endian.{big_bytes, big_number}

-- the 16 bits at an offset
abbrev pub number_at : List ℕ → ℕ → ℕ
number_at message at = big_number 2 (drop at message)

-- the 32 bits at an offset
abbrev pub address_at : List ℕ → ℕ → ℕ
address_at message at = big_number 4 (drop at message)

-- the 128 bits at an offset
abbrev pub address6_at : List ℕ → ℕ → ℕ
address6_at message at = big_number 16 (drop at message)

-- the octets of 16 bits
abbrev pub number_octets : ℕ → List ℕ
number_octets n = big_bytes 2 n
