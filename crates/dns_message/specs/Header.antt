-- The header of a message (RFC 1035, section 4.1.1).
use Rattle.std.specs.Prelude.{ℕ, ◌+◌, ◌*◌, ◌/◌, ◌%◌, List, ◌++◌, Bool, true, false, ◌&&◌, ◌||◌, not, ◌==◌, if◌then◌else◌}
use Rattle.dns_message.specs.Numbers.{number_at, number_octets}
use Rattle.dns_message.specs.declared.header.Header.{Header}

-- whether the bit of this weight is set
abbrev pub has_bit : ℕ → ℕ → Bool
has_bit flags weight = flags / weight % 2 == 1

-- the header that stands in a message of at least 12 octets
abbrev pub header_of : List ℕ → Header
header_of message =
    let flags = number_at message 2 in
    record {
      id = number_at message 0;
      qr = has_bit flags 32768;
      opcode = flags / 2048 % 16;
      aa = has_bit flags 1024;
      tc = has_bit flags 512;
      rd = has_bit flags 256;
      ra = has_bit flags 128;
      z = flags / 16 % 8;
      rcode = flags % 16;
      qdcount = number_at message 4;
      ancount = number_at message 6;
      nscount = number_at message 8;
      arcount = number_at message 10;
    }

abbrev pub bit : Bool → ℕ → ℕ
bit b weight = if b then weight else 0

abbrev pub flags_of : Header → ℕ
flags_of h = bit h.qr 32768 + h.opcode * 2048 + bit h.aa 1024 + bit h.tc 512 + bit h.rd 256 + bit h.ra 128 + h.z * 16 + h.rcode

-- the twelve octets of a header
abbrev pub header_octets : Header → List ℕ
header_octets h =
    number_octets h.id ++ number_octets (flags_of h) ++ number_octets h.qdcount ++ number_octets h.ancount ++ number_octets h.nscount ++ number_octets h.arcount

-- a standard query with one question, which asks for recursion
abbrev pub query_header : ℕ → Header
query_header id =
    record { id = id; qr = false; opcode = 0; aa = false; tc = false; rd = true; ra = false; z = 0; rcode = 0; qdcount = 1; ancount = 0; nscount = 0; arcount = 0 }

-- the response to it, with recursion available: no error and one answer, or a name error (3) and none
abbrev pub response_header : ℕ → Bool → Header
response_header id found =
    record { id = id; qr = true; opcode = 0; aa = false; tc = false; rd = true; ra = true; z = 0; rcode = if found then 0 else 3; qdcount = 1; ancount = if found then 1 else 0; nscount = 0; arcount = 0 }

-- a whole response to the query with this number: no error (0) or a name error (3), with its one question
abbrev pub is_response_to : Header → ℕ → Bool
is_response_to h id = h.id == id && h.qr && h.opcode == 0 && not h.tc && (h.rcode == 0 || h.rcode == 3) && h.qdcount == 1

-- a truncated response to it (TC), with its one question, whatever error it tells
abbrev pub is_truncated_response_to : Header → ℕ → Bool
is_truncated_response_to h id = h.id == id && h.qr && h.opcode == 0 && h.tc && h.qdcount == 1
