-- The question for the address of a name (RFC 1035, sections 4.1.2, 3.2.2 and 3.2.4; RFC 3596, section 2.1).
use Rattle.std.specs.Prelude.{ℕ, ◌+◌, List, ◌++◌, Bool, ◌&&◌, ◌==◌, nat_le, length, if◌then◌else◌, Option, Some, None}
use Rattle.pac_names.specs.Names.{Name}
use Rattle.pac_names.specs.declared.kind.NameKind.{NameKind}
use Rattle.pac_names.specs.declared.kind.NameKind.TheVariants.{V4, V6}
use Rattle.dns_name.specs.Wire.{name_at, behind_of, spells_name}
use Rattle.dns_name.specs.Writing.{wire_name}
use Rattle.dns_message.specs.Header.{header_octets, query_header}
use Rattle.dns_message.specs.Numbers.{number_at, number_octets}

-- the type A, a host address
abbrev pub type_a : ℕ
type_a = 1

-- the type AAAA, an IPv6 host address
abbrev pub type_aaaa : ℕ
type_aaaa = 28

-- the type of the records with the addresses of a family
abbrev pub type_of : NameKind → ℕ
type_of V4 = type_a
type_of V6 = type_aaaa

-- the type CNAME, the canonical name for an alias
abbrev pub type_cname : ℕ
type_cname = 5

-- the class IN, the Internet
abbrev pub class_in : ℕ
class_in = 1

-- QNAME, QTYPE and QCLASS
abbrev pub asked_octets : Name → List ℕ
asked_octets name = wire_name name.text ++ number_octets (type_of name.kind) ++ number_octets class_in

-- the message that asks for the address of a name under a number
unfoldable pub question_octets : ℕ → Name → List ℕ
question_octets id name = header_octets (query_header id) ++ asked_octets name

-- whether the type of this family and class IN stand at an offset
abbrev pub asks_address : NameKind → List ℕ → ℕ → Bool
asks_address kind message at =
    nat_le (at + 4) (length message) && number_at message at == type_of kind && number_at message (at + 2) == class_in

abbrev pub question_from : NameKind → List ℕ → Option ℕ → Option ℕ
question_from kind message None = None
question_from kind message (Some at) = if asks_address kind message at then Some (at + 4) else None

-- the offset behind the question behind the header, where it asks for the address of the name
abbrev pub question_end : List ℕ → Name → Option ℕ
question_end message name =
    if spells_name message 12 name.text then question_from name.kind message (behind_of (name_at message 12)) else None
