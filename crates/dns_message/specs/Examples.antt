-- Worked messages, by computation alone.
use Rattle.std.specs.Prelude.{◌≡◌, ℕ, Option, Some, None, List, [], ◌∷◌, ◌++◌, codes, refl}
use Rattle.pac_names.specs.Names.{Name}
use Rattle.pac_names.specs.declared.answer.Answer.TheVariants.{Address, Address6, NoAddress}
use Rattle.pac_names.specs.declared.kind.NameKind.TheVariants.{V4, V6}
use Rattle.dns_name.specs.Wire.{name_at, name_from, part_at}
use Rattle.dns_message.specs.Question.{question_octets}
use Rattle.dns_message.specs.Record.{facts_at, record_at}
use Rattle.dns_message.specs.Reply.{answer_on, reply_octets, reply_of}

-- example.com, of which the IPv4 and the IPv6 addresses are asked
abbrev pub name4 : Name
name4 = record { kind = V4; text = codes "example.com" }

abbrev pub name6 : Name
name6 = record { kind = V6; text = codes "example.com" }

-- it, with its lengths before the labels (RFC 1035, section 3.1)
abbrev pub spelled : List ℕ
spelled = 7 ∷ codes "example" ++ 3 ∷ codes "com" ++ 0 ∷ []

-- the number 1, a response of one answer
abbrev pub response : List ℕ
response = 0 ∷ 1 ∷ 0x81 ∷ 0x80 ∷ 0 ∷ 1 ∷ 0 ∷ 1 ∷ 0 ∷ 0 ∷ 0 ∷ 0 ∷ []

-- QTYPE 28 and QCLASS 1
abbrev pub aaaa_in : List ℕ
aaaa_in = 0 ∷ 28 ∷ 0 ∷ 1 ∷ []

abbrev pub a_in : List ℕ
a_in = 0 ∷ 1 ∷ 0 ∷ 1 ∷ []

-- a pointer to the question's name, and a TTL of 60 seconds
abbrev pub owner : List ℕ
owner = 0xc0 ∷ 0x0c ∷ []

abbrev pub ttl : List ℕ
ttl = 0 ∷ 0 ∷ 0 ∷ 60 ∷ []

-- 2001:db8::1
abbrev pub address6 : List ℕ
address6 = 0x20 ∷ 0x01 ∷ 0x0d ∷ 0xb8 ∷ 0 ∷ 0 ∷ 0 ∷ 0 ∷ 0 ∷ 0 ∷ 0 ∷ 0 ∷ 0 ∷ 0 ∷ 0 ∷ 1 ∷ []

abbrev pub aaaa_record : List ℕ
aaaa_record = owner ++ aaaa_in ++ ttl ++ 0 ∷ 16 ∷ address6

-- 10.0.0.1
abbrev pub a_record : List ℕ
a_record = owner ++ a_in ++ ttl ++ 0 ∷ 4 ∷ 10 ∷ 0 ∷ 0 ∷ 1 ∷ []

-- the question for the IPv6 addresses under the number 1
pub asked6 : question_octets 1 name6 ≡ 0 ∷ 1 ∷ 1 ∷ 0 ∷ 0 ∷ 1 ∷ 0 ∷ 0 ∷ 0 ∷ 0 ∷ 0 ∷ 0 ∷ spelled ++ aaaa_in
unfolding question_octets
asked6 = refl

-- its reply of 57 octets
abbrev pub answered6 : List ℕ
answered6 = response ++ spelled ++ aaaa_in ++ aaaa_record

pub answered6-is : reply_of answered6 1 name6 ≡ Some (Address6 0x20010db8000000000000000000000001)
unfolding reply_of name_at name_from part_at record_at facts_at answer_on
answered6-is = refl

pub answered6-written : reply_octets 1 name6 (Address6 0x20010db8000000000000000000000001) ≡ answered6
unfolding reply_octets
answered6-written = refl

-- it is no reply to the question for the IPv4 addresses
pub answered6-is_no_reply : reply_of answered6 1 name4 ≡ None
unfolding reply_of name_at name_from part_at record_at facts_at answer_on
answered6-is_no_reply = refl

-- an A record tells a question for IPv6 addresses nothing
pub a_record-is_plain : reply_of (response ++ spelled ++ aaaa_in ++ a_record) 1 name6 ≡ Some NoAddress
unfolding reply_of name_at name_from part_at record_at facts_at answer_on
a_record-is_plain = refl

-- and an AAAA record of any length one for IPv4 addresses
pub aaaa_record-is_plain :
    reply_of (response ++ spelled ++ a_in ++ owner ++ aaaa_in ++ ttl ++ 0 ∷ 1 ∷ 255 ∷ []) 1 name4 ≡ Some NoAddress
unfolding reply_of name_at name_from part_at record_at facts_at answer_on
aaaa_record-is_plain = refl

-- but an AAAA record of four octets is no answer to one for IPv6 addresses
pub short_aaaa_record :
    reply_of (response ++ spelled ++ aaaa_in ++ owner ++ aaaa_in ++ ttl ++ 0 ∷ 4 ∷ 10 ∷ 0 ∷ 0 ∷ 1 ∷ []) 1 name6 ≡ None
unfolding reply_of name_at name_from part_at record_at facts_at answer_on
short_aaaa_record = refl

-- nor is a message with an A record of sixteen
pub long_a_record :
    reply_of (response ++ spelled ++ aaaa_in ++ owner ++ a_in ++ ttl ++ 0 ∷ 16 ∷ address6) 1 name6 ≡ None
unfolding reply_of name_at name_from part_at record_at facts_at answer_on
long_a_record = refl

-- an address of the other family is told as none
pub other_family : reply_octets 1 name4 (Address6 1) ≡ reply_octets 1 name4 NoAddress
unfolding reply_octets
other_family = refl
