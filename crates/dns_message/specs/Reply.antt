-- The answer that a datagram gives to a question for the address of a name (RFC 1035, sections 4.1 and 3.6.2; RFC 1034,
-- section 3.6.2, on aliases; RFC 3596, section 2, on IPv6 addresses).
use Rattle.std.specs.Prelude.{ℕ, zero, suc, List, [], ◌∷◌, ◌++◌, Bool, true, false, ◌&&◌, ◌==◌, nat_le, length, if◌then◌else◌, Option, Some, None}
use Rattle.pac_names.specs.Labels.{labels_of}
use Rattle.pac_names.specs.Names.{Name}
use Rattle.pac_names.specs.declared.kind.NameKind.{NameKind}
use Rattle.pac_names.specs.declared.kind.NameKind.TheVariants.{V4, V6}
use Rattle.pac_names.specs.declared.answer.Answer.{Answer}
use Rattle.pac_names.specs.declared.answer.Answer.TheVariants as answer
use Rattle.dns_name.specs.Wire.{same_labels}
use Rattle.byteorder.specs.Endian.{big_bytes}
use Rattle.dns_message.specs.Header.{header_of, header_octets, response_header, is_response_to}
use Rattle.dns_message.specs.Numbers.{number_octets}
use Rattle.dns_message.specs.Question.{asked_octets, question_end, type_a, type_aaaa, class_in}
use Rattle.dns_message.specs.Record.{Fact, Says, Address, Address6, Alias, facts_at}
use Rattle.dns_message.specs.declared.header.Header.{Header}

-- the address, where the record is one of the name
abbrev pub address_or : Bool → Says → Answer → Answer
address_or true (Address address) rest = answer.Address address
address_or true (Address6 address) rest = answer.Address6 address
address_or _ _ rest = rest

-- the first address of a name
abbrev pub address_in : List Fact → List (List ℕ) → Answer
address_in [] name = answer.NoAddress
address_in (fact ∷ facts) name = address_or (same_labels fact.owner name) fact.says (address_in facts name)

abbrev pub alias_or : Bool → Says → Option (List (List ℕ)) → Option (List (List ℕ))
alias_or true (Alias target) rest = Some target
alias_or _ _ rest = rest

-- the first name that a name is an alias of
abbrev pub alias_in : List Fact → List (List ℕ) → Option (List (List ℕ))
alias_in [] name = None
alias_in (fact ∷ facts) name = alias_or (same_labels fact.owner name) fact.says (alias_in facts name)

abbrev pub followed : List Fact → List (List ℕ) → (List (List ℕ) → Answer) → Option (List (List ℕ)) → Answer
followed facts name rest None = address_in facts name
followed facts name rest (Some target) = rest target

-- The answer on a name: its aliases are followed, so many steps at most, and the address of the last one stands.
unfoldable pub answer_on : ℕ → List Fact → List (List ℕ) → Answer
answer_on zero facts name = address_in facts name
answer_on (suc steps) facts name = followed facts name (answer_on steps facts) (alias_in facts name)

abbrev pub answer_in : Name → Option (List Fact) → Option Answer
answer_in name None = None
answer_in name (Some facts) = Some (answer_on 16 facts (labels_of name.text))

-- for a name error (3) no record is read; else the records of the answer section are, and no further section
abbrev pub answer_behind : List ℕ → Name → Option ℕ → Option Answer
answer_behind datagram name None = None
answer_behind datagram name (Some at) =
    if (header_of datagram).rcode == 3 then Some answer.NoAddress
    else answer_in name (facts_at name.kind (header_of datagram).ancount datagram at)

-- the answer, where the datagram is a whole response to the question with this number and name
unfoldable pub reply_of : List ℕ → ℕ → Name → Option Answer
reply_of datagram id name =
    if nat_le 12 (length datagram) && is_response_to (header_of datagram) id
    then answer_behind datagram name (question_end datagram name)
    else None

-- the answer to a question for the addresses of a family: an address of the other family counts as none
abbrev pub answer_for : NameKind → Answer → Answer
answer_for V4 (answer.Address address) = answer.Address address
answer_for V6 (answer.Address6 address) = answer.Address6 address
answer_for _ _ = answer.NoAddress

-- the header of the response
abbrev pub header_for : ℕ → Answer → Header
header_for id (answer.Address address) = response_header id true
header_for id (answer.Address6 address) = response_header id true
header_for id answer.NoAddress = response_header id false

-- the front of a record: its name by a pointer to the question's (0xc00c), a type, IN, a TTL of 60 seconds, and how many
-- octets are behind it
abbrev pub record_front : ℕ → ℕ → List ℕ
record_front type length =
    number_octets 0xc00c ++ number_octets type ++ number_octets class_in ++ big_bytes 4 60 ++ number_octets length

-- an address as one record, of type A and four octets or of type AAAA and sixteen
abbrev pub answer_octets : Answer → List ℕ
answer_octets (answer.Address address) = record_front type_a 4 ++ big_bytes 4 address
answer_octets (answer.Address6 address) = record_front type_aaaa 16 ++ big_bytes 16 address
answer_octets answer.NoAddress = []

-- the response that tells an answer
abbrev pub telling : ℕ → Name → Answer → List ℕ
telling id name answer = header_octets (header_for id answer) ++ asked_octets name ++ answer_octets answer

-- the response to a question that tells an answer of its family, or else that there is none
unfoldable pub reply_octets : ℕ → Name → Answer → List ℕ
reply_octets id name answer = telling id name (answer_for name.kind answer)
