-- Resource records (RFC 1035, section 4.1.3), and what they say of their names to a question for the addresses of a
-- family.
use Rattle.std.specs.Prelude.{ℕ, zero, suc, ◌+◌, List, [], ◌∷◌, ◌==◌, nat_le, length, if◌then◌else◌, Option, Some, None}
use Rattle.pac_names.specs.declared.kind.NameKind.{NameKind}
use Rattle.pac_names.specs.declared.kind.NameKind.TheVariants.{V4, V6}
use Rattle.dns_name.specs.Wire.{WireName, name_at, lowered}
use Rattle.dns_message.specs.Numbers.{number_at, address_at, address6_at}
use Rattle.dns_message.specs.Question.{type_a, type_aaaa, type_cname, class_in}

-- What a record says of its name, as far as a question for an address asks: an address of the family that is asked for,
-- another name that it is an alias of, or something else.
pub data Says : Type 0 where
  Address : ℕ → Says
  Address6 : ℕ → Says
  Alias : List (List ℕ) → Says
  Else : Says

-- names are in lower case
pub record Fact : Type 0 where
  pub owner : List (List ℕ)
  pub says : Says

-- a record's fact, and the offset behind the record
pub record RecordThere : Type 0 where
  pub fact : Fact
  pub behind : ℕ

-- an A record of class IN has four octets of data, whoever asks (RFC 1035, section 3.4.1)
abbrev pub address_data : NameKind → List ℕ → ℕ → ℕ → Option Says
address_data V4 message at length = if length == 4 then Some (Address (address_at message at)) else None
address_data V6 message at length = if length == 4 then Some Else else None

-- an AAAA record of class IN has sixteen (RFC 3596, section 2.2); a question for IPv4 addresses leaves it unread
abbrev pub address6_data : NameKind → List ℕ → ℕ → ℕ → Option Says
address6_data V4 message at length = Some Else
address6_data V6 message at length = if length == 16 then Some (Address6 (address6_at message at)) else None

-- the data of a CNAME record of class IN is one name (RFC 1035, section 3.3.1)
abbrev pub alias_ending : ℕ → Option WireName → Option Says
alias_ending end None = None
alias_ending end (Some name) = if name.behind == end then Some (Alias (lowered name.labels)) else None

-- what type, class, and data of so many octets at an offset say
abbrev pub says_of : NameKind → List ℕ → ℕ → ℕ → ℕ → ℕ → Option Says
says_of kind message type class at length =
    if class == class_in
    then (if type == type_a then address_data kind message at length
    else if type == type_aaaa then address6_data kind message at length
    else if type == type_cname then alias_ending (at + length) (name_at message at)
    else Some Else)
    else Some Else

abbrev pub there : List (List ℕ) → ℕ → Option Says → Option RecordThere
there owner behind None = None
there owner behind (Some says) = Some (record { fact = record { owner = owner; says = says }; behind = behind })

-- RDLENGTH of the record whose name ends there
abbrev pub rdlength : List ℕ → ℕ → ℕ
rdlength message behind = number_at message (behind + 8)

-- TYPE, CLASS, TTL and RDLENGTH take ten octets, RDATA as many as RDLENGTH says; all stand whole in the message
abbrev pub record_from : NameKind → List ℕ → Option WireName → Option RecordThere
record_from kind message None = None
record_from kind message (Some name) =
    if nat_le (name.behind + 10) (length message)
    then (if nat_le (name.behind + 10 + rdlength message name.behind) (length message)
    then there (lowered name.labels) (name.behind + 10 + rdlength message name.behind)
    (says_of kind message (number_at message name.behind) (number_at message (name.behind + 2)) (name.behind + 10)
    (rdlength message name.behind))
    else None)
    else None

-- the record at an offset
unfoldable pub record_at : NameKind → List ℕ → ℕ → Option RecordThere
record_at kind message at = record_from kind message (name_at message at)

abbrev pub onto_facts : Fact → Option (List Fact) → Option (List Fact)
onto_facts fact None = None
onto_facts fact (Some facts) = Some (fact ∷ facts)

abbrev pub facts_behind : (ℕ → Option (List Fact)) → Option RecordThere → Option (List Fact)
facts_behind rest None = None
facts_behind rest (Some there) = onto_facts there.fact (rest there.behind)

-- the facts of so many records from an offset on, where all of them are readable
unfoldable pub facts_at : NameKind → ℕ → List ℕ → ℕ → Option (List Fact)
facts_at kind zero message at = Some []
facts_at kind (suc count) message at = facts_behind (facts_at kind count message) (record_at kind message at)
