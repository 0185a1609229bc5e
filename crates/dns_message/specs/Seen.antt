-- What the code keeps of a record, by the offsets of its names, as what the record says.
use Rattle.std.specs.Prelude.{◌≡◌, ℕ, ◌+◌, ◌≤◌, length, List, [], Option, Some, None, IsSome}
use Rattle.pac_names.specs.declared.kind.NameKind.{NameKind}
use Rattle.pac_names.specs.declared.answer.Answer.{Answer}
use Rattle.pac_names.specs.declared.answer.Answer.TheVariants as answer
use Rattle.dns_name.specs.Wire.{behind_of, labels_at, name_at, same_labels}
use Rattle.dns_message.specs.Reply.{address_or, alias_or}
use Rattle.dns_message.specs.Numbers.{number_at}
use Rattle.dns_message.specs.Record.{Says, Address, Address6, Alias, Else, Fact, RecordThere, says_of}
use Rattle.dns_message.specs.declared.record.Data.{Data}
use Rattle.dns_message.specs.declared.record.Data.TheVariants as kinds
use Rattle.dns_message.specs.declared.record.Record.{Record}

abbrev pub labels_known : Option (List (List ℕ)) → List (List ℕ)
labels_known None = []
labels_known (Some labels) = labels

-- the labels of the name that is known to stand at an offset
abbrev pub name_there : List ℕ → ℕ → List (List ℕ)
name_there message at = labels_known (labels_at message at)

abbrev pub says_seen : List ℕ → Data → Says
says_seen message (kinds.Address address) = Address address
says_seen message (kinds.Address6 address) = Address6 address
says_seen message (kinds.Alias at) = Alias (name_there message at)
says_seen message kinds.Other = Else

abbrev pub data_seen : List ℕ → Option Data → Option Says
data_seen message None = None
data_seen message (Some kept) = Some (says_seen message kept)

abbrev pub record_seen : List ℕ → Record → RecordThere
record_seen message r =
    record { fact = record { owner = name_there message r.name; says = says_seen message r.told }; behind = r.behind }

abbrev pub seen : List ℕ → Option Record → Option RecordThere
seen message None = None
seen message (Some r) = Some (record_seen message r)

abbrev pub name_seen : List ℕ → Option ℕ → Option (List (List ℕ))
name_seen message None = None
name_seen message (Some at) = Some (name_there message at)

-- the facts of records that are known to be readable
abbrev pub facts_known : Option (List Fact) → List Fact
facts_known None = []
facts_known (Some facts) = facts

-- What is known where a record stands.
pub record IsThere (kind : NameKind) (message : List ℕ) (at fields : ℕ) : Type 0 where
  pub name : behind_of (name_at message at) ≡ Some fields
  pub room : fields + 10 + number_at message (fields + 8) ≤ length message
  pub says : IsSome (says_of kind message (number_at message fields) (number_at message (fields + 2)) (fields + 10)
      (number_at message (fields + 8)))
  pub owner : IsSome (labels_at message at)

-- where an alias is kept, a name stands at its offset
abbrev pub IsNameOf : List ℕ → Data → Type 0
IsNameOf message (kinds.Address address) = Unit {0}
IsNameOf message (kinds.Address6 address) = Unit {0}
IsNameOf message (kinds.Alias at) = IsSome (labels_at message at)
IsNameOf message kinds.Other = Unit {0}

-- a record says that a name is an alias of another, or leaves it to the records behind
abbrev pub TellsAlias : List ℕ → Record → List (List ℕ) → Option (List (List ℕ)) → Type 0
TellsAlias message r name None =
    (rest : Option (List (List ℕ)))
    → alias_or (same_labels (name_there message r.name) name) (says_seen message r.told) rest ≡ rest
TellsAlias message r name (Some target) =
    (rest : Option (List (List ℕ)))
    → alias_or (same_labels (name_there message r.name) name) (says_seen message r.told) rest ≡ Some target

-- a record says that a name has an address, or leaves it to the records behind
abbrev pub TellsAddress : List ℕ → Record → List (List ℕ) → Option Answer → Type 0
TellsAddress message r name None =
    (rest : Answer) → address_or (same_labels (name_there message r.name) name) (says_seen message r.told) rest ≡ rest
TellsAddress message r name (Some address) =
    (rest : Answer)
    → address_or (same_labels (name_there message r.name) name) (says_seen message r.told) rest ≡ address
