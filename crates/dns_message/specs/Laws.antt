-- Laws of questions and replies, on lookup names and numbers of 16 bits.
use Rattle.std.specs.Prelude.{◌≡◌, ℕ, ◌^◌, ◌<◌, List, IsSome, IsTrue, None, true}
use Rattle.pac_names.specs.Names.{Name, is_lookup_name}
use Rattle.dns_message.specs.Question.{question_octets}
use Rattle.dns_message.specs.Reply.{reply_of}
use Rattle.dns_message.specs.Truncation.{is_truncated}

-- questions with the same octets have the same number and the same name, of the same kind
abbrev pub QuestionsDiffer : Type 0
QuestionsDiffer =
    (id other : ℕ) (name another : Name) → id < 2 ^ 16 → other < 2 ^ 16
    → IsTrue (is_lookup_name name) → IsTrue (is_lookup_name another)
    → question_octets id name ≡ question_octets other another → (id ≡ other) × (name ≡ another)

-- a datagram is a reply to at most one name of one kind, whatever numbers the names have
abbrev pub OneNameReplied : Type 0
OneNameReplied =
    (datagram : List ℕ) (id other : ℕ) (name another : Name)
    → IsTrue (is_lookup_name name) → IsTrue (is_lookup_name another)
    → IsSome (reply_of datagram id name) → IsSome (reply_of datagram other another) → name ≡ another

-- a truncated response answers no question
abbrev pub TruncatedIsNoReply : Type 0
TruncatedIsNoReply =
    (datagram : List ℕ) (id other : ℕ) (name another : Name) → is_truncated datagram id name ≡ true
    → reply_of datagram other another ≡ None
