-- The questions among the datagrams that were sent, and which were sent first (RFC 1035, section 4.1).
use Rattle.std.specs.Prelude.{ℕ, ◌+◌, ◌-◌, ◌<◌, ◌^◌, IsTrue, Bool, true, false, ◌&&◌, ◌==◌, nat_eq, List, [], ◌∷◌, ◌++◌, map, length, slice_range, Option, Some, None, if◌then◌else◌}
use Rattle.std.specs.List.{filter_map, list_any}
use Rattle.std.specs.Cmp.Lexicographic.{pointwise}
use Rattle.pac_names.specs.declared.kind.NameKind.{NameKind}
use Rattle.pac_names.specs.declared.kind.NameKind.TheVariants.{V4, V6}
use Rattle.pac_names.specs.Names.{Name, is_lookup_name}
use Rattle.pac_names.specs.Comparing.{same_name}
use Rattle.pac_ports.specs.declared.link.Which.{Which}
use Rattle.pac_ports.specs.declared.link.Which.TheVariants.{First}
use Rattle.dns_message.specs.Dotted.{dotted}
use Rattle.dns_message.specs.Numbers.{number_at}
use Rattle.dns_message.specs.Question.{question_octets, type_aaaa}
use Rattle.poll_log.specs.declared.question.Question.{Question}
use Rattle.poll_log.specs.declared.sending.Sending.{Sending}
use Rattle.poll_log.specs.Sendings.{server_of}
use Rattle.poll_log.specs.Turns.{Outgoing, Turns, Begin, Then}

-- a question has a number of 16 bits and a lookup name
pub record IsQuestion (q : Question) : Type 0 where
  pub number : q.id < 2 ^ 16
  pub name : IsTrue (is_lookup_name q.name)

abbrev pub octets_of : Question → List ℕ
octets_of q = question_octets q.id q.name

abbrev pub outgoing : Which → Question → Outgoing
outgoing to q = record { to = to; octets = octets_of q }

-- the datagram of a sending
abbrev pub outgoing_of : Sending → Outgoing
outgoing_of sending = outgoing sending.to sending.question

-- the sending of a question that has this number
abbrev pub numbered_sending : Question → ℕ → Sending
numbered_sending q number = record { to = server_of number; question = q }

-- the first sending of a question goes to the first server
abbrev pub first_sending : Question → Sending
first_sending q = record { to = First; question = q }

abbrev pub first_sent : List Question → List Outgoing
first_sent qs = map outgoing_of (map first_sending qs)

-- labels as they stand in a message, as a dotted name
abbrev pub dotted_labels : List ℕ → List ℕ
dotted_labels [] = []
dotted_labels (first ∷ octets) = dotted first octets

-- the kind of the names that a question of this type asks for (RFC 1035, section 3.2.2; RFC 3596, section 2.1)
abbrev pub kind_asked : ℕ → NameKind
kind_asked type = if type == type_aaaa then V6 else V4

-- the name that a question has where it stands, followed by the root, QTYPE and QCLASS
abbrev pub name_in : List ℕ → Name
name_in octets = record {
  kind = kind_asked (number_at octets (length octets - 4));
  text = dotted_labels (slice_range octets 12 (length octets - 5));
}

-- the number and the name that a question has where they stand
abbrev pub question_in : List ℕ → Question
question_in octets = record { id = number_at octets 0; name = name_in octets }

-- the question, where it is one and these are its octets
abbrev pub checked_question : List ℕ → Question → Option Question
checked_question octets q = if is_lookup_name q.name && pointwise nat_eq octets (octets_of q) then Some q else None

-- the question whose octets these are
unfoldable pub asked_by : List ℕ → Option Question
asked_by octets = checked_question octets (question_in octets)

abbrev pub asked_in : List Outgoing → List Question
asked_in sent = filter_map (λ d. asked_by d.octets) sent

-- the questions that were sent, in order
unfoldable pub questions : Turns → List Question
questions (Begin sent) = asked_in sent
questions (Then before event sent) = questions before ++ asked_in sent

abbrev pub has_name : Name → List Question → Bool
has_name n qs = list_any (λ q. same_name q.name n) qs

abbrev pub names_of : List Question → List Name
names_of qs = map (λ q. q.name) qs

abbrev pub onto_unless : Bool → Question → List Question → List Question → List Question
onto_unless true q left behind = left
onto_unless false q left behind = q ∷ behind

-- the first question of each name, without the names that were seen
unfoldable pub new_among : List Question → List Question → List Question
new_among seen [] = []
new_among seen (q ∷ qs) = onto_unless (has_name q.name seen) q (new_among seen qs) (new_among (seen ++ q ∷ []) qs)

-- the first send of each name, in order
unfoldable pub firsts : Turns → List Question
firsts (Begin sent) = new_among [] (asked_in sent)
firsts (Then before event sent) = firsts before ++ new_among (firsts before) (asked_in sent)

abbrev pub was_sent : Turns → Name → Bool
was_sent turns n = has_name n (firsts turns)

-- the number in the first send of the name
unfoldable pub number_in : List Question → Name → Option ℕ
number_in [] n = None
number_in (q ∷ qs) n = if same_name q.name n then Some q.id else number_in qs n

-- the numbers of the first sends, in order
abbrev pub drawn : Turns → List ℕ
drawn turns = map (λ q. q.id) (firsts turns)

-- how often a question for the name stands in a list
abbrev pub times : List Question → Name → ℕ
times [] n = 0
times (q ∷ qs) n = (if same_name q.name n then 1 else 0) + times qs n

-- These questions as they are sent, in order, where others were sent before: each goes to the server whose turn it is, by
-- how often its name was sent.
unfoldable pub outgoing_from : List Question → List Question → List Outgoing
outgoing_from earlier [] = []
outgoing_from earlier (q ∷ qs) = outgoing (server_of (times earlier q.name)) q ∷ outgoing_from (earlier ++ q ∷ []) qs

-- the turns before the one in which the name was first sent; none where it was sent in turn 0, or never
unfoldable pub before_birth : Turns → Name → Option Turns
before_birth (Begin sent) n = None
before_birth (Then before event sent) n = if was_sent before n then before_birth before n else Some before
