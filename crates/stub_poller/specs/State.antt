-- What a stub is seen as, and what asking, a datagram and a beat do to it.
use Rattle.std.specs.Prelude.{ℕ, ◌+◌, Bool, nat_lt, nat_le, Option, Some, None, option_map, List, [], ◌∷◌, ◌++◌, map}
use Rattle.std.specs.List.{filter, filter_map, list_any}
use Rattle.pac_names.specs.declared.answer.Answer.{Answer}
use Rattle.pac_names.specs.Comparing.{same_name}
use Rattle.pac_names.specs.Names.{Name}
use Rattle.dns_message.specs.Reply.{reply_of}
use Rattle.poll_log.specs.declared.flight.Flight.{Flight}
use Rattle.poll_log.specs.declared.question.Question.{Question}
use Rattle.poll_log.specs.declared.sending.Sending.{Sending}
use Rattle.poll_log.specs.declared.terms.Terms.{Terms}
use Rattle.poll_log.specs.Questions.{numbered_sending}
use Rattle.poll_log.specs.Sendings.{limit, sending_at}

pub record StubState : Type 0 where
  pub terms : Terms
  -- the questions in flight, in the order of asking
  pub flights : List Flight
  -- the dead names, in the order of dying
  pub dead : List Name

-- nothing was asked
abbrev pub new_stub : Terms → StubState
new_stub terms = record { terms = terms; flights = []; dead = [] }

abbrev pub name_of : Flight → Name
name_of f = f.question.name

-- with a question more in flight, of age 0
abbrev pub asking : Question → StubState → StubState
asking q stub = record stub { flights = stub.flights ++ record { question = q; age = 0 } ∷ [] }

-- what a datagram answers to a question in flight
abbrev pub answer_to : List ℕ → Flight → Option Answer
answer_to datagram f = reply_of datagram f.question.id f.question.name

abbrev pub named_or : Name → Option Answer → Option (Name × Answer) → Option (Name × Answer)
named_or name None rest = rest
named_or name (Some answer) rest = Some (name, answer)

-- the first name in flight to which a datagram is a reply, and the answer
abbrev pub answered_by : List ℕ → List Flight → Option (Name × Answer)
answered_by datagram [] = None
answered_by datagram (f ∷ flights) = named_or f.question.name (answer_to datagram f) (answered_by datagram flights)

abbrev pub left_unless : Option Answer → Flight → List Flight → List Flight → List Flight
left_unless None f flights left = f ∷ left
left_unless (Some answer) f flights left = flights

-- the flights without that one
abbrev pub unanswered_by : List ℕ → List Flight → List Flight
unanswered_by datagram [] = []
unanswered_by datagram (f ∷ flights) = left_unless (answer_to datagram f) f flights (unanswered_by datagram flights)

-- a datagram takes the name that it answers out of flight
abbrev pub given : List ℕ → StubState → StubState
given datagram stub = record stub { flights = unanswered_by datagram stub.flights }

-- one beat older
abbrev pub aged : Flight → Flight
aged f = record { question = f.question; age = f.age + 1 }

-- the sending of its question that falls due at its age, where one does
abbrev pub sending_of : Terms → Flight → Option Sending
sending_of terms f = option_map (numbered_sending f.question) (sending_at terms f.age)

-- at the limit
abbrev pub is_over : ℕ → Flight → Bool
is_over limit f = nat_le limit f.age

abbrev pub is_young : ℕ → Flight → Bool
is_young limit f = nat_lt f.age limit

-- what a beat sends again
abbrev pub resent : StubState → List Sending
resent stub = filter_map (sending_of stub.terms) (map aged stub.flights)

-- the names that a beat ends
abbrev pub dying : StubState → List Name
dying stub = map name_of (filter (is_over (limit stub.terms)) (map aged stub.flights))

-- At a beat each question in flight grows one beat older; those at the limit are dead.
abbrev pub beaten : StubState → StubState
beaten stub = record {
  terms = stub.terms;
  flights = filter (is_young (limit stub.terms)) (map aged stub.flights);
  dead = stub.dead ++ dying stub;
}

abbrev pub flies_in : Name → StubState → Bool
flies_in name stub = list_any (λ f. same_name f.question.name name) stub.flights

abbrev pub is_dead_in : Name → StubState → Bool
is_dead_in name stub = list_any (λ n. same_name n name) stub.dead
