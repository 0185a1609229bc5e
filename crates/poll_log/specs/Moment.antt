-- What is in flight and dead, by the answers that are told, the ages, and the first sends.
use Rattle.std.specs.Prelude.{ℕ, ◌+◌, Bool, ◌&&◌, nat_lt, nat_le, if◌then◌else◌, is_none, Option, None, option_map, List, map}
use Rattle.std.specs.List.{filter}
use Rattle.pac_names.specs.Names.{Name}
use Rattle.poll_log.specs.declared.flight.Flight.{Flight}
use Rattle.poll_log.specs.declared.question.Question.{Question}
use Rattle.poll_log.specs.declared.sending.Sending.{Sending}
use Rattle.poll_log.specs.declared.terms.Terms.{Terms}
use Rattle.poll_log.specs.Turns.{Turns}
use Rattle.poll_log.specs.Questions.{firsts, has_name, numbered_sending}
use Rattle.poll_log.specs.Sendings.{limit, sending_at}
use Rattle.poll_log.specs.Told.{Map, age, told}

abbrev pub flight_at : (Name → ℕ) → Question → Flight
flight_at age q = record { question = q; age = age q.name }

-- neither told nor at the limit
abbrev pub flies : ℕ → Map → (Name → ℕ) → Name → Bool
flies limit answers age n = is_none (answers n) && nat_lt (age n) limit

-- the questions in flight, in the order of first sending
unfoldable pub flights_in : ℕ → Map → (Name → ℕ) → List Question → List Flight
flights_in limit answers age sent = map (flight_at age) (filter (λ q. flies limit answers age q.name) sent)

-- sent, not told, and at the limit
unfoldable pub dead_in : ℕ → Map → (Name → ℕ) → List Question → Name → Bool
dead_in limit answers age sent n = has_name n sent && is_none (answers n) && nat_le limit (age n)

-- each name that was sent is one beat older
unfoldable pub older : List Question → (Name → ℕ) → Name → ℕ
older sent age n = if has_name n sent then age n + 1 else 0

-- a question in flight is sent again at the age of a sending
abbrev pub sent_again : Terms → Map → (Name → ℕ) → Question → Option Sending
sent_again terms answers age q =
    if flies (limit terms) answers age q.name then option_map (numbered_sending q) (sending_at terms (age q.name)) else None

-- the questions in flight after a log: sent, neither told nor dead, in the order of first sending, with number and age
abbrev pub flights_of : Terms → Turns → List Flight
flights_of terms turns = flights_in (limit terms) (told terms turns) (age turns) (firsts turns)
