-- How old a name is, what it was answered, and when it is to be sent again or is dead. All by counting in the log.
use Rattle.std.specs.Prelude.{ℕ, ◌+◌, ◌-◌, Bool, ◌&&◌, not, nat_le, if◌then◌else◌, IsTrue, Option, Some, None, is_none, List}
use Rattle.pac_names.specs.declared.answer.Answer.{Answer}
use Rattle.pac_names.specs.Names.{Name}
use Rattle.dns_message.specs.Reply.{reply_of}
use Rattle.poll_log.specs.declared.question.Question.{Question}
use Rattle.poll_log.specs.declared.terms.Terms.{Terms}
use Rattle.poll_log.specs.Sendings.{fallen_due, limit}
use Rattle.poll_log.specs.Turns.{Turns, Begin, Then, Event, Given, Tick}
use Rattle.poll_log.specs.Beats.{beats, beat_of}
use Rattle.poll_log.specs.Questions.{before_birth, firsts, was_sent, has_name, number_in}

-- answers by name
abbrev pub Map : Type 0
Map = Name → Option Answer

-- The beats among the events from the turn of the first send on; turn 0 has no event. A name that was not sent has none.
unfoldable pub age : Turns → Name → ℕ
age (Begin sent) n = 0
age (Then before event sent) n = if was_sent (Then before event sent) n then age before n + beat_of before event else 0

abbrev pub beats_in : Option Turns → ℕ
beats_in None = 0
beats_in (Some turns) = beats turns

-- the beats before the turn of the first send
abbrev pub beats_before_birth : Turns → Name → ℕ
beats_before_birth turns n = beats_in (before_birth turns n)

abbrev pub is_overdue : Terms → Turns → Name → Bool
is_overdue terms turns n = nat_le (limit terms) (age turns n)

-- what a datagram answers to the question for the name under this number, where it has one
abbrev pub reply_to : Option ℕ → List ℕ → Name → Option Answer
reply_to None datagram n = None
reply_to (Some id) datagram n = reply_of datagram id n

-- what a datagram answers to a name that was sent among the first sends, unless it has reached the limit
unfoldable pub accepted_in : ℕ → (Name → ℕ) → List Question → List ℕ → Map
accepted_in limit age sent datagram n =
    if has_name n sent && not (nat_le limit (age n)) then reply_to (number_in sent n) datagram n else None

-- what the next event answers to the name: it was sent in an earlier turn, and is not overdue before the event
unfoldable pub accepted : Terms → Turns → Event → Map
accepted terms turns Tick n = None
accepted terms turns (Given datagram) n = accepted_in (limit terms) (age turns) (firsts turns) datagram n

-- an answer that stands, or else the new one
abbrev pub or_else : Option Answer → Option Answer → Option Answer
or_else (Some answer) other = Some answer
or_else None other = other

-- the answer of the first accepted reply
unfoldable pub told : Terms → Turns → Map
told terms (Begin sent) n = None
told terms (Then before event sent) n = or_else (told terms before n) (accepted terms before event n)

-- sent, overdue and not told
unfoldable pub is_dead : Terms → Turns → Name → Bool
is_dead terms turns n = was_sent turns n && is_none (told terms turns n) && is_overdue terms turns n

abbrev pub IsOverdue : Terms → Turns → Name → Type 0
IsOverdue terms turns n = IsTrue (is_overdue terms turns n)

abbrev pub IsDead : Terms → Turns → Name → Type 0
IsDead terms turns n = IsTrue (is_dead terms turns n)

-- the age; that of a told name is the one at the end of the turn before its accepted reply
unfoldable pub stopped_age : Terms → Turns → Name → ℕ
stopped_age terms (Begin sent) n = 0
stopped_age terms (Then before event sent) n =
    if is_none (told terms (Then before event sent) n) then age (Then before event sent) n
    else (if is_none (told terms before n) then age before n else stopped_age terms before n)

-- how often the name is to have been sent: once, and once more for each further sending that has fallen due by its age
unfoldable pub due_sends : Terms → Turns → Name → ℕ
due_sends terms turns n = fallen_due terms.wait (terms.tries - 1) (stopped_age terms turns n) + 1
