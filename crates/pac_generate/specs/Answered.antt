-- Logs whose questions are answered from a map, each at once and in the order of sending, whichever server it goes to.
use Rattle.std.specs.Prelude.{◌≡◌, ℕ, ◌+◌, List, take, map, slice_get, Option, Some, None}
use Rattle.js_host.specs.Answers.{AnswerMap, answer_in}
use Rattle.dns_message.specs.Reply.{reply_octets}
use Rattle.poll_log.specs.declared.question.Question.{Question}
use Rattle.poll_log.specs.Turns.{Turns, Begin, Then, Event, Given, Tick}
use Rattle.poll_log.specs.Questions.{questions}
use Rattle.pac_generate.specs.declared.limits.TheConstants.{MOST_QUESTIONS}

-- the reply to a question; a name outside the map has no address
abbrev pub reply_from : AnswerMap → Question → List ℕ
reply_from answers q = reply_octets q.id q.name (answer_in answers q.name)

-- the replies to the questions that were sent, up to the most that are answered, in the order of sending
unfoldable pub replies : AnswerMap → Turns → List (List ℕ)
replies answers turns = take MOST_QUESTIONS (map (reply_from answers) (questions turns))

-- how many datagrams were given
unfoldable pub given : Turns → ℕ
given (Begin sent) = 0
given (Then before (Given datagram) sent) = given before + 1
given (Then before Tick sent) = given before

-- the first reply that was not given, where there is one
unfoldable pub due_reply : AnswerMap → Turns → Option (List ℕ)
due_reply answers turns = slice_get (replies answers turns) (given turns)

-- a reply, or a tick where none is due
abbrev pub event_by : Option (List ℕ) → Event
event_by (Some octets) = Given octets
event_by None = Tick

-- each event is the reply that was due before it, or a tick where none was due
unfoldable pub IsAnswered : AnswerMap → Turns → Type 0
IsAnswered answers (Begin sent) = Unit {0}
IsAnswered answers (Then before event sent) = IsAnswered answers before × (event ≡ event_by (due_reply answers before))
