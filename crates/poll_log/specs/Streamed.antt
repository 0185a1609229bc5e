-- Which questions go over the stream: each name whose reply was truncated, once.
use Rattle.std.specs.Prelude.{◌≡◌, ℕ, List, [], ◌∷◌, ◌++◌, Option, Some, None, option_map, if◌then◌else◌}
use Rattle.std.specs.Option.{option_to_list}
use Rattle.pac_ports.specs.declared.link.Move.{Move}
use Rattle.dns_message.specs.Truncation.{is_truncated}
use Rattle.dns_stream.specs.Frames.{frame_octets}
use Rattle.poll_log.specs.declared.flight.Flight.{Flight}
use Rattle.poll_log.specs.declared.question.Question.{Question}
use Rattle.poll_log.specs.declared.terms.Terms.{Terms}
use Rattle.poll_log.specs.Questions.{has_name, octets_of}
use Rattle.poll_log.specs.Moment.{flights_of}
use Rattle.poll_log.specs.Rounds.{Arrival, Datagram, Framing, Framed, Failed, Rounds, Opening, Round, moves_of, turns_in}

-- the question with its length before it
abbrev pub frame_of : Question → List ℕ
frame_of q = frame_octets (octets_of q)

-- the first of the questions in flight to which a datagram is the truncated response
abbrev pub truncated_in : List Flight → List ℕ → Option Question
truncated_in [] datagram = None
truncated_in (f ∷ flights) datagram = if is_truncated datagram f.question.id f.question.name then Some f.question else truncated_in flights datagram

abbrev pub unless_among : List Question → Option Question → Option Question
unless_among seen None = None
unless_among seen (Some q) = if has_name q.name seen then None else Some q

-- The question whose frame is due after what came: that to which it is the truncated response, as a datagram, unless a
-- frame was due for its name before. It was in flight before: sent, and neither told nor dead.
abbrev pub due_among : List Flight → List Question → Arrival → Option Question
due_among flights seen (Datagram octets) = unless_among seen (truncated_in flights octets)
due_among flights seen _ = None

-- the questions whose frames were due, in order
unfoldable pub framed : Terms → Rounds → List Question
framed terms (Opening sent) = []
framed terms (Round before arrival sent framing) =
    framed terms before ++ option_to_list (due_among (flights_of terms (turns_in before)) (framed terms before) arrival)

abbrev pub due_frame : Terms → Rounds → Arrival → Option Question
due_frame terms before arrival = due_among (flights_of terms (turns_in before)) (framed terms before) arrival

abbrev pub octets_in : Framing → List ℕ
octets_in (Framed octets) = octets
octets_in (Failed octets) = octets

-- the due frame went over the stream, or failed there, or is still owed
abbrev pub IsFramed : Option Question → Option Question → Option Framing → Type 0
IsFramed due None (Some framing) = option_map frame_of due ≡ Some (octets_in framing)
IsFramed due (Some q) (Some framing) = ⊥
IsFramed due owed None = owed ≡ due

-- in each round the due frame was sent, and no other, but for one that is owed in the last round
unfoldable pub AreFramed : Terms → Option Question → Rounds → Type 0
AreFramed terms owed (Opening sent) = owed ≡ None
AreFramed terms owed (Round before arrival sent framing) = AreFramed terms None before × IsFramed (due_frame terms before arrival) owed framing

-- A streamed log: in each turn, behind what was sent to the servers, the due frame, and no other. One may still be owed in
-- the last turn.
pub record IsStreamed (terms : Terms) (owed : Option Question) (log : List Move) : Type 0 where
  pub rounds : Rounds
  pub moves : moves_of rounds ≡ log
  pub framed : AreFramed terms owed rounds
