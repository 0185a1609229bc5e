-- A link in memory that answers questions from a map.
use Rattle.std.specs.Prelude.{◌≡◌, ℕ, ◌<◌, ◌≤◌, List, [], ◌∷◌, ◌++◌, length, take, map, Option, Some, None, Result, Ok, Err}
use Rattle.std.specs.List.{filter_map}
use Rattle.js_host.specs.Answers.{AnswerMap}
use Rattle.pac_ports.specs.Faults.{raised}
use Rattle.pac_ports.specs.Link.{LinkState}
use Rattle.pac_ports.specs.MemoryLink.{filled_with}
use Rattle.pac_ports.specs.declared.sink.Failed.{Failed}
use Rattle.pac_ports.specs.declared.link.Servers.{Servers}
use Rattle.pac_ports.specs.declared.link.Which.{Which}
use Rattle.pac_ports.specs.declared.link.Move.{Move}
use Rattle.pac_ports.specs.declared.link.Move.TheVariants as move
use Rattle.pac_ports.specs.declared.link.Got.{Got}
use Rattle.pac_ports.specs.declared.link.Got.TheVariants as got
use Rattle.pac_ports.specs.declared.link.StreamAnswer.{StreamAnswer}
use Rattle.pac_ports.specs.declared.link.StreamAnswer.TheVariants as stream
use Rattle.poll_log.specs.Turns.{turns_of}
use Rattle.poll_log.specs.Questions.{asked_by}
use Rattle.pac_generate.specs.Answered.{IsAnswered, reply_from, replies, given, due_reply}
use Rattle.pac_generate.specs.declared.limits.TheConstants.{MOST_MOVES, MOST_QUESTIONS}

pub record MapLinkState : Type 0 where
  -- the moves made
  pub log : List Move
  -- how many opens; the count stays at its last number
  pub opens : ℕ
  -- the servers of the last open
  pub servers : Option Servers
  pub faults : ℕ
  pub stream_faults : ℕ

abbrev pub new_map_link : MapLinkState
new_map_link = record { log = []; opens = 0; servers = None; faults = 0; stream_faults = 0 }

-- what it is as a link: it tells all, and is sure of its room in moves
abbrev pub link_of : MapLinkState → LinkState
link_of l = record {
  told = Some (record { log = l.log; opens = l.opens; servers = l.servers });
  faults = l.faults;
  stream_faults = l.stream_faults;
  sure = Some MOST_MOVES;
}

-- with a fault more
abbrev pub with_fault : MapLinkState → MapLinkState
with_fault l = record l { faults = raised l.faults }

-- with a fault of a stream more
abbrev pub with_stream_fault : MapLinkState → MapLinkState
with_stream_fault l = record l { stream_faults = raised l.stream_faults }

-- with an open more
abbrev pub with_open : Servers → MapLinkState → MapLinkState
with_open servers l = record l { opens = raised l.opens; servers = Some servers }

-- with a move more
abbrev pub with_move : Move → MapLinkState → MapLinkState
with_move made l = record l { log = l.log ++ made ∷ [] }

-- an open never fails
abbrev pub Opens : MapLinkState → Servers → Result (Unit {0}) Failed → MapLinkState → Type 0
Opens old servers (Ok u) new = new ≡ with_open servers old
Opens old servers (Err e) new = ⊥

-- a datagram is sent, or the call fails where its move would pass the room
abbrev pub Sends : MapLinkState → Which → List ℕ → Result (Unit {0}) Failed → MapLinkState → Type 0
Sends old to octets (Ok u) new = (length old.log < MOST_MOVES) × (new ≡ with_move (move.Sent to octets) old)
Sends old to octets (Err e) new = (MOST_MOVES ≤ length old.log) × (new ≡ with_fault old)

-- no stream is ever open: it ends at once, or the call fails where its move would pass the room
abbrev pub Streams : MapLinkState → List ℕ → Result (Unit {0}) StreamAnswer → MapLinkState → Type 0
Streams old octets (Ok u) new = ⊥
Streams old octets (Err stream.Ended) new = (length old.log < MOST_MOVES) × (new ≡ with_stream_fault (with_move (move.StreamFailed octets) old))
Streams old octets (Err stream.Failed) new = (MOST_MOVES ≤ length old.log) × (new ≡ with_fault old)

-- the move of a reply that is due, or of a tick where none is
abbrev pub event_move : Option (List ℕ) → Move
event_move None = move.Tick
event_move (Some octets) = move.Given octets

-- what is answered to the one who receives it: never a piece, and never the end of a stream
abbrev pub event_got : Option (List ℕ) → Got
event_got None = got.Tick
event_got (Some octets) = got.Datagram (length octets)

-- it stands at the front of the buffer, if it has octets; all else in the buffer stays
abbrev pub filled : Option (List ℕ) → List ℕ → List ℕ
filled None buffer = buffer
filled (Some octets) buffer = filled_with octets buffer

-- the reply that is due is received into the buffer, or a tick where none is due
pub record ReceivesDue (due : Option (List ℕ)) (old : MapLinkState) (buffer : List ℕ) (got : Got) (buffer' : List ℕ) (new : MapLinkState) : Type 0 where
  pub allowed : length old.log < MOST_MOVES
  pub answer : got ≡ event_got due
  pub octets : buffer' ≡ filled due buffer
  pub state : new ≡ with_move (event_move due) old

-- the next event is received, or the call fails where its move would pass the room, and the event is still to come
abbrev pub Receives : AnswerMap → MapLinkState → List ℕ → Result Got Failed → List ℕ → MapLinkState → Type 0
Receives answers old buffer (Ok got) buffer' new = ReceivesDue (due_reply answers (turns_of old.log)) old buffer got buffer' new
Receives answers old buffer (Err e) buffer' new = (MOST_MOVES ≤ length old.log) × (buffer' ≡ buffer) × (new ≡ with_fault old)

-- ---- what the code keeps

-- the replies to questions, with what one datagram more asks, if it asks anything, whichever server it goes to
abbrev pub replies_with : AnswerMap → List (List ℕ) → List ℕ → List (List ℕ)
replies_with answers kept datagram = take MOST_QUESTIONS (kept ++ map (reply_from answers) (filter_map asked_by (datagram ∷ [])))

-- the replies that are kept, and the number of those that were given, are those of the log, which was answered so far
pub record IsKept (answers known : AnswerMap) (log : List Move) (kept : List (List ℕ)) (count : ℕ) : Type 0 where
  pub same : known ≡ answers
  pub replies : kept ≡ replies answers (turns_of log)
  pub given : count ≡ given (turns_of log)
  pub answered : IsAnswered answers (turns_of log)
