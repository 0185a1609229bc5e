-- A link in memory.
use Rattle.std.specs.Prelude.{◌≡◌, ℕ, Bool, true, false, ◌||◌, nat_le, nat_lt, List, [], ◌∷◌, ◌++◌, length, take, drop, Option, Some, None, Result, Ok, Err, if◌then◌else◌, min}
use Rattle.pac_ports.specs.Calls.{CallsState, no_calls, is_listed, sure_unless}
use Rattle.pac_ports.specs.Calls as calls
use Rattle.pac_ports.specs.Faults.{raised}
use Rattle.pac_ports.specs.Link.{LinkState}
use Rattle.pac_ports.specs.declared.sink.Failed.{Failed}
use Rattle.pac_ports.specs.declared.link.Servers.{Servers}
use Rattle.pac_ports.specs.declared.link.Which.{Which}
use Rattle.pac_ports.specs.declared.link.Move.{Move}
use Rattle.pac_ports.specs.declared.link.Move.TheVariants as move
use Rattle.pac_ports.specs.declared.link.Got.{Got}
use Rattle.pac_ports.specs.declared.link.Got.TheVariants as got
use Rattle.pac_ports.specs.declared.link.StreamAnswer.{StreamAnswer}
use Rattle.pac_ports.specs.declared.link.StreamAnswer.TheVariants as stream
use Rattle.pac_ports.specs.declared.coming.Coming.{Coming}
use Rattle.pac_ports.specs.declared.coming.Coming.TheVariants as coming

pub record MemoryLinkState : Type 0 where
  -- the moves made
  pub log : List Move
  -- for how many moves there is room
  pub room : ℕ
  -- the events to come, in order
  pub events : List Coming
  -- how many opens, failed ones too; the count stays at its last number
  pub opens : ℕ
  -- the servers of the last open
  pub servers : Option Servers
  pub faults : ℕ
  pub stream_faults : ℕ
  -- the calls of `open`, `send`, `stream_send` and `receive` together
  pub calls : CallsState

-- no move and no event yet
abbrev pub new_link : ℕ → MemoryLinkState
new_link room = record { log = []; room = room; events = []; opens = 0; servers = None; faults = 0; stream_faults = 0; calls = no_calls }

-- with an event more to come
abbrev pub with_event : Coming → MemoryLinkState → MemoryLinkState
with_event event l = record l { events = l.events ++ event ∷ [] }

-- the call of that number is to fail
abbrev pub with_failing_call : ℕ → MemoryLinkState → MemoryLinkState
with_failing_call call l = record l { calls = calls.with_failing_call call l.calls }

-- what it is as a link: it tells all, and is sure of its room in moves unless some call is to fail
abbrev pub link_of : MemoryLinkState → LinkState
link_of l = record {
  told = Some (record { log = l.log; opens = l.opens; servers = l.servers });
  faults = l.faults;
  stream_faults = l.stream_faults;
  sure = sure_unless l.calls.fail_at l.room;
}

-- with a call more
abbrev pub with_call : MemoryLinkState → MemoryLinkState
with_call l = record l { calls = calls.with_call l.calls }

-- with a fault more
abbrev pub with_fault : MemoryLinkState → MemoryLinkState
with_fault l = record l { faults = raised l.faults }

-- with a fault of a stream more
abbrev pub with_stream_fault : MemoryLinkState → MemoryLinkState
with_stream_fault l = record l { stream_faults = raised l.stream_faults }

-- with an open more
abbrev pub with_open : Servers → MemoryLinkState → MemoryLinkState
with_open servers l = record l { opens = raised l.opens; servers = Some servers }

-- with a move more
abbrev pub with_move : Move → MemoryLinkState → MemoryLinkState
with_move made l = record l { log = l.log ++ made ∷ [] }

-- an open succeeds, or fails where it is listed
abbrev pub Opens : MemoryLinkState → Servers → Result (Unit {0}) Failed → MemoryLinkState → Type 0
Opens old servers (Ok u) new = (is_listed old.calls ≡ false) × (new ≡ with_open servers (with_call old))
Opens old servers (Err e) new = (is_listed old.calls ≡ true) × (new ≡ with_fault (with_open servers (with_call old)))

-- whether a move fails: the call is listed, or the move would pass the room
abbrev pub move_fails : MemoryLinkState → Bool
move_fails l = is_listed l.calls || nat_le l.room (length l.log)

-- a datagram is sent, or the call fails where it is to
abbrev pub Sends : MemoryLinkState → Which → List ℕ → Result (Unit {0}) Failed → MemoryLinkState → Type 0
Sends old to octets (Ok u) new = (move_fails old ≡ false) × (new ≡ with_move (move.Sent to octets) (with_call old))
Sends old to octets (Err e) new = (move_fails old ≡ true) × (new ≡ with_fault (with_call old))

-- whether there is room for no move more
abbrev pub is_full : MemoryLinkState → Bool
is_full l = nat_le l.room (length l.log)

-- Octets are sent over the stream; the stream ends where the call is listed; the call fails where its move would pass the
-- room.
abbrev pub Streams : MemoryLinkState → List ℕ → Result (Unit {0}) StreamAnswer → MemoryLinkState → Type 0
Streams old octets (Ok u) new = (move_fails old ≡ false) × (new ≡ with_move (move.StreamSent octets) (with_call old))
Streams old octets (Err stream.Ended) new =
    (is_listed old.calls ≡ true) × (is_full old ≡ false) × (new ≡ with_stream_fault (with_move (move.StreamFailed octets) (with_call old)))
Streams old octets (Err stream.Failed) new = (is_full old ≡ true) × (new ≡ with_fault (with_call old))

-- the next event: a tick where none is left, so that it ticks for ever
abbrev pub next_event : List Coming → Coming
next_event [] = coming.Tick
next_event (event ∷ events) = event

-- the move of an event; of a piece only what is wanted is taken
abbrev pub event_move : ℕ → Coming → Move
event_move wanted coming.Tick = move.Tick
event_move wanted (coming.Datagram octets) = move.Given octets
event_move wanted (coming.Piece octets) = move.Piece (take wanted octets)
event_move wanted coming.StreamEnd = move.StreamEnd

-- what is answered to the one who receives it
abbrev pub event_got : ℕ → Coming → Got
event_got wanted coming.Tick = got.Tick
event_got wanted (coming.Datagram octets) = got.Datagram (length octets)
event_got wanted (coming.Piece octets) = got.Piece (min wanted (length octets))
event_got wanted coming.StreamEnd = got.StreamEnd

-- these octets stand at the front of the buffer; all else in it stays
abbrev pub filled_with : List ℕ → List ℕ → List ℕ
filled_with octets buffer = octets ++ drop (length octets) buffer

-- an event stands at the front of the buffer, if it has octets
abbrev pub filled : ℕ → Coming → List ℕ → List ℕ
filled wanted coming.Tick buffer = buffer
filled wanted (coming.Datagram octets) buffer = filled_with octets buffer
filled wanted (coming.Piece octets) buffer = filled_with (take wanted octets) buffer
filled wanted coming.StreamEnd buffer = buffer

-- the events behind one that was taken, of which the rest of a piece may stay
abbrev pub left_behind : ℕ → Coming → List Coming → List Coming
left_behind wanted (coming.Piece octets) events = if nat_lt wanted (length octets) then coming.Piece (drop wanted octets) ∷ events else events
left_behind wanted event events = events

abbrev pub events_left : ℕ → List Coming → List Coming
events_left wanted [] = []
events_left wanted (event ∷ events) = left_behind wanted event events

-- with the next event taken
abbrev pub with_event_taken : ℕ → MemoryLinkState → MemoryLinkState
with_event_taken wanted l = record l { events = events_left wanted l.events }

-- the next event is received into the buffer
pub record ReceivesNext (old : MemoryLinkState) (wanted : ℕ) (buffer : List ℕ) (given : Got) (buffer' : List ℕ) (new : MemoryLinkState) : Type 0 where
  pub allowed : move_fails old ≡ false
  pub answer : given ≡ event_got wanted (next_event old.events)
  pub octets : buffer' ≡ filled wanted (next_event old.events) buffer
  pub state : new ≡ with_move (event_move wanted (next_event old.events)) (with_event_taken wanted (with_call old))

-- the next event is received, or the call fails where it is to, and the event is still to come
abbrev pub Receives : MemoryLinkState → ℕ → List ℕ → Result Got Failed → List ℕ → MemoryLinkState → Type 0
Receives old wanted buffer (Ok given) buffer' new = ReceivesNext old wanted buffer given buffer' new
Receives old wanted buffer (Err e) buffer' new = (move_fails old ≡ true) × (buffer' ≡ buffer) × (new ≡ with_fault (with_call old))
