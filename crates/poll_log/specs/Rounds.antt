-- A log cut into rounds: what came, the datagrams that were sent after it, and then the frame, if one was.
use Rattle.std.specs.Prelude.{ℕ, List, [], ◌∷◌, ◌++◌, map, Option, Some, None, option_map}
use Rattle.std.specs.Option.{option_to_list}
use Rattle.pac_ports.specs.declared.link.Move.{Move}
use Rattle.pac_ports.specs.declared.link.Move.TheVariants as move
use Rattle.poll_log.specs.Flat.{frames_behind, message_behind}
use Rattle.poll_log.specs.Turns.{Event, Given, Tick, Outgoing, Turns, Begin, Then}

-- What came over a link, and how.
pub data Arrival : Type 0 where
  Datagram : List ℕ → Arrival
  Silence : Arrival
  Piece : List ℕ → Arrival
  End : Arrival

-- Octets that were sent over the stream, or at which it ended.
pub data Framing : Type 0 where
  Framed : List ℕ → Framing
  Failed : List ℕ → Framing

pub data Rounds : Type 0 where
  Opening : List Outgoing → Rounds
  Round : Rounds → Arrival → List Outgoing → Option Framing → Rounds

-- ---- as moves

abbrev pub arrival_move : Arrival → Move
arrival_move (Datagram octets) = move.Given octets
arrival_move Silence = move.Tick
arrival_move (Piece octets) = move.Piece octets
arrival_move End = move.StreamEnd

abbrev pub sent_move : Outgoing → Move
sent_move d = move.Sent d.to d.octets

abbrev pub framing_move : Framing → Move
framing_move (Framed octets) = move.StreamSent octets
framing_move (Failed octets) = move.StreamFailed octets

abbrev pub framing_moves : Option Framing → List Move
framing_moves framing = option_to_list (option_map framing_move framing)

unfoldable pub moves_of : Rounds → List Move
moves_of (Opening sent) = map sent_move sent
moves_of (Round before arrival sent framing) = moves_of before ++ arrival_move arrival ∷ (map sent_move sent ++ framing_moves framing)

-- ---- as turns

-- the octets that are no whole frame, behind what came
abbrev pub rest_at : List ℕ → Arrival → List ℕ
rest_at rest (Datagram octets) = rest
rest_at rest Silence = rest
rest_at rest (Piece octets) = (frames_behind rest octets).rest
rest_at rest End = []

-- and behind a frame that was sent; a stream that ended has none
abbrev pub rest_after : List ℕ → Option Framing → List ℕ
rest_after rest None = rest
rest_after rest (Some (Framed octets)) = rest
rest_after rest (Some (Failed octets)) = []

unfoldable pub unfinished : Rounds → List ℕ
unfinished (Opening sent) = []
unfinished (Round before arrival sent framing) = rest_after (rest_at (unfinished before) arrival) framing

-- what came, as a datagram or a tick
abbrev pub event_at : List ℕ → Arrival → Event
event_at rest (Datagram octets) = Given octets
event_at rest Silence = Tick
event_at rest (Piece octets) = Given (message_behind rest octets)
event_at rest End = Given []

unfoldable pub turns_in : Rounds → Turns
turns_in (Opening sent) = Begin sent
turns_in (Round before arrival sent framing) = Then (turns_in before) (event_at (unfinished before) arrival) sent
