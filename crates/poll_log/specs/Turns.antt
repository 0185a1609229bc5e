-- A log of moves, oldest first, cut into turns. The octets of a datagram are a list; one may have come over the stream.
use Rattle.std.specs.Prelude.{ℕ, List, [], ◌∷◌, ◌++◌}
use Rattle.pac_ports.specs.declared.link.Move.{Move}
use Rattle.pac_ports.specs.declared.link.Move.TheVariants as move
use Rattle.pac_ports.specs.declared.link.Which.{Which}
use Rattle.poll_log.specs.Flat.{flat}

-- a datagram that was sent to one of the servers
pub record Outgoing : Type 0 where
  pub to : Which
  pub octets : List ℕ

-- What comes: a datagram, or a tick.
pub data Event : Type 0 where
  Given : List ℕ → Event
  Tick : Event

-- Turn 0 is what was sent before the first event. Each later turn is an event and what was sent after it.
pub data Turns : Type 0 where
  Begin : List Outgoing → Turns
  Then : Turns → Event → List Outgoing → Turns

-- with more that was sent in the last turn
abbrev pub with_sent : Turns → List Outgoing → Turns
with_sent (Begin sent) more = Begin (sent ++ more)
with_sent (Then before event sent) more = Then before event (sent ++ more)

abbrev pub with_move : Turns → Move → Turns
with_move turns (move.Sent to octets) = with_sent turns (record { to = to; octets = octets } ∷ [])
with_move turns (move.Given octets) = Then turns (Given octets) []
with_move turns move.Tick = Then turns Tick []
-- no other move stands in a flat log
with_move turns (move.StreamSent octets) = turns
with_move turns (move.StreamFailed octets) = turns
with_move turns (move.Piece octets) = turns
with_move turns move.StreamEnd = turns

-- with more moves
unfoldable pub with_moves : Turns → List Move → Turns
with_moves turns [] = turns
with_moves turns (m ∷ moves) = with_moves (with_move turns m) moves

-- the turns of a log, whichever way its datagrams came; an empty log is one turn 0
abbrev pub turns_of : List Move → Turns
turns_of moves = with_moves (Begin []) (flat moves)

-- all that was sent, in order
unfoldable pub sends : Turns → List Outgoing
sends (Begin sent) = sent
sends (Then before event sent) = sends before ++ sent
