-- What goes over the stream of a link: what is read from it, which frames were due, and which streams failed.
use Rattle.std.specs.Prelude.{◌≡◌, ◌⊎◌, ℕ, false, List, [], ◌∷◌, ◌++◌, take, Result, Ok, Err, unwrap_or}
use Rattle.pac_ports.specs.Faults.{Rose}
use Rattle.pac_ports.specs.Link.{LinkState, LinkFails, StreamFails, has_move, with_moves}
use Rattle.pac_ports.specs.declared.link.Got.{Got}
use Rattle.pac_ports.specs.declared.link.Got.TheVariants as got
use Rattle.pac_ports.specs.declared.link.Move.{Move}
use Rattle.pac_ports.specs.declared.link.Move.TheVariants as move
use Rattle.dns_stream.specs.Frames.{frames_of}
use Rattle.dns_stream.specs.Reading.{Reading, frames_in, nothing_read}
use Rattle.poll_log.specs.declared.question.Question.{Question}
use Rattle.poll_log.specs.Rounds.{Arrival, Datagram, End, Piece, Silence}
use Rattle.poll_log.specs.Streamed.{frame_of}
use Rattle.poll_log.specs.Turns as log
use Rattle.poll_loop.specs.declared.looping.PollError.{PollError}
use Rattle.poll_loop.specs.declared.looping.PollError.TheVariants as error
use Rattle.poll_loop.specs.declared.stream.Stream.{Stream}

-- what was received, with its octets at the front of the buffer
abbrev pub arrival_got : List ℕ → Got → Arrival
arrival_got buffer (got.Datagram n) = Datagram (take n buffer)
arrival_got buffer got.Tick = Silence
arrival_got buffer (got.Piece n) = Piece (take n buffer)
arrival_got buffer got.StreamEnd = End

-- nothing was read yet, and no frame was due
abbrev pub IsNew : Stream → Type 0
IsNew stream = (stream.reader ≡ nothing_read) × (stream.framed.items ≡ [])

-- what a reader holds once something came
abbrev pub HasTaken : Arrival → Reading → Reading → Type 0
HasTaken (Piece octets) old new = frames_in new ≡ frames_of (old.unfinished ++ octets)
HasTaken End old new = new ≡ nothing_read
HasTaken _ old new = new ≡ old

-- what came, as a datagram or a tick, where a reader holds what came over the stream
abbrev pub event_read : Reading → Arrival → log.Event
event_read reading (Datagram octets) = log.Given octets
event_read reading Silence = log.Tick
event_read reading (Piece octets) = log.Given (unwrap_or reading.message [])
event_read reading End = log.Given []

-- the frame of a question went over the stream
pub record Goes (q : Question) (old new : Reading) (link link' : LinkState) : Type 0 where
  pub sent : link' ≡ with_moves (move.StreamSent (frame_of q) ∷ []) link
  pub read : new ≡ old

-- the stream ended at the frame of a question
pub record Breaks (q : Question) (new : Reading) (link link' : LinkState) : Type 0 where
  pub failed : StreamFails link (move.StreamFailed (frame_of q) ∷ []) link'
  pub read : new ≡ nothing_read

-- sending the frame of a question; a stream that fails is no fault of the link
abbrev pub HasFramed : Question → Stream → Stream → LinkState → Result (Unit {0}) PollError → LinkState → Type 0
HasFramed q old new link (Ok u) link' =
    (new.framed.items ≡ old.framed.items ++ q ∷ []) × (Goes q old.reader new.reader link link' ⊎ Breaks q new.reader link link')
HasFramed q old new link (Err error.Link) link' = LinkFails link link' × (has_move link ≡ false)
HasFramed q old new link (Err error.Memory) link' = link' ≡ link

-- the count of faults of streams rose once for each that failed
abbrev pub CountsStreams : List Move → ℕ → ℕ → Type 0
CountsStreams [] old new = new ≡ old
CountsStreams (move.StreamFailed octets ∷ moves) old new = (mid : ℕ) × Rose old mid × CountsStreams moves mid new
CountsStreams (move.Sent to octets ∷ moves) old new = CountsStreams moves old new
CountsStreams (move.Given octets ∷ moves) old new = CountsStreams moves old new
CountsStreams (move.Tick ∷ moves) old new = CountsStreams moves old new
CountsStreams (move.StreamSent octets ∷ moves) old new = CountsStreams moves old new
CountsStreams (move.Piece octets ∷ moves) old new = CountsStreams moves old new
CountsStreams (move.StreamEnd ∷ moves) old new = CountsStreams moves old new

-- the link with that count
abbrev pub with_stream_faults : ℕ → LinkState → LinkState
with_stream_faults faults link = record link { stream_faults = faults }
