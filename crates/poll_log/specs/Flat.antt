-- The datagrams of a log, whichever way they came: a message that came over the stream is a datagram too.
use Rattle.std.specs.Prelude.{ℕ, List, [], ◌∷◌, ◌++◌}
use Rattle.pac_ports.specs.declared.link.Move.{Move}
use Rattle.pac_ports.specs.declared.link.Move.TheVariants as move
use Rattle.dns_stream.specs.Frames.{Frames, frames_of}

-- the last of these messages, or none at all
abbrev pub last_message : List (List ℕ) → List ℕ
last_message [] = []
last_message (message ∷ []) = message
last_message (message ∷ next ∷ messages) = last_message (next ∷ messages)

-- the frames of a piece behind octets that are no whole frame (RFC 1035, section 4.2.2)
abbrev pub frames_behind : List ℕ → List ℕ → Frames
frames_behind rest piece = frames_of (rest ++ piece)

-- the message that the piece ends, or nothing where it ends none
abbrev pub message_behind : List ℕ → List ℕ → List ℕ
message_behind rest piece = last_message (frames_behind rest piece).messages

-- The moves without those that send over the stream, behind octets of it that are no whole frame. A piece is the datagram
-- that it ends, or an empty one, and the end of the stream is an empty one too.
unfoldable pub flat_behind : List ℕ → List Move → List Move
flat_behind rest [] = []
flat_behind rest (move.Sent to octets ∷ moves) = move.Sent to octets ∷ flat_behind rest moves
flat_behind rest (move.Given octets ∷ moves) = move.Given octets ∷ flat_behind rest moves
flat_behind rest (move.Tick ∷ moves) = move.Tick ∷ flat_behind rest moves
flat_behind rest (move.StreamSent octets ∷ moves) = flat_behind rest moves
flat_behind rest (move.StreamFailed octets ∷ moves) = flat_behind [] moves
flat_behind rest (move.Piece octets ∷ moves) = move.Given (message_behind rest octets) ∷ flat_behind (frames_behind rest octets).rest moves
flat_behind rest (move.StreamEnd ∷ moves) = move.Given [] ∷ flat_behind [] moves

-- the log as if all had come as datagrams
abbrev pub flat : List Move → List Move
flat moves = flat_behind [] moves

-- the octets of the stream behind these moves that are no whole frame
unfoldable pub unfinished_behind : List ℕ → List Move → List ℕ
unfinished_behind rest [] = rest
unfinished_behind rest (move.Sent to octets ∷ moves) = unfinished_behind rest moves
unfinished_behind rest (move.Given octets ∷ moves) = unfinished_behind rest moves
unfinished_behind rest (move.Tick ∷ moves) = unfinished_behind rest moves
unfinished_behind rest (move.StreamSent octets ∷ moves) = unfinished_behind rest moves
unfinished_behind rest (move.StreamFailed octets ∷ moves) = unfinished_behind [] moves
unfinished_behind rest (move.Piece octets ∷ moves) = unfinished_behind (frames_behind rest octets).rest moves
unfinished_behind rest (move.StreamEnd ∷ moves) = unfinished_behind [] moves
