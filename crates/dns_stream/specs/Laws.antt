-- Laws of frames.
use Rattle.std.specs.Prelude.{◌≡◌, ℕ, ◌<◌, ◌^◌, false, List, [], ◌∷◌, ◌++◌, length}
use Rattle.std.specs.List.{All, concat, flat_map}
use Rattle.dns_stream.specs.Frames.{Frames, begins_frame, frame_octets, frames_of}
use Rattle.dns_stream.specs.Reading.{Reading, frames_in, messages_in, nothing_read}

-- These are the frames of a stream: written one behind the other, with the rest behind them, they are the stream, and no
-- whole frame stands at the front of the rest.
pub record AreItsFrames (stream : List ℕ) (frames : Frames) : Type 0 where
  pub together : flat_map frame_octets frames.messages ++ frames.rest ≡ stream
  pub no_more : begins_frame frames.rest ≡ false

-- a stream of octets has its frames
abbrev pub StreamsHaveFrames : Type 0
StreamsHaveFrames = (stream : List ℕ) → All (λ octet. octet < 2 ^ 8) stream → AreItsFrames stream (frames_of stream)

-- Messages that two octets can tell the length of, each written as a frame, one behind the other, and with octets behind
-- them that are no whole frame, are read as these messages and these octets.
abbrev pub WrittenFramesAreRead : Type 0
WrittenFramesAreRead =
    (messages : List (List ℕ)) (rest : List ℕ) → All (λ message. length message < 2 ^ 16) messages → begins_frame rest ≡ false
    → frames_of (flat_map frame_octets messages ++ rest) ≡ record { messages = messages; rest = rest }

-- A reader is fed pieces in turn, and this is what it holds behind each of them.
abbrev pub AreFed : Reading → List (List ℕ) → List Reading → Type 0
AreFed before [] [] = Unit {0}
AreFed before (piece ∷ pieces) (after ∷ readings) = (frames_in after ≡ frames_of (before.unfinished ++ piece)) × AreFed after pieces readings
AreFed before _ _ = ⊥

-- what it holds behind the last one
abbrev pub last_reading : Reading → List Reading → Reading
last_reading before [] = before
last_reading before (after ∷ readings) = last_reading after readings

-- However a stream is cut, the messages that a reader hands on in turn are those of the stream, and what is unfinished
-- at the end is the rest.
abbrev pub PiecesAreTheStream : Type 0
PiecesAreTheStream =
    (pieces : List (List ℕ)) (readings : List Reading) → AreFed nothing_read pieces readings
    → frames_of (concat pieces)
    ≡ record { messages = flat_map (λ reading. messages_in reading.message) readings; rest = (last_reading nothing_read readings).unfinished }
