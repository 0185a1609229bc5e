-- Worked streams, by computation alone.
use Rattle.std.specs.Prelude.{◌≡◌, [], ◌∷◌, refl}
use Rattle.dns_stream.specs.Frames.{frame_octets, frames_of, frames_within}
use Rattle.dns_stream.specs.Reading.{frames_in, nothing_read}

-- a frame of three octets, and one octet of the next
pub frame_and_octet : frames_of (0 ∷ 3 ∷ 18 ∷ 52 ∷ 129 ∷ 0 ∷ []) ≡ record { messages = (18 ∷ 52 ∷ 129 ∷ []) ∷ []; rest = 0 ∷ [] }
unfolding frames_of frames_within
frame_and_octet = refl

-- two frames, of which the first is empty
pub empty_frame : frames_of (0 ∷ 0 ∷ 0 ∷ 1 ∷ 65 ∷ []) ≡ record { messages = [] ∷ (65 ∷ []) ∷ []; rest = [] }
unfolding frames_of frames_within
empty_frame = refl

-- the high octet of the length is 1, so 256 octets are missing
pub long_frame : frames_of (1 ∷ 0 ∷ []) ≡ record { messages = []; rest = 1 ∷ 0 ∷ [] }
unfolding frames_of frames_within
long_frame = refl

-- the length doesn't count its own two octets
pub written_frame : frame_octets (18 ∷ 52 ∷ []) ≡ 0 ∷ 2 ∷ 18 ∷ 52 ∷ []
written_frame = refl

-- nothing is read of an empty stream
pub empty_stream : frames_of [] ≡ frames_in nothing_read
unfolding frames_of frames_within
empty_stream = refl
