-- Messages in a stream, each with its length before it (RFC 1035, section 4.2.2; RFC 7766, section 8).
use Rattle.std.specs.Prelude.{ℕ, zero, suc, ◌+◌, ◌-◌, List, [], ◌∷◌, ◌++◌, Bool, ◌==◌, nat_lt, length, take, drop, if◌then◌else◌}
use Rattle.dns_message.specs.Numbers.{number_at, number_octets}

-- What a stream holds: the messages of its whole frames, in order, and the rest, which is no whole frame.
pub record Frames : Type 0 where
  pub messages : List (List ℕ)
  pub rest : List ℕ

-- a frame: the length of a message in two octets, the high one first, and the message
abbrev pub frame_octets : List ℕ → List ℕ
frame_octets message = number_octets (length message) ++ message

-- how many octets the frame at the front has, by its first two
abbrev pub frame_length : List ℕ → ℕ
frame_length octets = 2 + number_at octets 0

-- how many octets are missing from the length at the front, or else from its message
abbrev pub missing_octets : List ℕ → ℕ
missing_octets octets = if nat_lt (length octets) 2 then 2 - length octets else frame_length octets - length octets

-- whether a whole frame stands at the front
abbrev pub begins_frame : List ℕ → Bool
begins_frame octets = missing_octets octets == 0

-- the message of the frame at the front
abbrev pub first_message : List ℕ → List ℕ
first_message octets = take (number_at octets 0) (drop 2 octets)

-- the octets behind that frame
abbrev pub octets_behind : List ℕ → List ℕ
octets_behind octets = drop (frame_length octets) octets

-- a message before those of the octets behind it
abbrev pub with_message : List ℕ → Frames → Frames
with_message message frames = record frames { messages = message ∷ frames.messages }

-- the octets are no whole frame
abbrev pub all_rest : List ℕ → Frames
all_rest octets = record { messages = []; rest = octets }

-- the first frames of a stream, so many at most
unfoldable pub frames_within : ℕ → List ℕ → Frames
frames_within zero octets = all_rest octets
frames_within (suc room) octets =
    if begins_frame octets then with_message (first_message octets) (frames_within room (octets_behind octets)) else all_rest octets

-- the frames of a stream, which are no more than its octets
unfoldable pub frames_of : List ℕ → Frames
frames_of octets = frames_within (length octets) octets
