-- What a reader of a stream holds.
use Rattle.std.specs.Prelude.{ℕ, min, List, [], ◌∷◌, Option, Some, None, if◌then◌else◌, drop}
use Rattle.dns_stream.specs.Frames.{Frames, begins_frame, missing_octets}
use Rattle.dns_stream.specs.declared.limits.TheConstants.{LONGEST_PIECE}

-- The octets of the unfinished frame; and where the last piece ended a frame, the message of that frame.
pub record Reading : Type 0 where
  pub unfinished : List ℕ
  pub message : Option (List ℕ)

-- a reader holds nothing at first
abbrev pub nothing_read : Reading
nothing_read = record { unfinished = []; message = None }

-- none or one message, as a list
abbrev pub messages_in : Option (List ℕ) → List (List ℕ)
messages_in None = []
messages_in (Some message) = message ∷ []

-- what a reader holds, as frames
abbrev pub frames_in : Reading → Frames
frames_in reading = record { messages = messages_in reading.message; rest = reading.unfinished }

-- how many octets it wants next: those that are missing from the length or else from the message, a longest piece at most
abbrev pub wanted_of : Reading → ℕ
wanted_of reading = min LONGEST_PIECE (missing_octets reading.unfinished)

-- what a reader holds that has kept these octets, of one frame
abbrev pub reading_of : List ℕ → Reading
reading_of octets =
    if begins_frame octets then record { unfinished = []; message = Some (drop 2 octets) } else record { unfinished = octets; message = None }
