-- What is kept of a stream, from one round to the next.
use Rattle.std.proofs.Common.{◌≡◌, ℕ, List, [], ◌++◌, Option, Some, None, refl, ◌∙◌, ap}
use Rattle.std.specs.Prelude.{unwrap_or}
use Rattle.dns_stream.specs.Frames.{Frames, frames_of}
use Rattle.dns_stream.specs.Reading.{Reading, messages_in}
use Rattle.poll_log.specs.Flat.{last_message}
use Rattle.poll_log.specs.Turns.{Given}
use Rattle.poll_log.specs.Rounds.{Arrival, Datagram, End, Piece, Silence, event_at, rest_at}
use Rattle.poll_loop.specs.Streams.{HasTaken, event_read}

-- what is unfinished
pub read_taken : (arrival : Arrival) (old new : Reading) (rest : List ℕ) → HasTaken arrival old new → old.unfinished ≡ rest → new.unfinished ≡ rest_at rest arrival
read_taken (Datagram octets) old new rest t e = ap (λ (r : Reading). r.unfinished) t ∙ e
read_taken Silence old new rest t e = ap (λ (r : Reading). r.unfinished) t ∙ e
read_taken (Piece octets) old new rest t e = ap (λ (f : Frames). f.rest) t ∙ ap (λ r. (frames_of (r ++ octets)).rest) e
read_taken End old new rest t e = ap (λ (r : Reading). r.unfinished) t

last_in : (message : Option (List ℕ)) → unwrap_or message [] ≡ last_message (messages_in message)
last_in None = refl
last_in (Some message) = refl

-- and what came
pub event_taken : (arrival : Arrival) (old new : Reading) (rest : List ℕ) → HasTaken arrival old new → old.unfinished ≡ rest → event_read new arrival ≡ event_at rest arrival
event_taken (Datagram octets) old new rest t e = refl
event_taken Silence old new rest t e = refl
event_taken (Piece octets) old new rest t e =
    ap Given (last_in new.message ∙ ap (λ (f : Frames). last_message f.messages) t ∙ ap (λ r. last_message (frames_of (r ++ octets)).messages) e)
event_taken End old new rest t e = refl
