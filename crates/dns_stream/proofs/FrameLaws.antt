-- Frames, one after another.
use Rattle.std.proofs.Common.{◌≡◌, ℕ, zero, suc, ◌+◌, ◌-◌, ◌*◌, ◌/◌, ◌%◌, ◌^◌, ◌<◌, ◌≤◌, Bool, true, false, cond, ◌==◌, ltb, leb, List, [], ◌∷◌, ◌++◌, length, take, drop, refl, sym, ◌∙◌, ap, subst, arith}
use Rattle.std.specs.List.{All, flat_map}
use Rattle.std.proofs.lemmas.Bool.{cond-true, cond-false, leb-true, leb-false, le-leb, lt-leb}
use Rattle.std.proofs.lemmas.Bool.Decides.{nat_tests}
use Rattle.std.proofs.lemmas.List.{append_assoc, drop-drop, drop_at, length-append, length-drop, length-take-le, take-append-drop, take_at}
use Rattle.std.proofs.lemmas.List.Elements.{All-drop}
use Rattle.byteorder.specs.Numbers.{big_from-append, big_number-reads_back}
use Rattle.dns_message.specs.Numbers.{number_at, number_octets}
use Rattle.dns_stream.specs.Frames.{all_rest, begins_frame, octets_behind, frame_length, frame_octets, frames_of, frames_within, first_message, with_message}
use Rattle.dns_stream.specs.Laws.{AreItsFrames, StreamsHaveFrames, WrittenFramesAreRead}

-- what is missing, by numbers
none_missing : (n frame : ℕ) → 2 ≤ frame → (cond (ltb n 2) (2 - n) (frame - n) == 0) ≡ leb frame n
none_missing n frame h = grind (arith, nat_tests)

-- a whole frame is there where the octets are as many as it has
pub begins_by_length : (octets : List ℕ) → begins_frame octets ≡ leb (frame_length octets) (length octets)
begins_by_length octets = none_missing (length octets) (frame_length octets) (omega arith)

pub whole_length : (octets : List ℕ) → begins_frame octets ≡ true → frame_length octets ≤ length octets
whole_length octets h = leb-true _ _ (sym (begins_by_length octets) ∙ h)

pub part_length : (octets : List ℕ) → begins_frame octets ≡ false → length octets < frame_length octets
part_length octets h = leb-false _ _ (sym (begins_by_length octets) ∙ h)

pub whole_by_length : (octets : List ℕ) → frame_length octets ≤ length octets → begins_frame octets ≡ true
whole_by_length octets h = begins_by_length octets ∙ le-leb _ _ h

-- the length stays where octets come behind it
pub frame_length-append : (octets more : List ℕ) → 2 ≤ length octets → frame_length (octets ++ more) ≡ frame_length octets
frame_length-append octets more h = ap (λ (n : ℕ). 2 + n) (big_from-append 2 octets more h)

-- One step of a stream.
within_whole : (room : ℕ) (octets : List ℕ) → begins_frame octets ≡ true → frames_within (suc room) octets ≡ with_message (first_message octets) (frames_within room (octets_behind octets))
unfolding frames_within
within_whole room octets h = cond-true _ _ _ h

within_rest : (room : ℕ) (octets : List ℕ) → begins_frame octets ≡ false → frames_within room octets ≡ all_rest octets
unfolding frames_within
within_rest zero octets h = refl
within_rest (suc room) octets h = cond-false _ _ _ h

-- there is less behind a frame
pub behind_less : (room : ℕ) (octets : List ℕ) → begins_frame octets ≡ true → length octets ≤ suc room → length (octets_behind octets) ≤ room
behind_less room octets h long = omega (arith, whole_length octets h, length-drop (frame_length octets) octets)

-- and none where there is nothing
pub no_frame : (octets : List ℕ) → length octets ≤ 0 → begins_frame octets ≡ false
no_frame octets h = begins_by_length octets ∙ lt-leb _ _ (omega arith)

-- with as much room as there are octets more room changes nothing
any_room : (room other : ℕ) (octets : List ℕ) → length octets ≤ room → length octets ≤ other → frames_within room octets ≡ frames_within other octets
any_room zero other octets h k = within_rest zero octets (no_frame octets h) ∙ sym (within_rest other octets (no_frame octets h))
any_room (suc room) zero octets h k = within_rest (suc room) octets (no_frame octets k) ∙ sym (within_rest zero octets (no_frame octets k))
any_room (suc room) (suc other) octets h k = go (begins_frame octets) refl (any_room room other (octets_behind octets)) where
  go : (b : Bool) → begins_frame octets ≡ b
      → (length (octets_behind octets) ≤ room → length (octets_behind octets) ≤ other → frames_within room (octets_behind octets) ≡ frames_within other (octets_behind octets))
      → frames_within (suc room) octets ≡ frames_within (suc other) octets
  go true e behind =
      within_whole room octets e ∙ ap (with_message (first_message octets)) (behind (behind_less room octets e h) (behind_less other octets e k)) ∙ sym (within_whole other octets e)
  go false e behind = within_rest (suc room) octets e ∙ sym (within_rest (suc other) octets e)

-- a stream that begins with a whole frame
pub frames_whole : (octets : List ℕ) → begins_frame octets ≡ true → frames_of octets ≡ with_message (first_message octets) (frames_of (octets_behind octets))
unfolding frames_of
frames_whole octets h =
    let room = length octets in
    any_room room (suc room) octets (omega arith) (omega arith) ∙ within_whole room octets h
    ∙ ap (with_message (first_message octets)) (any_room room (length (octets_behind octets)) (octets_behind octets) (behind_less room octets h (omega arith)) (omega arith))

-- and one that does not
pub frames_rest : (octets : List ℕ) → begins_frame octets ≡ false → frames_of octets ≡ all_rest octets
unfolding frames_of
frames_rest octets h = within_rest (length octets) octets h

-- A written frame is there, with its message.
number_written : (message more : List ℕ) → length message < 2 ^ 16 → number_at (frame_octets message ++ more) 0 ≡ length message
number_written message more h = big_number-reads_back 2 (length message) (message ++ more) h

length_written : (message more : List ℕ) → length message < 2 ^ 16 → frame_length (frame_octets message ++ more) ≡ length (frame_octets message)
length_written message more h =
    omega (arith, number_written message more h, length-append (number_octets (length message)) message)

pub frames_written : (message more : List ℕ) → length message < 2 ^ 16 → frames_of (frame_octets message ++ more) ≡ with_message message (frames_of more)
frames_written message more h =
    let octets = frame_octets message ++ more in
    let size : frame_length octets ≡ length (frame_octets message) = length_written message more h in
    let whole : begins_frame octets ≡ true = whole_by_length octets (omega (arith, size, length-append (frame_octets message) more)) in
    let first : first_message octets ≡ message = take_at message more (number_at octets 0) (sym (number_written message more h)) in
    let behind : octets_behind octets ≡ more = drop_at (frame_octets message) more (frame_length octets) (sym size) in
    frames_whole octets whole ∙ ap (λ (m : List ℕ). with_message m (frames_of (octets_behind octets))) first ∙ ap (λ (xs : List ℕ). with_message message (frames_of xs)) behind

-- so what is written is read
pub written_law : WrittenFramesAreRead
written_law [] rest h cut = frames_rest rest cut
written_law (message ∷ messages) rest h cut =
    let all = flat_map frame_octets messages in
    ap frames_of (append_assoc (frame_octets message) all rest) ∙ frames_written message (all ++ rest) (h 0 [] (omega arith))
    ∙ ap (with_message message) (written_law messages rest (λ k d l. h (suc k) d (omega arith)) cut)

-- Two octets are those of the number in them.
high_octet : (a b : ℕ) → a < 256 → b < 256 → (a * 256 + (b * 1 + 0)) / 256 % 256 ≡ a
high_octet a b h k = omega arith

low_octet : (a b : ℕ) → b < 256 → (a * 256 + (b * 1 + 0)) % 256 ≡ b
low_octet a b h = omega arith

length_octets : (octets : List ℕ) → All (λ octet. octet < 2 ^ 8) octets → 2 ≤ length octets → number_octets (number_at octets 0) ≡ take 2 octets
length_octets [] small h = absurd (omega arith)
length_octets (a ∷ []) small h = absurd (omega arith)
length_octets (a ∷ b ∷ octets) small h =
    let high = high_octet a b (small 0 0 (omega arith)) (small 1 0 (omega arith)) in
    let low = low_octet a b (small 1 0 (omega arith)) in
    ap (λ (x : ℕ). x ∷ number_at (a ∷ b ∷ octets) 0 % 256 ∷ []) high ∙ ap (λ (x : ℕ). a ∷ x ∷ []) low

-- The frame at the front, and what is behind it.
frame_there : (octets : List ℕ) → All (λ octet. octet < 2 ^ 8) octets → begins_frame octets ≡ true → frame_octets (first_message octets) ++ octets_behind octets ≡ octets
frame_there octets small h =
    let n = number_at octets 0 in
    let long = whole_length octets h in
    let size : length (first_message octets) ≡ n = length-take-le n (drop 2 octets) (omega (arith, long, length-drop 2 octets)) in
    let front : number_octets (length (first_message octets)) ≡ take 2 octets = ap number_octets size ∙ length_octets octets small (omega (arith, long)) in
    ap (λ (xs : List ℕ). xs ++ first_message octets ++ octets_behind octets) front
    ∙ append_assoc (take 2 octets) (first_message octets) (octets_behind octets)
    ∙ ap (λ (xs : List ℕ). take 2 octets ++ (first_message octets ++ xs)) (sym (drop-drop n 2 octets))
    ∙ ap (λ (xs : List ℕ). take 2 octets ++ xs) (take-append-drop n (drop 2 octets)) ∙ take-append-drop 2 octets

-- a stream has its frames
rest_are : (stream : List ℕ) → begins_frame stream ≡ false → AreItsFrames stream (frames_of stream)
rest_are stream h = subst (AreItsFrames stream) (sym (frames_rest stream h)) (record { together = refl; no_more = h })

whole_are : (stream : List ℕ) → All (λ octet. octet < 2 ^ 8) stream → begins_frame stream ≡ true → AreItsFrames (octets_behind stream) (frames_of (octets_behind stream)) → AreItsFrames stream (frames_of stream)
whole_are stream small h behind =
    let first = frame_octets (first_message stream) in
    let frames = frames_of (octets_behind stream) in
    subst (AreItsFrames stream) (sym (frames_whole stream h)) (record {
      together = append_assoc first (flat_map frame_octets frames.messages) frames.rest ∙ ap (λ (xs : List ℕ). first ++ xs) behind.together ∙ frame_there stream small h;
      no_more = behind.no_more;
    })

stream_within : (room : ℕ) (stream : List ℕ) → length stream ≤ room → All (λ octet. octet < 2 ^ 8) stream → AreItsFrames stream (frames_of stream)
stream_within zero stream h small = rest_are stream (no_frame stream h)
stream_within (suc room) stream h small = go (begins_frame stream) refl (stream_within room (octets_behind stream)) where
  go : (b : Bool) → begins_frame stream ≡ b
      → (length (octets_behind stream) ≤ room → All (λ octet. octet < 2 ^ 8) (octets_behind stream) → AreItsFrames (octets_behind stream) (frames_of (octets_behind stream)))
      → AreItsFrames stream (frames_of stream)
  go true e behind = whole_are stream small e (behind (behind_less room stream e h) (All-drop (λ octet. octet < 2 ^ 8) (frame_length stream) stream small))
  go false e behind = rest_are stream e

pub stream_law : StreamsHaveFrames
stream_law stream small = stream_within (length stream) stream (omega arith) small
