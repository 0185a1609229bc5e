-- Streams that are cut into pieces.
use Rattle.std.proofs.Common.{◌≡◌, ℕ, zero, suc, ◌-◌, ◌<◌, ◌≤◌, Bool, true, false, List, [], ◌∷◌, ◌++◌, length, take, drop, ◌⊎◌, inl, inr, refl, sym, ◌∙◌, ap, arith}
use Rattle.std.specs.List.{concat, flat_map}
use Rattle.std.proofs.lemmas.Bool.{cases_lt, cond-true, cond-false, eq-eqb, le-ltb, lt-ltb, ne_eqb}
use Rattle.std.proofs.lemmas.List.{append_assoc, append-nil, drop-append-le, drop_all, length-append, length-drop, take-append-le, take_all}
use Rattle.byteorder.specs.Numbers.{big_from-append}
use Rattle.dns_message.specs.Numbers.{number_at}
use Rattle.dns_stream.specs.Frames.{Frames, begins_frame, octets_behind, frame_length, frames_of, first_message, missing_octets, with_message}
use Rattle.dns_stream.specs.Laws.{AreFed, PiecesAreTheStream, last_reading}
use Rattle.dns_stream.specs.Reading.{Reading, frames_in, messages_in, nothing_read, reading_of, wanted_of}
use Rattle.dns_stream.proofs.FrameLaws.{behind_less, frame_length-append, frames_rest, frames_whole, no_frame, part_length, whole_by_length, whole_length}

-- frames, and those of the octets behind them
abbrev pub joined : Frames → Frames → Frames
joined first more = record { messages = first.messages ++ more.messages; rest = more.rest }

-- a whole frame stays where octets come behind it
whole-append : (octets more : List ℕ) → begins_frame octets ≡ true → begins_frame (octets ++ more) ≡ true
whole-append octets more h =
    let long = whole_length octets h in
    whole_by_length (octets ++ more) (omega (arith, long, frame_length-append octets more (omega (arith, long)), length-append octets more))

message-append : (octets more : List ℕ) → begins_frame octets ≡ true → first_message (octets ++ more) ≡ first_message octets
message-append octets more h =
    let long = whole_length octets h in
    let number : number_at (octets ++ more) 0 ≡ number_at octets 0 = big_from-append 2 octets more (omega (arith, long)) in
    ap (λ (n : ℕ). take n (drop 2 (octets ++ more))) number
    ∙ ap (take (number_at octets 0)) (drop-append-le 2 octets more (omega (arith, long)))
    ∙ take-append-le (number_at octets 0) (drop 2 octets) more (omega (arith, long, length-drop 2 octets))

behind-append : (octets more : List ℕ) → begins_frame octets ≡ true → octets_behind (octets ++ more) ≡ octets_behind octets ++ more
behind-append octets more h =
    let long = whole_length octets h in
    ap (λ (n : ℕ). drop n (octets ++ more)) (frame_length-append octets more (omega (arith, long))) ∙ drop-append-le (frame_length octets) octets more long

-- The frames of a stream that is cut in two.
cut_rest : (octets more : List ℕ) → begins_frame octets ≡ false → frames_of (octets ++ more) ≡ joined (frames_of octets) (frames_of ((frames_of octets).rest ++ more))
cut_rest octets more h = sym (ap (λ (frames : Frames). joined frames (frames_of (frames.rest ++ more))) (frames_rest octets h))

cut_whole : (octets more : List ℕ) → begins_frame octets ≡ true
    → frames_of (octets_behind octets ++ more) ≡ joined (frames_of (octets_behind octets)) (frames_of ((frames_of (octets_behind octets)).rest ++ more))
    → frames_of (octets ++ more) ≡ joined (frames_of octets) (frames_of ((frames_of octets).rest ++ more))
cut_whole octets more h behind =
    frames_whole (octets ++ more) (whole-append octets more h)
    ∙ ap (λ (message : List ℕ). with_message message (frames_of (octets_behind (octets ++ more)))) (message-append octets more h)
    ∙ ap (λ (xs : List ℕ). with_message (first_message octets) (frames_of xs)) (behind-append octets more h)
    ∙ ap (with_message (first_message octets)) behind
    ∙ sym (ap (λ (frames : Frames). joined frames (frames_of (frames.rest ++ more))) (frames_whole octets h))

within_cut : (room : ℕ) (octets more : List ℕ) → length octets ≤ room → frames_of (octets ++ more) ≡ joined (frames_of octets) (frames_of ((frames_of octets).rest ++ more))
within_cut zero octets more h = cut_rest octets more (no_frame octets h)
within_cut (suc room) octets more h = go (begins_frame octets) refl (within_cut room (octets_behind octets) more) where
  go : (b : Bool) → begins_frame octets ≡ b
      → (length (octets_behind octets) ≤ room → frames_of (octets_behind octets ++ more) ≡ joined (frames_of (octets_behind octets)) (frames_of ((frames_of (octets_behind octets)).rest ++ more)))
      → frames_of (octets ++ more) ≡ joined (frames_of octets) (frames_of ((frames_of octets).rest ++ more))
  go true e behind = cut_whole octets more e (behind (behind_less room octets e h))
  go false e behind = cut_rest octets more e

pub frames_of-append : (octets more : List ℕ) → frames_of (octets ++ more) ≡ joined (frames_of octets) (frames_of ((frames_of octets).rest ++ more))
frames_of-append octets more = within_cut (length octets) octets more (omega arith)

-- one piece more
pub fed_more : (stream piece : List ℕ) (messages : List (List ℕ)) (before after : Reading)
    → frames_of stream ≡ record { messages = messages; rest = before.unfinished } → frames_in after ≡ frames_of (before.unfinished ++ piece)
    → frames_of (stream ++ piece) ≡ record { messages = messages ++ messages_in after.message; rest = after.unfinished }
fed_more stream piece messages before after h fed =
    frames_of-append stream piece ∙ ap (λ (frames : Frames). joined frames (frames_of (frames.rest ++ piece))) h
    ∙ ap (joined (record { messages = messages; rest = before.unfinished })) (sym fed)

-- and all of them
fed_behind : (pieces : List (List ℕ)) (readings : List Reading) (stream : List ℕ) (messages : List (List ℕ)) (before : Reading)
    → frames_of stream ≡ record { messages = messages; rest = before.unfinished } → AreFed before pieces readings
    → frames_of (stream ++ concat pieces) ≡ record { messages = messages ++ flat_map (λ reading. messages_in reading.message) readings; rest = (last_reading before readings).unfinished }
fed_behind [] [] stream messages before h fed =
    ap frames_of (append-nil stream) ∙ h ∙ sym (ap (λ (all : List (List ℕ)). record { messages = all; rest = before.unfinished }) (append-nil messages))
fed_behind [] (after ∷ readings) stream messages before h fed = absurd fed
fed_behind (piece ∷ pieces) [] stream messages before h fed = absurd fed
fed_behind (piece ∷ pieces) (after ∷ readings) stream messages before h fed =
    let all : List (List ℕ) → Frames = λ messages. record { messages = messages; rest = (last_reading after readings).unfinished } in
    sym (ap frames_of (append_assoc stream piece (concat pieces)))
    ∙ fed_behind pieces readings (stream ++ piece) (messages ++ messages_in after.message) after (fed_more stream piece messages before after h fed.0) fed.1
    ∙ ap all (append_assoc messages (messages_in after.message) (flat_map (λ reading. messages_in reading.message) readings))

pub pieces_law : PiecesAreTheStream
pieces_law pieces readings fed = fed_behind pieces readings [] [] nothing_read (frames_rest [] refl) fed

-- What is kept of one frame is seen as its frames.
one_whole : (octets : List ℕ) → length octets ≤ frame_length octets → begins_frame octets ≡ true → frames_of octets ≡ record { messages = drop 2 octets ∷ []; rest = [] }
one_whole octets within h =
    let behind : octets_behind octets ≡ [] = drop_all (frame_length octets) octets within in
    let first : first_message octets ≡ drop 2 octets = take_all (number_at octets 0) (drop 2 octets) (omega (arith, within, length-drop 2 octets)) in
    frames_whole octets h ∙ ap (λ (message : List ℕ). with_message message (frames_of (octets_behind octets))) first
    ∙ ap (λ (xs : List ℕ). with_message (drop 2 octets) (frames_of xs)) behind ∙ ap (with_message (drop 2 octets)) (frames_rest [] refl)

pub one_frame : (octets : List ℕ) → length octets ≤ frame_length octets → frames_in (reading_of octets) ≡ frames_of octets
one_frame octets within = go (begins_frame octets) refl where
  go : (b : Bool) → begins_frame octets ≡ b → frames_in (reading_of octets) ≡ frames_of octets
  go true e = ap frames_in (cond-true _ _ _ e) ∙ sym (one_whole octets within e)
  go false e = ap frames_in (cond-false _ _ _ e) ∙ sym (frames_rest octets e)

-- What is unfinished is no whole frame.
pub unfinished_whole : (octets : List ℕ) → missing_octets octets ≡ 0 → (reading_of octets).unfinished ≡ []
unfinished_whole octets h = ap (λ (reading : Reading). reading.unfinished) (cond-true _ _ _ (eq-eqb _ _ h))

pub unfinished_part : (octets : List ℕ) → (missing_octets octets ≡ 0 → ⊥) → (reading_of octets).unfinished ≡ octets
unfinished_part octets h = ap (λ (reading : Reading). reading.unfinished) (cond-false _ _ _ (ne_eqb _ _ h))

unfinished_missing : (octets : List ℕ) → begins_frame (reading_of octets).unfinished ≡ false
unfinished_missing octets = go (begins_frame octets) refl where
  go : (b : Bool) → begins_frame octets ≡ b → begins_frame (reading_of octets).unfinished ≡ false
  go true e = ap (λ (reading : Reading). begins_frame reading.unfinished) (cond-true _ _ _ e)
  go false e = ap (λ (reading : Reading). begins_frame reading.unfinished) (cond-false _ _ _ e) ∙ e

-- as many octets more as are missing are still of one frame
within_more : (octets piece : List ℕ) → begins_frame octets ≡ false → length piece ≤ missing_octets octets → length (octets ++ piece) ≤ frame_length (octets ++ piece)
within_more octets piece cut h = go (cases_lt (length octets) 2) where
  go : (length octets < 2) ⊎ (2 ≤ length octets) → length (octets ++ piece) ≤ frame_length (octets ++ piece)
  go (inl short) = let few : missing_octets octets ≡ 2 - length octets = cond-true _ _ _ (lt-ltb _ _ short) in omega (arith, h, few, length-append octets piece)
  go (inr long) =
      let many : missing_octets octets ≡ frame_length octets - length octets = cond-false _ _ _ (le-ltb _ _ long) in
      omega (arith, h, many, part_length octets cut, length-append octets piece, frame_length-append octets piece long)

-- what a reader holds behind a piece
pub read_on : (octets kept new piece : List ℕ) (reading : Reading) → reading_of octets ≡ reading → kept ≡ reading.unfinished → new ≡ kept ++ piece
    → length piece ≤ wanted_of reading → frames_in (reading_of new) ≡ frames_of (reading.unfinished ++ piece)
read_on octets kept new piece reading seen rest behind h =
    let all : new ≡ reading.unfinished ++ piece = behind ∙ ap (λ (xs : List ℕ). xs ++ piece) rest in
    let cut : begins_frame reading.unfinished ≡ false = ap (λ (r : Reading). begins_frame r.unfinished) (sym seen) ∙ unfinished_missing octets in
    let within = within_more reading.unfinished piece cut (omega (arith, h)) in
    ap (λ (xs : List ℕ). frames_in (reading_of xs)) all ∙ one_frame (reading.unfinished ++ piece) within
