-- The turns of a log that is cut into rounds.
use Rattle.std.proofs.Common.{◌≡◌, ℕ, List, [], ◌∷◌, ◌++◌, map, Option, Some, None, refl, sym, ◌∙◌, ap, append_assoc}
use Rattle.std.proofs.lemmas.List.{append-nil}
use Rattle.pac_ports.specs.declared.link.Move.{Move}
use Rattle.pac_ports.specs.declared.link.Move.TheVariants as move
use Rattle.poll_log.specs.Flat.{flat_behind, frames_behind, message_behind, unfinished_behind}
use Rattle.poll_log.specs.Turns.{Event, Outgoing, Turns, Begin, Then, Given, Tick, turns_of, with_moves}
use Rattle.poll_log.specs.Rounds.{Arrival, Datagram, End, Framing, Framed, Failed, Opening, Piece, Round, Rounds, Silence, arrival_move, event_at, framing_moves, moves_of, rest_after, rest_at, sent_move, turns_in, unfinished}
use Rattle.poll_log.proofs.Grows.{turns_of-append}

-- ---- what is sent

sent_flat : (rest : List ℕ) (sent : List Outgoing) (more : List Move) → flat_behind rest (map sent_move sent ++ more) ≡ map sent_move sent ++ flat_behind rest more
unfolding flat_behind
sent_flat rest [] more = refl
sent_flat rest (d ∷ sent) more = ap (λ l. sent_move d ∷ l) (sent_flat rest sent more)

sent_rest : (rest : List ℕ) (sent : List Outgoing) (more : List Move) → unfinished_behind rest (map sent_move sent ++ more) ≡ unfinished_behind rest more
unfolding unfinished_behind
sent_rest rest [] more = refl
sent_rest rest (d ∷ sent) more = sent_rest rest sent more

framing_flat : (rest : List ℕ) (framing : Option Framing) → flat_behind rest (framing_moves framing) ≡ []
unfolding flat_behind
framing_flat rest None = refl
framing_flat rest (Some (Framed octets)) = refl
framing_flat rest (Some (Failed octets)) = refl

framing_rest : (rest : List ℕ) (framing : Option Framing) → unfinished_behind rest (framing_moves framing) ≡ rest_after rest framing
unfolding unfinished_behind
framing_rest rest None = refl
framing_rest rest (Some (Framed octets)) = refl
framing_rest rest (Some (Failed octets)) = refl

-- ---- one round

-- the moves behind what came
abbrev behind : List Outgoing → Option Framing → List Move
behind sent framing = map sent_move sent ++ framing_moves framing

behind_flat : (rest : List ℕ) (sent : List Outgoing) (framing : Option Framing) → flat_behind rest (behind sent framing) ≡ map sent_move sent
behind_flat rest sent framing =
    sent_flat rest sent (framing_moves framing) ∙ ap (λ l. map sent_move sent ++ l) (framing_flat rest framing) ∙ append-nil (map sent_move sent)

behind_rest : (rest : List ℕ) (sent : List Outgoing) (framing : Option Framing) → unfinished_behind rest (behind sent framing) ≡ rest_after rest framing
behind_rest rest sent framing = sent_rest rest sent (framing_moves framing) ∙ framing_rest rest framing

-- what came, as it stands in a flat log
abbrev event_move : Event → Move
event_move (Given octets) = move.Given octets
event_move Tick = move.Tick

round_flat : (rest : List ℕ) (arrival : Arrival) (sent : List Outgoing) (framing : Option Framing) → flat_behind rest (arrival_move arrival ∷ behind sent framing) ≡ event_move (event_at rest arrival) ∷ map sent_move sent
unfolding flat_behind
round_flat rest (Datagram octets) sent framing = ap (λ l. move.Given octets ∷ l) (behind_flat rest sent framing)
round_flat rest Silence sent framing = ap (λ l. move.Tick ∷ l) (behind_flat rest sent framing)
round_flat rest (Piece octets) sent framing = ap (λ l. move.Given (message_behind rest octets) ∷ l) (behind_flat (frames_behind rest octets).rest sent framing)
round_flat rest End sent framing = ap (λ l. move.Given [] ∷ l) (behind_flat [] sent framing)

round_rest : (rest : List ℕ) (arrival : Arrival) (sent : List Outgoing) (framing : Option Framing) → unfinished_behind rest (arrival_move arrival ∷ behind sent framing) ≡ rest_after (rest_at rest arrival) framing
unfolding unfinished_behind
round_rest rest (Datagram octets) sent framing = behind_rest rest sent framing
round_rest rest Silence sent framing = behind_rest rest sent framing
round_rest rest (Piece octets) sent framing = behind_rest (frames_behind rest octets).rest sent framing
round_rest rest End sent framing = behind_rest [] sent framing

-- ---- as turns

sent_then : (h : Turns) (e : Event) (sent more : List Outgoing) → with_moves (Then h e sent) (map sent_move more) ≡ Then h e (sent ++ more)
unfolding with_moves
sent_then h e sent [] = ap (Then h e) (sym (append-nil sent))
sent_then h e sent (d ∷ more) = sent_then h e (sent ++ d ∷ []) more ∙ ap (Then h e) (append_assoc sent (d ∷ []) more)

sent_begin : (sent more : List Outgoing) → with_moves (Begin sent) (map sent_move more) ≡ Begin (sent ++ more)
unfolding with_moves
sent_begin sent [] = ap Begin (sym (append-nil sent))
sent_begin sent (d ∷ more) = sent_begin (sent ++ d ∷ []) more ∙ ap Begin (append_assoc sent (d ∷ []) more)

event_then : (h : Turns) (e : Event) (sent : List Outgoing) → with_moves h (event_move e ∷ map sent_move sent) ≡ Then h e sent
unfolding with_moves
event_then h (Given d) sent = sent_then h (Given d) [] sent
event_then h Tick sent = sent_then h Tick [] sent

-- ---- all rounds

unfinished_append : (rest : List ℕ) (ms more : List Move) → unfinished_behind rest (ms ++ more) ≡ unfinished_behind (unfinished_behind rest ms) more
unfolding unfinished_behind
unfinished_append rest [] more = refl
unfinished_append rest (move.Sent to octets ∷ ms) more = unfinished_append rest ms more
unfinished_append rest (move.Given octets ∷ ms) more = unfinished_append rest ms more
unfinished_append rest (move.Tick ∷ ms) more = unfinished_append rest ms more
unfinished_append rest (move.StreamSent octets ∷ ms) more = unfinished_append rest ms more
unfinished_append rest (move.StreamFailed octets ∷ ms) more = unfinished_append [] ms more
unfinished_append rest (move.Piece octets ∷ ms) more = unfinished_append (frames_behind rest octets).rest ms more
unfinished_append rest (move.StreamEnd ∷ ms) more = unfinished_append [] ms more

pub unfinished_of : (rounds : Rounds) → unfinished_behind [] (moves_of rounds) ≡ unfinished rounds
unfolding moves_of unfinished unfinished_behind
unfinished_of (Opening sent) = ap (unfinished_behind []) (sym (append-nil (map sent_move sent))) ∙ sent_rest [] sent []
unfinished_of (Round before arrival sent framing) =
    unfinished_append [] (moves_of before) (arrival_move arrival ∷ behind sent framing)
    ∙ ap (λ r. unfinished_behind r (arrival_move arrival ∷ behind sent framing)) (unfinished_of before)
    ∙ round_rest (unfinished before) arrival sent framing

pub turns_of_rounds : (rounds : Rounds) → turns_of (moves_of rounds) ≡ turns_in rounds
unfolding moves_of turns_in flat_behind
turns_of_rounds (Opening sent) =
    ap (with_moves (Begin [])) (ap (flat_behind []) (sym (append-nil (map sent_move sent))) ∙ sent_flat [] sent [] ∙ append-nil (map sent_move sent))
    ∙ sent_begin [] sent
turns_of_rounds (Round before arrival sent framing) =
    turns_of-append (moves_of before) (arrival_move arrival ∷ behind sent framing)
    ∙ ap (λ r. with_moves (turns_of (moves_of before)) (flat_behind r (arrival_move arrival ∷ behind sent framing))) (unfinished_of before)
    ∙ ap (with_moves (turns_of (moves_of before))) (round_flat (unfinished before) arrival sent framing)
    ∙ ap (λ h. with_moves h (event_move (event_at (unfinished before) arrival) ∷ map sent_move sent)) (turns_of_rounds before)
    ∙ event_then (turns_in before) (event_at (unfinished before) arrival) sent
