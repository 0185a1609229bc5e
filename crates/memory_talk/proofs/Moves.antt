-- Turns as moves, and back.
use Rattle.std.proofs.Common.{◌≡◌, ℕ, List, [], ◌∷◌, ◌++◌, map, None, refl, sym, ◌∙◌, ap}
use Rattle.std.proofs.lemmas.List.{append-nil}
use Rattle.pac_ports.specs.declared.link.Move.{Move}
use Rattle.poll_log.specs.Flat.{flat_behind, unfinished_behind}
use Rattle.poll_log.specs.Rounds.{Arrival, Datagram, Opening, Round, Rounds, Silence, arrival_move, event_at, sent_move, turns_in, unfinished}
use Rattle.poll_log.specs.Rounds as rounds
use Rattle.poll_log.specs.Turns.{Event, Given, Tick, Turns, Begin, Then, turns_of, with_moves}
use Rattle.poll_log.proofs.Grows.{turns_of-append}
use Rattle.poll_log.proofs.Rounds.{turns_of_rounds}

-- each event came as it is
abbrev pub arrival_of : Event → Arrival
arrival_of (Given octets) = Datagram octets
arrival_of Tick = Silence

abbrev pub move_of : Event → Move
move_of e = arrival_move (arrival_of e)

abbrev pub moves_of : Turns → List Move
moves_of (Begin sent) = map sent_move sent
moves_of (Then before e sent) = moves_of before ++ move_of e ∷ map sent_move sent

-- turn by turn
abbrev rounds_of : Turns → Rounds
rounds_of (Begin sent) = Opening sent
rounds_of (Then before e sent) = Round (rounds_of before) (arrival_of e) sent None

same_moves : (h : Turns) → rounds.moves_of (rounds_of h) ≡ moves_of h
unfolding rounds.moves_of
same_moves (Begin sent) = refl
same_moves (Then h e sent) =
    ap (λ (l : List Move). l ++ move_of e ∷ (map sent_move sent ++ [])) (same_moves h) ∙ ap (λ (l : List Move). moves_of h ++ move_of e ∷ l) (append-nil (map sent_move sent))

same_event : (rest : List ℕ) (e : Event) → event_at rest (arrival_of e) ≡ e
same_event rest (Given octets) = refl
same_event rest Tick = refl

same_turns : (h : Turns) → turns_in (rounds_of h) ≡ h
unfolding turns_in
same_turns (Begin sent) = refl
same_turns (Then h e sent) =
    ap (λ (x : Event). Then (turns_in (rounds_of h)) x sent) (same_event (unfinished (rounds_of h)) e) ∙ ap (λ (x : Turns). Then x e sent) (same_turns h)

pub turns_back : (h : Turns) → turns_of (moves_of h) ≡ h
turns_back h = ap turns_of (sym (same_moves h)) ∙ turns_of_rounds (rounds_of h) ∙ same_turns h

-- more moves are more turns
pub turns_longer : (cut whole : Turns) (rest : List Move) → moves_of whole ≡ moves_of cut ++ rest → (more : List Move) × (whole ≡ with_moves cut more)
turns_longer cut whole rest e = (
  flat_behind (unfinished_behind [] (moves_of cut)) rest,
  sym (turns_back whole) ∙ ap turns_of e ∙ turns_of-append (moves_of cut) rest
      ∙ ap (λ (h : Turns). with_moves h (flat_behind (unfinished_behind [] (moves_of cut)) rest)) (turns_back cut),
)
