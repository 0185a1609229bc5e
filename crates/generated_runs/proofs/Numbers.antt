-- A log sends no more names than it has moves, and counting dice count them.
use Rattle.std.proofs.Common.{◌≡◌, ℕ, suc, ◌+◌, ◌<◌, ◌≤◌, Bool, true, false, List, [], ◌∷◌, ◌++◌, length, Option, Some, None, ap, subst, arith}
use Rattle.std.proofs.lemmas.List.{length-append, length-map}
use Rattle.std.specs.List.{cons_option}
use Rattle.pac_ports.specs.Dice.{DiceTold, Gave}
use Rattle.pac_ports.specs.Faults.{last_count, raised}
use Rattle.pac_ports.specs.declared.link.Move.{Move}
use Rattle.pac_ports.specs.declared.link.Move.TheVariants as move
use Rattle.poll_log.specs.declared.question.Question.{Question}
use Rattle.poll_log.specs.Flat.{flat, flat_behind, frames_behind}
use Rattle.poll_log.specs.Turns.{Outgoing, Turns, Begin, Then, turns_of, with_move, with_moves}
use Rattle.poll_log.specs.Questions.{asked_by, asked_in, drawn, firsts, has_name, new_among, onto_unless}
use Rattle.poll_loop.specs.Numbers.{GaveAll}
use Rattle.memory_talk.specs.Numbers.{counted}

-- ---- names among the moves

-- how many datagrams were sent
abbrev sent_count : Turns → ℕ
sent_count (Begin sent) = length sent
sent_count (Then before event sent) = sent_count before + length sent

asked_few : (sent : List Outgoing) → length (asked_in sent) ≤ length sent
asked_few [] = omega arith
asked_few (d ∷ sent) = go (asked_by d.octets) (asked_few sent)
  where
    go : (q : Option Question) → length (asked_in sent) ≤ length sent → length (cons_option q (asked_in sent)) ≤ suc (length sent)
    go None h = omega (arith, h)
    go (Some q) h = omega (arith, h)

new_few : (seen qs : List Question) → length (new_among seen qs) ≤ length qs
unfolding new_among
new_few seen [] = omega arith
new_few seen (q ∷ qs) = go (has_name q.name seen) (new_few seen qs) (new_few (seen ++ q ∷ []) qs)
  where
    go : (b : Bool) → length (new_among seen qs) ≤ length qs → length (new_among (seen ++ q ∷ []) qs) ≤ length qs
        → length (onto_unless b q (new_among seen qs) (new_among (seen ++ q ∷ []) qs)) ≤ suc (length qs)
    go true h k = omega (arith, h)
    go false h k = omega (arith, k)

firsts_few : (turns : Turns) → length (firsts turns) ≤ sent_count turns
unfolding firsts
firsts_few (Begin sent) = let one = new_few [] (asked_in sent) in let two = asked_few sent in omega (arith, one, two)
firsts_few (Then before event sent) =
    let rest = firsts_few before in
    let one = new_few (firsts before) (asked_in sent) in
    let two = asked_few sent in
    let all = length-append (firsts before) (new_among (firsts before) (asked_in sent)) in
    omega (arith, rest, one, two, all)

move_few : (turns : Turns) (m : Move) → sent_count (with_move turns m) ≤ sent_count turns + 1
move_few (Begin sent) (move.Sent to octets) = let all = length-append sent (record { to = to; octets = octets } ∷ []) in omega (arith, all)
move_few (Then before event sent) (move.Sent to octets) = let all = length-append sent (record { to = to; octets = octets } ∷ []) in omega (arith, all)
move_few turns (move.Given octets) = omega arith
move_few turns move.Tick = omega arith
move_few turns (move.StreamSent octets) = omega arith
move_few turns (move.StreamFailed octets) = omega arith
move_few turns (move.Piece octets) = omega arith
move_few turns move.StreamEnd = omega arith

moves_few : (turns : Turns) (moves : List Move) → sent_count (with_moves turns moves) ≤ sent_count turns + length moves
unfolding with_moves
moves_few turns [] = omega arith
moves_few turns (m ∷ moves) =
    let rest = moves_few (with_move turns m) moves in
    let one = move_few turns m in
    omega (arith, rest, one)

-- as if all had come as datagrams there are no more moves
flat_few : (rest : List ℕ) (moves : List Move) → length (flat_behind rest moves) ≤ length moves
unfolding flat_behind
flat_few rest [] = omega arith
flat_few rest (move.Sent to octets ∷ moves) = let few = flat_few rest moves in omega (arith, few)
flat_few rest (move.Given octets ∷ moves) = let few = flat_few rest moves in omega (arith, few)
flat_few rest (move.Tick ∷ moves) = let few = flat_few rest moves in omega (arith, few)
flat_few rest (move.StreamSent octets ∷ moves) = let few = flat_few rest moves in omega (arith, few)
flat_few rest (move.StreamFailed octets ∷ moves) = let few = flat_few [] moves in omega (arith, few)
flat_few rest (move.Piece octets ∷ moves) = let few = flat_few (frames_behind rest octets).rest moves in omega (arith, few)
flat_few rest (move.StreamEnd ∷ moves) = let few = flat_few [] moves in omega (arith, few)

pub names_few : (log : List Move) → length (firsts (turns_of log)) ≤ length log
names_few log =
    let one = firsts_few (turns_of log) in
    let two = moves_few (Begin []) (flat log) in
    let three = flat_few [] log in
    omega (arith, one, two, three)

-- ---- numbers of dice

-- a count rises by one at most
rises : (old : DiceTold) (number : ℕ) (new : DiceTold) → Gave (Some old) number (Some new) → new.count ≤ old.count + 1
rises old number new gave = let up : new.count ≡ raised old.count = gave.counted in omega (arith, up)

given_few : (numbers : List ℕ) (old new : DiceTold) → GaveAll (Some old) numbers (Some new) → new.count ≤ old.count + length numbers
given_few [] old new gave =
    let told : Some new ≡ Some old = gave in
    let same : new ≡ old = cc in
    let count : new.count ≡ old.count = ap (λ (d : DiceTold). d.count) same in
    omega (arith, count)
given_few (number ∷ numbers) old new gave = go gave.0 gave.1 gave.2 (λ mid rest. given_few numbers mid new rest)
  where
    go : (mid : Option DiceTold) → Gave (Some old) number mid → GaveAll mid numbers (Some new) → ((x : DiceTold) → GaveAll (Some x) numbers (Some new) → new.count ≤ x.count + length numbers)
        → new.count ≤ old.count + suc (length numbers)
    go None one rest more = absurd one
    go (Some mid) one rest more =
        let low = more mid rest in
        let step = rises old number mid one in
        omega (arith, low, step)

-- dice that gave none, and then numbers for the names of a log, are below their last count
pub below_last : (log : List Move) (room n : ℕ) (old new : Option DiceTold) → old ≡ Some (counted 0) → new ≡ Some (counted n) → GaveAll old (drawn (turns_of log)) new
    → length log ≤ room → room < last_count → n < last_count
below_last log room n old new e f gave fits low =
    let from : GaveAll (Some (counted 0)) (drawn (turns_of log)) new = subst (λ (d : Option DiceTold). GaveAll d (drawn (turns_of log)) new) e gave in
    let all : GaveAll (Some (counted 0)) (drawn (turns_of log)) (Some (counted n)) = subst (λ (d : Option DiceTold). GaveAll (Some (counted 0)) (drawn (turns_of log)) d) f from in
    let count : n ≤ 0 + length (drawn (turns_of log)) = given_few (drawn (turns_of log)) (counted 0) (counted n) all in
    let same = length-map (firsts (turns_of log)) (λ (q : Question). q.id) in
    let few = names_few log in
    omega (arith, count, same, few, fits, low)
