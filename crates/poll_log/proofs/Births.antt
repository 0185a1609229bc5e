-- Ages count from the turn of the first send.
use Rattle.std.proofs.Common.{◌≡◌, ◌+◌, Bool, true, false, cond, List, Some, refl, ◌∙◌, ap, arith}
use Rattle.pac_names.specs.Names.{Name}
use Rattle.poll_log.specs.Turns.{Outgoing, Turns, Begin, Then, Event}
use Rattle.poll_log.specs.Beats.{beats, beat_of}
use Rattle.poll_log.specs.Questions.{was_sent, before_birth}
use Rattle.poll_log.specs.Told.{age, beats_in, beats_before_birth}
use Rattle.poll_log.specs.Laws.{AgeIsSinceBirth}
use Rattle.poll_log.proofs.BeatLaws.{beats-begin, beats_more}
use Rattle.poll_log.proofs.TurnLaws.{age-begin, age_next, age_unsent}

born_then : (h : Turns) (e : Event) (sent : List Outgoing) (n : Name) → before_birth (Then h e sent) n ≡ cond (was_sent h n) (before_birth h n) (Some h)
unfolding before_birth
born_then h e sent n = refl

born_begin : (sent : List Outgoing) (n : Name) → beats_before_birth (Begin sent) n ≡ 0
unfolding before_birth
born_begin sent n = refl

pub age_since_birth : AgeIsSinceBirth
age_since_birth (Begin sent) n k = let a = age-begin sent n in (let b = beats-begin sent in (let c = born_begin sent n in omega arith))
age_since_birth (Then h e sent) n k = go (was_sent h n) refl (λ s. age_since_birth h n s)
  where
    aged : age (Then h e sent) n ≡ age h n + beat_of h e
    aged = age_next h e sent n k

    more : beats (Then h e sent) ≡ beats h + beat_of h e
    more = beats_more h e sent

    go : (b : Bool) → was_sent h n ≡ b → (was_sent h n ≡ true → beats_before_birth h n + age h n ≡ beats h) → beats_before_birth (Then h e sent) n + age (Then h e sent) n ≡ beats (Then h e sent)
    go true s ih =
        let before : beats_before_birth (Then h e sent) n ≡ beats_before_birth h n = ap beats_in (born_then h e sent n ∙ ap (λ b. cond b (before_birth h n) (Some h)) s) in
        let i : beats_before_birth h n + age h n ≡ beats h = ih s in
        let a = aged in
        let m = more in
        omega arith
    go false s ih =
        let before : beats_before_birth (Then h e sent) n ≡ beats h = ap beats_in (born_then h e sent n ∙ ap (λ b. cond b (before_birth h n) (Some h)) s) in
        let young : age h n ≡ 0 = age_unsent h n s in
        let a = aged in
        let m = more in
        omega arith
