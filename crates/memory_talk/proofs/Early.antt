-- While fewer beats passed than a name waits, nothing is sent again and nothing is overdue.
use Rattle.std.proofs.Common.{◌≡◌, ℕ, zero, suc, ◌+◌, ◌-◌, ◌*◌, ◌/◌, ◌^◌, ◌<◌, ◌≤◌, Bool, true, false, cond, ◌&&◌, List, [], ◌∷◌, length, Option, Some, None, refl, ◌∙◌, ap, arith}
use Rattle.std.specs.Prelude.{is_some}
use Rattle.std.proofs.lemmas.Bool.{ne_eqb}
use Rattle.std.proofs.lemmas.Nat.{pow_below}
use Rattle.std.proofs.Math.Nat.{mul-le-mul_left}
use Rattle.pac_names.specs.Names.{Name}
use Rattle.js_host.specs.Answers.{AnswerMap}
use Rattle.poll_log.specs.declared.terms.TheConstants.{FLOOD}
use Rattle.poll_log.specs.declared.terms.Terms.{Terms}
use Rattle.poll_log.specs.Turns.{Turns, Then, Given}
use Rattle.poll_log.specs.Beats.{beats, floods, is_beat, one_more, stretches, ticks}
use Rattle.poll_log.specs.Moment.{flies}
use Rattle.poll_log.specs.Questions.{was_sent}
use Rattle.poll_log.specs.Sendings.{limit, sending_age, sending_among, sending_at}
use Rattle.poll_log.specs.Told.{age, told}
use Rattle.poll_log.proofs.BeatLaws.{beats_more}
use Rattle.poll_log.proofs.Births.{age_since_birth}
use Rattle.poll_log.proofs.Names.{and-false}
use Rattle.poll_log.proofs.TurnLaws.{age_unsent, falls_at}
use Rattle.memory_talk.proofs.Prompt.{IsPrompt}

-- each sending behind the first falls due at one wait or later
at_a_wait : (wait number : ℕ) → 0 < number → wait ≤ sending_age wait number
at_a_wait wait number low =
    let doubled : 2 ^ 0 < 2 ^ number = pow_below 0 number low in
    let one : 1 ≤ 2 ^ number - 1 = omega (arith, doubled) in
    let more : wait * 1 ≤ wait * (2 ^ number - 1) = mul-le-mul_left wait one in
    omega (arith, more)

none_among : (wait m age : ℕ) → age < wait → sending_among wait m age ≡ None
none_among wait zero age low = refl
none_among wait (suc m) age low =
    let late = at_a_wait wait (m + 1) (omega arith) in
    ap (λ (b : Bool). cond b (Some (m + 1)) (sending_among wait m age)) (ne_eqb (sending_age wait (m + 1)) age (λ e. omega (arith, late, low, e)))
    ∙ none_among wait m age low

aged : (h : Turns) (n : Name) → age h n ≤ beats h
aged h n = go (was_sent h n) refl
  where
    go : (b : Bool) → was_sent h n ≡ b → age h n ≤ beats h
    go true k = let since = age_since_birth h n k in omega (arith, since)
    go false k = let young = age_unsent h n k in omega (arith, young)

module _ (answers : AnswerMap) (t : Terms) (h : Turns) (p : IsPrompt answers t h) where
  beats_now : beats h ≡ length p.done / FLOOD
  unfolding beats
  beats_now = ap (λ (gs : List ℕ). ticks h + floods gs) p.stretch ∙ ap (λ (n : ℕ). n + floods (length p.done ∷ [])) p.unticked ∙ (omega arith)

  beats_next : (d : List ℕ) → beats (Then h (Given d) []) ≡ (length p.done + 1) / FLOOD
  unfolding beats ticks stretches
  beats_next d =
      ap (λ (gs : List ℕ). ticks h + floods (one_more gs)) p.stretch ∙ ap (λ (n : ℕ). n + floods ((length p.done + 1) ∷ [])) p.unticked ∙ (omega arith)

  pub all_young : length p.done < FLOOD * t.wait → 0 < t.tries → (n : Name) → age h n < limit t
  all_young low tried n =
      let old = aged h n in
      let now = beats_now in
      let late : t.wait ≤ limit t = at_a_wait t.wait t.tries tried in
      omega (arith, old, now, late)

  pub none_falls : (d : List ℕ) → length p.done + 1 < FLOOD * t.wait → (n : Name) → falls_at t h (Given d) n ≡ false
  none_falls d low n = go (is_beat h (Given d)) refl
    where
      in_flight : Bool
      in_flight = flies (limit t) (told t (Then h (Given d) [])) (λ (m : Name). age h m + 1) n

      go : (b : Bool) → is_beat h (Given d) ≡ b → (b && (in_flight && is_some (sending_at t (age h n + 1)))) ≡ false
      go false k = refl
      go true k =
          let more : beats (Then h (Given d) []) ≡ beats h + 1 = beats_more h (Given d) [] ∙ ap (λ (b : Bool). beats h + cond b 1 0) k in
          let next = beats_next d in
          let old = aged h n in
          let below : age h n + 1 < t.wait = omega (arith, more, next, old, low) in
          ap (λ (r : Option ℕ). in_flight && is_some r) (none_among t.wait (t.tries - 1) (age h n + 1) below) ∙ and-false in_flight
