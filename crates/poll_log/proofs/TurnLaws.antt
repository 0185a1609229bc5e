-- What the next turn adds to a log, whatever it is.
use Rattle.std.proofs.Common.{◌≡◌, ℕ, ◌+◌, ◌-◌, ◌<◌, ◌≤◌, Bool, true, false, cond, ◌&&◌, not, List, [], ◌++◌, Option, Some, None, is_none, refl, sym, ◌∙◌, ap, arith, nat_lt, nat_le, option_map}
use Rattle.std.specs.Prelude.{if◌then◌else◌, is_some}
use Rattle.std.proofs.lemmas.Bool.Decides.{nat_tests}
use Rattle.pac_names.specs.declared.answer.Answer.{Answer}
use Rattle.pac_names.specs.Names.{Name}
use Rattle.poll_log.specs.declared.question.Question.{Question}
use Rattle.poll_log.specs.declared.sending.Sending.{Sending}
use Rattle.poll_log.specs.declared.terms.Terms.{Terms}
use Rattle.poll_log.specs.Sendings.{fallen_due, limit, sending_age, sending_at}
use Rattle.poll_log.specs.Turns.{Outgoing, Turns, Begin, Then, Event, Given, Tick}
use Rattle.poll_log.specs.Beats.{beat_of, is_beat}
use Rattle.poll_log.specs.Questions.{firsts, questions, asked_in, new_among, numbered_sending, was_sent, number_in}
use Rattle.poll_log.specs.Told.{age, is_overdue, accepted, accepted_in, reply_to, told, or_else, stopped_age, due_sends}
use Rattle.poll_log.specs.Moment.{flies, sent_again}
use Rattle.poll_log.proofs.Names.{AllNew, AllNew-append, new_among-is_new, has_name-append, or-left, or-first, and-false, none_some}
use Rattle.poll_log.proofs.Sendings.{age_grows, due_number, none_due, none_fallen, one_more_due}

pub firsts-then : (h : Turns) (e : Event) (sent : List Outgoing) → firsts (Then h e sent) ≡ firsts h ++ new_among (firsts h) (asked_in sent)
unfolding firsts
firsts-then h e sent = refl

pub firsts-begin : (sent : List Outgoing) → firsts (Begin sent) ≡ new_among [] (asked_in sent)
unfolding firsts
firsts-begin sent = refl

pub questions-then : (h : Turns) (e : Event) (sent : List Outgoing) → questions (Then h e sent) ≡ questions h ++ asked_in sent
unfolding questions
questions-then h e sent = refl

pub questions-begin : (sent : List Outgoing) → questions (Begin sent) ≡ asked_in sent
unfolding questions
questions-begin sent = refl

-- the first sends are of distinct names
pub distinct : (h : Turns) → AllNew [] (firsts h)
unfolding firsts
distinct (Begin sent) = new_among-is_new [] (asked_in sent)
distinct (Then h e sent) = AllNew-append [] (firsts h) (new_among (firsts h) (asked_in sent)) (distinct h) (new_among-is_new (firsts h) (asked_in sent))

-- what was not sent by now was not sent before
pub unsent_before : (h : Turns) (e : Event) (sent : List Outgoing) (n : Name) → was_sent (Then h e sent) n ≡ false → was_sent h n ≡ false
unfolding firsts
unsent_before h e sent n k = or-left _ _ (sym (has_name-append n (firsts h) (new_among (firsts h) (asked_in sent))) ∙ k)

-- what was sent before was sent by now
pub sent_before : (h : Turns) (e : Event) (sent : List Outgoing) (n : Name) → was_sent h n ≡ true → was_sent (Then h e sent) n ≡ true
unfolding firsts
sent_before h e sent n k = has_name-append n (firsts h) (new_among (firsts h) (asked_in sent)) ∙ or-first _ _ k

pub accepted_unsent : (t : Terms) (h : Turns) (e : Event) (n : Name) → was_sent h n ≡ false → accepted t h e n ≡ None
unfolding accepted accepted_in
accepted_unsent t h Tick n k = refl
accepted_unsent t h (Given d) n k = ap (λ b. cond (b && not (nat_le (limit t) (age h n))) (reply_to (number_in (firsts h) n) d n) None) k

-- what was not sent is not told
pub told_unsent : (t : Terms) (h : Turns) (n : Name) → was_sent h n ≡ false → told t h n ≡ None
unfolding told
told_unsent t (Begin sent) n k = refl
told_unsent t (Then h e sent) n k =
    let f = unsent_before h e sent n k in
    ap (λ r. or_else r (accepted t h e n)) (told_unsent t h n f) ∙ accepted_unsent t h e n f

-- and has no age
pub age_unsent : (h : Turns) (n : Name) → was_sent h n ≡ false → age h n ≡ 0
unfolding age
age_unsent (Begin sent) n k = refl
age_unsent (Then h e sent) n k = ap (λ b. cond b (age h n + beat_of h e) 0) k

pub age-begin : (sent : List Outgoing) (n : Name) → age (Begin sent) n ≡ 0
unfolding age
age-begin sent n = refl

-- a name that was sent by the turn's end is older by the event
pub age_next : (h : Turns) (e : Event) (sent : List Outgoing) (n : Name) → was_sent (Then h e sent) n ≡ true → age (Then h e sent) n ≡ age h n + beat_of h e
unfolding age
age_next h e sent n k = ap (λ b. cond b (age h n + beat_of h e) 0) k

pub told-begin : (t : Terms) (sent : List Outgoing) (n : Name) → told t (Begin sent) n ≡ None
unfolding told
told-begin t sent n = refl

pub told_next : (t : Terms) (h : Turns) (e : Event) (sent : List Outgoing) (n : Name) → told t (Then h e sent) n ≡ or_else (told t h n) (accepted t h e n)
unfolding told
told_next t h e sent n = refl

-- what is told in a turn doesn't depend on its sends
pub told_by_event : (t : Terms) (h : Turns) (e : Event) (sent other : List Outgoing) → told t (Then h e sent) ≡ told t (Then h e other)
unfolding told
told_by_event t h e sent other = refl

-- an answer stays
pub told_stays : (t : Terms) (h : Turns) (e : Event) (sent : List Outgoing) (n : Name) (x : Answer) → told t h n ≡ Some x → told t (Then h e sent) n ≡ Some x
unfolding told
told_stays t h e sent n x k = ap (λ r. or_else r (accepted t h e n)) k

pub stopped_untold : (t : Terms) (h : Turns) (n : Name) → told t h n ≡ None → stopped_age t h n ≡ age h n
unfolding stopped_age age
stopped_untold t (Begin sent) n k = refl
stopped_untold t (Then h e sent) n k = ap (λ r. cond (is_none r) (age (Then h e sent) n) (cond (is_none (told t h n)) (age h n) (stopped_age t h n))) k

-- an accepted reply was in time
pub accepted_young : (t : Terms) (h : Turns) (e : Event) (n : Name) (x : Answer) → accepted t h e n ≡ Some x → age h n < limit t
unfolding accepted accepted_in
accepted_young t h Tick n x k = none_some x k
accepted_young t h (Given d) n x k = go (was_sent h n) (nat_le (limit t) (age h n)) refl (reply_to (number_in (firsts h) n) d n) k
  where
    low : nat_le (limit t) (age h n) ≡ false → age h n < limit t
    low f = grind (arith, nat_tests)

    go : (b c : Bool) → nat_le (limit t) (age h n) ≡ c → (r : Option Answer) → cond (b && not c) r None ≡ Some x → age h n < limit t
    go true true f r k = none_some x k
    go true false f r k = low f
    go false c f r k = none_some x k

-- an overdue name is not answered any more
pub accepted_overdue : (t : Terms) (h : Turns) (e : Event) (n : Name) → is_overdue t h n ≡ true → accepted t h e n ≡ None
unfolding accepted accepted_in
accepted_overdue t h Tick n k = refl
accepted_overdue t h (Given d) n k = ap (λ b. cond (was_sent h n && not b) (reply_to (number_in (firsts h) n) d n) None) k ∙ ap (λ b. cond b (reply_to (number_in (firsts h) n) d n) None) (and-false (was_sent h n))

-- the sending of the question that falls due with the event, if one does
abbrev pub falls_due : Terms → Turns → Event → Question → Option Sending
falls_due t h e q = if is_beat h e then sent_again t (told t (Then h e [])) (λ m. age h m + 1) q else None

-- whether one falls due for the name
abbrev pub falls_at : Terms → Turns → Event → Name → Bool
falls_at t h e n = is_beat h e && (flies (limit t) (told t (Then h e [])) (λ m. age h m + 1) n && is_some (sending_at t (age h n + 1)))

module _ (t : Terms) (w : 0 < t.wait) (r : 0 < t.tries) where
  -- at the limit no sending falls due
  pub late_none : (a : ℕ) → limit t ≤ a → sending_at t a ≡ None
  late_none a k =
      let m : ℕ = t.tries - 1 in
      let low : sending_age t.wait m < sending_age t.wait (m + 1) = age_grows t.wait m w in
      let last : sending_age t.wait (m + 1) ≡ limit t = ap (sending_age t.wait) (omega arith) in
      none_due t.wait m a w (omega arith)

  -- what a name is due rises by one where a sending falls due
  pub due_next : (h : Turns) (e : Event) (sent : List Outgoing) (n : Name) → was_sent (Then h e sent) n ≡ true → due_sends t (Then h e sent) n ≡ due_sends t h n + cond (falls_at t h e n) 1 0
  unfolding due_sends stopped_age told
  due_next h e sent n s = go (told t h n) refl (accepted t h e n) refl
    where
      m : ℕ
      m = t.tries - 1

      older_by : age (Then h e sent) n ≡ age h n + beat_of h e
      older_by = age_next h e sent n s

      counts : Bool → ℕ
      counts b = cond b 1 0

      flying : (b : Bool) → nat_lt (age h n + 1) (limit t) ≡ b → counts (is_some (sending_at t (age h n + 1))) ≡ counts (b && is_some (sending_at t (age h n + 1)))
      flying true k = refl
      flying false k = ap (λ x. counts (is_some x)) (late_none (age h n + 1) (grind (arith, nat_tests)))

      beat : (b : Bool) → is_beat h e ≡ b → fallen_due t.wait m (age h n + cond b 1 0) + 1 ≡ fallen_due t.wait m (age h n) + 1 + cond (b && (nat_lt (age h n + 1) (limit t) && is_some (sending_at t (age h n + 1)))) 1 0
      beat true i =
          let more = one_more_due t.wait m (age h n) w in
          let flies = flying (nat_lt (age h n + 1) (limit t)) refl in
          omega arith
      beat false i = ap (λ x. fallen_due t.wait m x + 1) (let z : age h n + 0 ≡ age h n = omega arith in z) ∙ (omega arith)

      go : (x : Option Answer) → told t h n ≡ x → (y : Option Answer) → accepted t h e n ≡ y → fallen_due t.wait m (cond (is_none (or_else x y)) (age (Then h e sent) n) (cond (is_none x) (age h n) (stopped_age t h n))) + 1 ≡ fallen_due t.wait m (stopped_age t h n) + 1 + cond (is_beat h e && ((is_none (or_else x y) && nat_lt (age h n + 1) (limit t)) && is_some (sending_at t (age h n + 1)))) 1 0
      go (Some x) i y j = rw (and-false (is_beat h e)) (omega arith)
      go None i (Some y) j = rw (and-false (is_beat h e)) (ap (λ x. fallen_due t.wait m x + 1) (sym (stopped_untold t h n i)) ∙ (omega arith))
      go None i None j = ap (λ x. fallen_due t.wait m x + 1) older_by ∙ beat (is_beat h e) refl ∙ ap (λ x. fallen_due t.wait m x + 1 + cond (is_beat h e && (nat_lt (age h n + 1) (limit t) && is_some (sending_at t (age h n + 1)))) 1 0) (sym (stopped_untold t h n i))

  -- the number of the sending that falls due is how many were due before
  pub falls_numbered : (h : Turns) (e : Event) (q : Question) (s : Sending) → falls_due t h e q ≡ Some s → s ≡ numbered_sending q (due_sends t h q.name)
  unfolding due_sends told
  falls_numbered h e q s k = by_beat (is_beat h e) k
    where
      n : Name
      n = q.name

      a : ℕ
      a = age h n + 1

      by_number : told t h n ≡ None → (r : Option ℕ) → sending_at t a ≡ r → option_map (numbered_sending q) r ≡ Some s → s ≡ numbered_sending q (due_sends t h n)
      by_number u None f k = none_some s k
      by_number u (Some j) f k =
          let number : fallen_due t.wait (t.tries - 1) (age h n) + 1 ≡ j = due_number t.wait (t.tries - 1) (age h n) j w f in
          let due : fallen_due t.wait (t.tries - 1) (stopped_age t h n) + 1 ≡ j = ap (λ x. fallen_due t.wait (t.tries - 1) x + 1) (stopped_untold t h n u) ∙ number in
          let it : numbered_sending q j ≡ s = cc in
          sym it ∙ ap (numbered_sending q) (sym due)

      by_told : (x : Option Answer) → told t h n ≡ x → (y : Option Answer) → (c : Bool) → cond (is_none (or_else x y) && c) (option_map (numbered_sending q) (sending_at t a)) None ≡ Some s → s ≡ numbered_sending q (due_sends t h n)
      by_told (Some x) u y c k = none_some s k
      by_told None u (Some y) c k = none_some s k
      by_told None u None false k = none_some s k
      by_told None u None true k = by_number u (sending_at t a) refl k

      by_beat : (b : Bool) → cond b (cond (is_none (or_else (told t h n) (accepted t h e n)) && nat_lt a (limit t)) (option_map (numbered_sending q) (sending_at t a)) None) None ≡ Some s → s ≡ numbered_sending q (due_sends t h n)
      by_beat true k = by_told (told t h n) refl (accepted t h e n) (nat_lt a (limit t)) k
      by_beat false k = none_some s k

  pub due_unsent : (h : Turns) (n : Name) → was_sent h n ≡ false → due_sends t h n ≡ 1
  unfolding due_sends
  due_unsent h n k = ap (λ x. fallen_due t.wait (t.tries - 1) x + 1) (stopped_untold t h n (told_unsent t h n k) ∙ age_unsent h n k) ∙ ap (λ x. x + 1) (none_fallen t.wait (t.tries - 1) w)

  pub due_begin : (sent : List Outgoing) (n : Name) → due_sends t (Begin sent) n ≡ 1
  unfolding due_sends stopped_age
  due_begin sent n = ap (λ x. x + 1) (none_fallen t.wait (t.tries - 1) w)
