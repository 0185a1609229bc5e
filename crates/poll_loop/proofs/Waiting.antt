-- While something that is owed is still to be sent, some job waits.
use Rattle.std.proofs.Common.{◌≡◌, ℕ, zero, suc, ◌+◌, ◌<◌, ◌≤◌, Bool, true, false, cond, ◌||◌, ◌&&◌, not, List, [], ◌∷◌, ◌++◌, take, length, nat_lt, Option, Some, None, is_none, ◌⊎◌, inl, inr, refl, sym, ◌∙◌, ap, subst, arith, append_assoc, nat_le}
use Rattle.std.specs.List.{All, cons_option, filter, list_any}
use Rattle.std.proofs.lemmas.Bool.Decides.{nat_tests}
use Rattle.std.proofs.lemmas.List.{append-nil}
use Rattle.std.proofs.lemmas.List.Elements.{All-nil, All-take}
use Rattle.pac_names.specs.declared.answer.Answer.{Answer}
use Rattle.poll_log.specs.declared.question.Question.{Question}
use Rattle.poll_log.specs.declared.terms.Terms.{Terms}
use Rattle.poll_log.specs.Turns.{Outgoing, Turns, Begin, Then, Event}
use Rattle.poll_log.specs.Beats.{is_beat}
use Rattle.poll_log.specs.Questions.{IsQuestion, asked_in, outgoing_from, firsts, questions, new_among, has_name, was_sent}
use Rattle.poll_log.specs.Sendings.{limit}
use Rattle.poll_log.specs.Told.{Map, told, age, is_dead, due_sends}
use Rattle.poll_log.specs.Jobs.{IsOwed, Job, SendsOwed, some_wait, waits_unless, wanted}
use Rattle.poll_log.specs.Laws.{IsRestartable}
use Rattle.poll_log.proofs.Names.{AllNew, has, new_among-new, or-first, or-second, same_is, same_itself, true_false}
use Rattle.poll_log.proofs.Asking.{asked_in-outgoing}
use Rattle.poll_log.proofs.Outgoing.{length-outgoing, take-outgoing}
use Rattle.poll_log.proofs.Counts.{seen_here}
use mathlib.Core.Path.{fun_ext}
use Rattle.poll_log.proofs.Bounds.{alive_if_young}
use Rattle.poll_log.proofs.Wanted.{fresh_wanted, sent_wanted}
use Rattle.poll_log.proofs.Dues.{again_are, all_proper, firsts_next, firsts_proper, fresh_new, sent_as_due}
use Rattle.poll_log.proofs.TurnLaws.{age_next, age_unsent, due_begin, due_next, due_unsent, falls_at, firsts-begin, firsts-then, told_by_event, told-begin}
use Rattle.pac_names.specs.declared.limits.TheConstants.{MOST_NAMES}
use Rattle.pac_names.specs.Comparing.{same_name}
use Rattle.pac_names.specs.Names.{Name}

-- What is wanted.
module _ (M : Map) (dead : Name → Bool) (n : Name) (alive : dead n ≡ false) where
  some_wants : (jobs : List Job) → has n (wanted jobs M) ≡ true → list_any (λ job. waits_unless dead (job M)) jobs ≡ true
  some_wants [] h = true_false (sym h)
  some_wants (job ∷ jobs) h = go (job M) (λ k. some_wants jobs k) h
    where
      go : (r : Option Name) → (has n (wanted jobs M) ≡ true → list_any (λ job. waits_unless dead (job M)) jobs ≡ true) → has n (cons_option r (wanted jobs M)) ≡ true → (waits_unless dead r || list_any (λ job. waits_unless dead (job M)) jobs) ≡ true
      go None ih h = ih h
      go (Some m) ih h = same (same_name m n) refl h
        where
          same : (b : Bool) → same_name m n ≡ b → (b || has n (wanted jobs M)) ≡ true → (not (dead m) || list_any (λ job. waits_unless dead (job M)) jobs) ≡ true
          same true e h = or-first _ _ (ap (λ x. not (dead x)) (same_is m n e) ∙ ap not alive)
          same false e h = or-second _ _ (ih h)

-- The place of what is not sent yet.
record Place (qs : List Question) (k : ℕ) : Type 0 where
  pub next : Question
  pub rest : List Question
  pub parts : qs ≡ take k qs ++ next ∷ rest

place : (qs : List Question) (k : ℕ) → k < length qs → Place qs k
place [] k low = absurd (omega arith)
place (q ∷ qs) zero low = record { next = q; rest = qs; parts = refl }
place (q ∷ qs) (suc k) low = let p = place qs k (omega arith) in record { next = p.next; rest = p.rest; parts = ap (λ l. q ∷ l) p.parts }

front_new : (seen pre post : List Question) (q : Question) → AllNew seen (pre ++ q ∷ post) → AllNew seen pre × (has_name q.name (seen ++ pre) ≡ false)
front_new seen [] post q h = (tt, ap (has_name q.name) (append-nil seen) ∙ h.0)
front_new seen (p ∷ pre) post q h =
    let r = front_new (seen ++ p ∷ []) pre post q h.1 in
    ((h.0, r.0), ap (has_name q.name) (sym (append_assoc seen (p ∷ []) pre)) ∙ r.1)

-- it is new, or one of those that are sent again
module _ (p : Question → Bool) where
  in_filter : (F pre post : List Question) (q : Question) → filter p F ≡ pre ++ q ∷ post → (p q ≡ true) × (has_name q.name F ≡ true)
  in_filter [] [] post q e = cc
  in_filter [] (x ∷ pre) post q e = cc
  in_filter (f ∷ F) pre post q e = go (p f) refl (λ pre k. in_filter F pre post q k) pre e
    where
      go : (b : Bool) → p f ≡ b → ((pre : List Question) → filter p F ≡ pre ++ q ∷ post → (p q ≡ true) × (has_name q.name F ≡ true)) → (pre : List Question) → cond b (f ∷ filter p F) (filter p F) ≡ pre ++ q ∷ post → (p q ≡ true) × ((same_name f.name q.name || has_name q.name F) ≡ true)
      go true k ih [] e =
          let same : f ≡ q = cc in
          (ap p (sym same) ∙ k, or-first _ _ (ap (λ x. same_name x.name q.name) same ∙ same_itself q.name))
      go true k ih (x ∷ pre) e = let r = ih pre (cc) in (r.0, or-second _ _ r.1)
      go false k ih pre e = let r = ih pre e in (r.0, or-second _ _ r.1)

record IsNew (fresh pre : List Question) (q : Question) : Type 0 where
  pub post : List Question
  pub parts : fresh ≡ pre ++ q ∷ post

record IsAgain (fresh again pre : List Question) (q : Question) : Type 0 where
  pub front : List Question
  pub back : List Question
  pub parts : again ≡ front ++ q ∷ back

new_or_again : (fresh again pre rest : List Question) (q : Question) → fresh ++ again ≡ pre ++ q ∷ rest → IsNew fresh pre q ⊎ IsAgain fresh again pre q
new_or_again [] again pre rest q e = inr (record { front = pre; back = rest; parts = e })
new_or_again (f ∷ fresh) again [] rest q e = inl (record { post = fresh; parts = cc })
new_or_again (f ∷ fresh) again (p ∷ pre) rest q e =
    let head : f ≡ p = cc in
    let tail : fresh ++ again ≡ pre ++ q ∷ rest = cc in
    elim (new_or_again fresh again pre rest q tail) [
      | inl n ↦ inl (record { post = n.post; parts = ap (λ x. x ∷ fresh) head ∙ ap (λ l. p ∷ l) n.parts })
      | inr a ↦ inr (record { front = a.front; back = a.back; parts = a.parts })
    ]

unsent_alive : (t : Terms) (h : Turns) (n : Name) → was_sent h n ≡ false → is_dead t h n ≡ false
unfolding is_dead
unsent_alive t h n k = ap (λ b. (b && is_none (told t h n)) && nat_le (limit t) (age h n)) k

-- What is to be sent next, where the first k of these sends were sent.
record Unsent (earlier fresh again : List Question) (sent : List Outgoing) (k : ℕ) : Type 0 where
  pub next : Question
  pub kind : IsNew fresh (take k (fresh ++ again)) next ⊎ IsAgain fresh again (take k (fresh ++ again)) next
  pub part : take k sent ≡ outgoing_from earlier (take k (fresh ++ again))

unsent : (earlier fresh again : List Question) (sent : List Outgoing) (k : ℕ) → sent ≡ outgoing_from earlier (fresh ++ again) → k < length sent → Unsent earlier fresh again sent k
unsent earlier fresh again sent k e low =
    let all : length sent ≡ length (fresh ++ again) = ap length e ∙ length-outgoing earlier (fresh ++ again) in
    let p = place (fresh ++ again) k (omega arith) in
    record {
      next = p.next;
      kind = new_or_again fresh again (take k (fresh ++ again)) p.rest p.next p.parts;
      part = ap (take k) e ∙ take-outgoing k earlier (fresh ++ again);
    }

-- a new question of which only those before it were sent
module _ (t : Terms) (earlier before fresh : List Question) (new : AllNew before fresh) (turns : Turns) where
  new_alive : (q : Question) (pre : List Question) → IsNew fresh pre q → All IsQuestion pre → firsts turns ≡ before ++ new_among before (asked_in (outgoing_from earlier pre)) → is_dead t turns q.name ≡ false
  new_alive q pre n proper f =
      let r = front_new before pre n.post q (subst (AllNew before) n.parts new) in
      unsent_alive t turns q.name
      (ap (has_name q.name) (f ∙ ap (λ l. before ++ new_among before l) (asked_in-outgoing earlier pre proper) ∙ ap (λ l. before ++ l) (ap (new_among before) (sym (append-nil pre)) ∙ new_among-new before pre [] r.0 tt)) ∙ r.1)

-- Something is still to be sent in a later turn.
module _ (t : Terms) (jobs : List Job) (w : 0 < t.wait) (r : 0 < t.tries) (laws : All (IsRestartable MOST_NAMES) jobs) where
  module _ (h : Turns) (e : Event) (sent : List Outgoing) (o : SendsOwed t jobs h) (now : IsOwed t jobs (questions h) (firsts h) (Then h e sent) sent) where
    falling : now.again ≡ filter (λ q. falls_at t h e q.name) (firsts h ++ now.fresh)
    falling =
        now.repeats
        ∙ again_are t (questions h) (firsts h) now.fresh (Then h e sent) (fresh_new t jobs (questions h) (firsts h) (Then h e sent) sent now (firsts_proper t jobs h o)) (due_sends t h) (falls_at t h e) (sent_as_due t jobs w r h o) (due_unsent t w r h) (λ m k. due_next t w r h e sent m (ap (has_name m) (firsts_next t jobs h e sent o now) ∙ k))

    parts_true : (a b c d : Bool) → (a && ((b && c) && d)) ≡ true → (b ≡ true) × (c ≡ true)
    parts_true true true true d e = (refl, refl)
    parts_true true true false d e = true_false (sym e)
    parts_true true false c d e = true_false (sym e)
    parts_true false b c d e = true_false (sym e)

    below : (x y : ℕ) → nat_lt x y ≡ true → x < y
    below x y e = grind (arith, nat_tests)

    none_is : (x : Option Answer) → is_none x ≡ true → x ≡ None
    none_is None e = refl
    none_is (Some x) e = true_false (sym e)

    aged_at_most : (part : List Outgoing) (n : Name) → age (Then h e part) n ≤ age h n + 1
    aged_at_most part n = go (was_sent (Then h e part) n) refl
      where
        beat_at_most : (b : Bool) → cond b 1 0 ≤ 1
        beat_at_most true = omega arith
        beat_at_most false = omega arith

        go : (b : Bool) → was_sent (Then h e part) n ≡ b → age (Then h e part) n ≤ age h n + 1
        go true k = let a = age_next h e part n k in (let m = beat_at_most (is_beat h e) in omega arith)
        go false k = let a = age_unsent (Then h e part) n k in omega arith

    pub waits_then : (k : ℕ) → k < length sent → some_wait t jobs (Then h e (take k sent)) ≡ true
    waits_then k low = go p.kind
      where
        qs : List Question
        qs = now.fresh ++ now.again

        p : Unsent (questions h) now.fresh now.again sent k
        p = unsent (questions h) now.fresh now.again sent k now.out low

        n : Name
        n = p.next.name

        T : Turns
        T = Then h e (take k sent)

        proper : All IsQuestion (firsts h)
        proper = firsts_proper t jobs h o

        waiting : is_dead t T n ≡ false → has n (wanted jobs (told t (Then h e sent))) ≡ true → some_wait t jobs T ≡ true
        waiting alive wants = some_wants (told t T) (is_dead t T) n alive jobs (ap (λ M. has n (wanted jobs M)) (told_by_event t h e (take k sent) sent) ∙ wants)

        go : IsNew now.fresh (take k qs) p.next ⊎ IsAgain now.fresh now.again (take k qs) p.next → some_wait t jobs T ≡ true
        go (inl new) =
            waiting
            (new_alive t (questions h) (firsts h) now.fresh (fresh_new t jobs (questions h) (firsts h) (Then h e sent) sent now proper) T p.next (take k qs) new
            (All-take IsQuestion k qs (all_proper t jobs (questions h) (firsts h) (Then h e sent) sent now proper)) (firsts-then h e (take k sent) ∙ ap (λ l. firsts h ++ new_among (firsts h) (asked_in l)) p.part))
            (fresh_wanted jobs (firsts h) now.fresh (told t (Then h e sent)) n now.asks (ap (has_name n) new.parts ∙ seen_here (take k qs) p.next new.post))
        go (inr again) =
            let found = in_filter (λ q. falls_at t h e q.name) (firsts h ++ now.fresh) again.front again.back p.next (sym falling ∙ again.parts) in
            let due = parts_true _ _ _ _ found.0 in
            let old : age T n ≤ age h n + 1 = aged_at_most (take k sent) n in
            let young : age h n + 1 < limit t = below (age h n + 1) (limit t) due.1 in
            let untold : told t (Then h e sent) n ≡ None = ap (λ M. M n) (told_by_event t h e sent []) ∙ none_is (told t (Then h e []) n) due.0 in
            waiting (alive_if_young t T n (omega arith)) (sent_wanted MOST_NAMES t jobs laws (Then h e sent) (o, now) n (ap (has_name n) (firsts_next t jobs h e sent o now) ∙ found.1) untold)

  -- Something is still to be sent at the start.
  module _ (sent : List Outgoing) (now : IsOwed t jobs [] [] (Begin sent) sent) where
    none_again : now.again ≡ filter (λ q. false) now.fresh
    none_again = now.repeats ∙ again_are t [] [] now.fresh (Begin sent) (fresh_new t jobs [] [] (Begin sent) sent now (All-nil IsQuestion)) (λ m. 1) (λ m. false) (λ m. refl) (λ m k. refl) (λ m k. due_begin t w r sent m)

    pub waits_begin : (k : ℕ) → k < length sent → some_wait t jobs (Begin (take k sent)) ≡ true
    waits_begin k low = go p.kind
      where
        qs : List Question
        qs = now.fresh ++ now.again

        p : Unsent [] now.fresh now.again sent k
        p = unsent [] now.fresh now.again sent k now.out low

        n : Name
        n = p.next.name

        T : Turns
        T = Begin (take k sent)

        same : told t T ≡ told t (Begin sent)
        same = fun_ext (λ m. told-begin t (take k sent) m ∙ sym (told-begin t sent m))

        go : IsNew now.fresh (take k qs) p.next ⊎ IsAgain now.fresh now.again (take k qs) p.next → some_wait t jobs T ≡ true
        go (inl new) =
            some_wants (told t T) (is_dead t T) n
            (new_alive t [] [] now.fresh (fresh_new t jobs [] [] (Begin sent) sent now (All-nil IsQuestion)) T p.next (take k qs) new
            (All-take IsQuestion k qs (all_proper t jobs [] [] (Begin sent) sent now (All-nil IsQuestion))) (firsts-begin (take k sent) ∙ ap (λ l. new_among [] (asked_in l)) p.part))
            jobs
            (ap (λ M. has n (wanted jobs M)) same ∙ fresh_wanted jobs [] now.fresh (told t (Begin sent)) n now.asks (ap (has_name n) new.parts ∙ seen_here (take k qs) p.next new.post))
        go (inr again) = true_false (sym (in_filter (λ q. false) now.fresh again.front again.back p.next (sym none_again ∙ again.parts)).0)
