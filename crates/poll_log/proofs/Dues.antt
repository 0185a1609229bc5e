-- In a log whose turns have the sends that are owed, each name was sent exactly as often as it is due.
use Rattle.std.proofs.Common.{◌≡◌, ℕ, ◌+◌, ◌<◌, Bool, true, false, cond, ◌||◌, ◌&&◌, List, [], ◌∷◌, ◌++◌, map, refl, sym, ◌∙◌, ap, subst, arith, nat_lt, append_assoc}
use Rattle.std.specs.Prelude.{Option, Some, None, is_some, option_map}
use Rattle.std.specs.List.{All, cons_option, filter, filter_map}
use Rattle.std.proofs.lemmas.List.{append-nil, map-append}
use Rattle.std.proofs.lemmas.List.Elements.{All-append, All-filter, All-nil, All-same}
use Rattle.std.proofs.lemmas.Bool.Decides.{nat_tests}
use Rattle.pac_names.specs.Names.{Name}
use Rattle.poll_log.specs.declared.question.Question.{Question}
use Rattle.poll_log.specs.declared.sending.Sending.{Sending}
use Rattle.poll_log.specs.declared.terms.Terms.{Terms}
use Rattle.poll_log.specs.Sendings.{limit, sending_at}
use Rattle.poll_log.specs.Beats.{is_beat}
use Rattle.poll_log.specs.Moment.{flies}
use Rattle.poll_log.specs.Turns.{Outgoing, Turns, Begin, Then, Event}
use Rattle.poll_log.specs.Questions.{IsQuestion, numbered_sending, first_sending, first_sent, outgoing_from, outgoing_of, firsts, questions, asked_in, new_among, has_name, was_sent, names_of, times}
use Rattle.poll_log.specs.Told.{age, told, due_sends}
use Rattle.poll_log.specs.Jobs.{Job, IsOwed, SendsOwed, once, wanted}
use Rattle.poll_log.proofs.Names.{AllNew, AllSeen, AllNew-append, new_among-new, new_from-once, has_name-append}
use Rattle.poll_log.proofs.Asking.{asked_in-outgoing}
use Rattle.poll_log.proofs.Outgoing.{questions_of, in_turn, new_to_first, outgoing_from-append}
use Rattle.poll_log.proofs.Counts.{times-append, times_new, times_filter, unsent_times, seen_filter, filter_alike, new_not_seen}
use Rattle.poll_log.proofs.TurnLaws.{firsts-then, firsts-begin, questions-then, questions-begin, distinct, due_next, due_unsent, due_begin, falls_at, falls_due, falls_numbered, told_by_event}

-- One turn: names were sent in earlier turns as often as D says.
module _ (earlier before fresh : List Question) (new : AllNew before fresh) (D : Name → ℕ) (counted : (n : Name) → times earlier n ≡ cond (has_name n before) (D n) 0) (first : (n : Name) → has_name n before ≡ false → D n ≡ 1) where
  -- the times that a name was sent, with the new questions counted in, before anything is sent again
  pub times_fresh : (n : Name) → times (earlier ++ fresh) n ≡ cond (has_name n (before ++ fresh)) (D n) 0
  times_fresh n = times-append earlier fresh n ∙ go (has_name n before) refl ∙ ap (λ b. cond b (D n) 0) (sym (has_name-append n before fresh))
    where
      go : (b : Bool) → has_name n before ≡ b → times earlier n + times fresh n ≡ cond (b || has_name n fresh) (D n) 0
      go true k =
          let none : times fresh n ≡ 0 = unsent_times fresh n (new_not_seen before fresh n new k) in
          let old : times earlier n ≡ D n = counted n ∙ ap (λ b. cond b (D n) 0) k in
          omega arith
      go false k =
          let one : times fresh n ≡ cond (has_name n fresh) 1 0 = times_new before fresh n new in
          let old : times earlier n ≡ 0 = counted n ∙ ap (λ b. cond b (D n) 0) k in
          ap (λ m. m + times fresh n) old ∙ ap (λ m. 0 + m) one ∙ (let z : 0 + cond (has_name n fresh) 1 0 ≡ cond (has_name n fresh) 1 0 = omega arith in z) ∙ ap (λ d. cond (has_name n fresh) d 0) (sym (first n k))

-- They are due as often as D and `falls` say.
module _ (t : Terms) (earlier before fresh : List Question) (turns : Turns) (new : AllNew before fresh) (D : Name → ℕ) (falls : Name → Bool) (counted : (n : Name) → times earlier n ≡ cond (has_name n before) (D n) 0) (first : (n : Name) → has_name n before ≡ false → D n ≡ 1) (due : (n : Name) → has_name n (before ++ fresh) ≡ true → due_sends t turns n ≡ D n + cond (falls n) 1 0) where
  -- sent fewer times than it is due is who falls due
  repeats_are : (n : Name) → has_name n (before ++ fresh) ≡ true → nat_lt (times (earlier ++ fresh) n) (due_sends t turns n) ≡ falls n
  repeats_are n k =
      let now : times (earlier ++ fresh) n ≡ D n = times_fresh earlier before fresh new D counted first n ∙ ap (λ b. cond b (D n) 0) k in
      let next : due_sends t turns n ≡ D n + cond (falls n) 1 0 = due n k in
      ap (λ m. nat_lt m (due_sends t turns n)) now ∙ ap (λ m. nat_lt (D n) m) next ∙ go (falls n)
    where
      go : (b : Bool) → nat_lt (D n) (D n + cond b 1 0) ≡ b
      go true = grind (arith, nat_tests)
      go false = grind (arith, nat_tests)

  pub again_are : filter (λ q. nat_lt (times (earlier ++ fresh) q.name) (due_sends t turns q.name)) (before ++ fresh) ≡ filter (λ q. falls q.name) (before ++ fresh)
  again_are = filter_alike (λ q. nat_lt (times (earlier ++ fresh) q.name) (due_sends t turns q.name)) (λ q. falls q.name) [] (before ++ fresh) (λ q k. repeats_are q.name k)

module _ (t : Terms) (jobs : List Job) (earlier before : List Question) (turns : Turns) (sent : List Outgoing) (o : IsOwed t jobs earlier before turns sent) (proper : All IsQuestion before) where
  pub fresh_new : AllNew before o.fresh
  fresh_new = new_from-once before o.fresh (wanted jobs (told t turns)) o.asks

  pub all_proper : All IsQuestion (o.fresh ++ o.again)
  all_proper = All-append IsQuestion o.fresh o.again o.proper (All-same IsQuestion o.again _ o.repeats (All-filter _ IsQuestion (before ++ o.fresh) (All-append IsQuestion before o.fresh proper o.proper)))

  pub asked_now : asked_in sent ≡ o.fresh ++ o.again
  asked_now = ap asked_in o.out ∙ asked_in-outgoing earlier (o.fresh ++ o.again) all_proper

  pub new_now : new_among before (asked_in sent) ≡ o.fresh
  new_now = ap (new_among before) asked_now ∙ new_among-new before o.fresh o.again fresh_new (subst (AllSeen (before ++ o.fresh)) (sym o.repeats) (seen_filter _ [] (before ++ o.fresh)))

  -- with this turn's sends each name was sent as often as it is due
  pub times_now : (D : Name → ℕ) (falls : Name → Bool) → ((n : Name) → times earlier n ≡ cond (has_name n before) (D n) 0) → ((n : Name) → has_name n before ≡ false → D n ≡ 1) → ((n : Name) → has_name n (before ++ o.fresh) ≡ true → due_sends t turns n ≡ D n + cond (falls n) 1 0) → AllNew [] before → (n : Name) → times (earlier ++ asked_in sent) n ≡ cond (has_name n (before ++ o.fresh)) (due_sends t turns n) 0
  times_now D falls counted first due once_each n =
      ap (λ l. times (earlier ++ l) n) asked_now
      ∙ ap (λ l. times l n) (sym (append_assoc earlier o.fresh o.again))
      ∙ times-append (earlier ++ o.fresh) o.again n
      ∙ ap (λ l. times (earlier ++ o.fresh) n + times l n) (o.repeats ∙ again_are t earlier before o.fresh turns fresh_new D falls counted first due)
      ∙ ap (λ m. times (earlier ++ o.fresh) n + m) (times_filter falls [] (before ++ o.fresh) n (AllNew-append [] before o.fresh once_each fresh_new))
      ∙ go (has_name n (before ++ o.fresh)) refl
    where
      before_again : times (earlier ++ o.fresh) n ≡ cond (has_name n (before ++ o.fresh)) (D n) 0
      before_again = times_fresh earlier before o.fresh fresh_new D counted first n

      go : (b : Bool) → has_name n (before ++ o.fresh) ≡ b → times (earlier ++ o.fresh) n + cond (b && falls n) 1 0 ≡ cond b (due_sends t turns n) 0
      go true k = ap (λ m. m + cond (falls n) 1 0) (before_again ∙ ap (λ b. cond b (D n) 0) k) ∙ sym (due n k)
      go false k = ap (λ m. m + 0) (before_again ∙ ap (λ b. cond b (D n) 0) k)

-- the first sends of a log whose sends are owed are questions
pub firsts_proper : (t : Terms) (jobs : List Job) (h : Turns) → SendsOwed t jobs h → All IsQuestion (firsts h)
firsts_proper t jobs (Begin sent) o =
    All-same IsQuestion _ o.fresh (firsts-begin sent ∙ new_now t jobs [] [] (Begin sent) sent o (All-nil IsQuestion)) o.proper
firsts_proper t jobs (Then h e sent) o =
    let p = firsts_proper t jobs h o.0 in
    All-same IsQuestion _ (firsts h ++ o.1.fresh) (firsts-then h e sent ∙ ap (λ l. firsts h ++ l) (new_now t jobs (questions h) (firsts h) (Then h e sent) sent o.1 p)) (All-append IsQuestion (firsts h) o.1.fresh p o.1.proper)

-- the first sends of a turn are its new questions
pub firsts_next : (t : Terms) (jobs : List Job) (h : Turns) (e : Event) (sent : List Outgoing) → SendsOwed t jobs h → (o : IsOwed t jobs (questions h) (firsts h) (Then h e sent) sent) → firsts (Then h e sent) ≡ firsts h ++ o.fresh
firsts_next t jobs h e sent p o = firsts-then h e sent ∙ ap (λ l. firsts h ++ l) (new_now t jobs (questions h) (firsts h) (Then h e sent) sent o (firsts_proper t jobs h p))

pub firsts_of_begin : (t : Terms) (jobs : List Job) (sent : List Outgoing) (o : IsOwed t jobs [] [] (Begin sent) sent) → firsts (Begin sent) ≡ o.fresh
firsts_of_begin t jobs sent o = firsts-begin sent ∙ new_now t jobs [] [] (Begin sent) sent o (All-nil IsQuestion)

module _ (t : Terms) (jobs : List Job) (w : 0 < t.wait) (r : 0 < t.tries) where
  -- the send count
  pub sent_as_due : (h : Turns) → SendsOwed t jobs h → (n : Name) → times (questions h) n ≡ cond (was_sent h n) (due_sends t h n) 0
  sent_as_due (Begin sent) o n =
      ap (λ l. times l n) (questions-begin sent)
      ∙ times_now t jobs [] [] (Begin sent) sent o (All-nil IsQuestion) (λ m. 1) (λ m. false) (λ m. refl) (λ m k. refl) (λ m k. due_begin t w r sent m) tt n
      ∙ ap (λ l. cond (has_name n l) (due_sends t (Begin sent) n) 0) (sym (firsts_of_begin t jobs sent o))
  sent_as_due (Then h e sent) o n =
      let f = firsts_next t jobs h e sent o.0 o.1 in
      ap (λ l. times l n) (questions-then h e sent)
      ∙ times_now t jobs (questions h) (firsts h) (Then h e sent) sent o.1 (firsts_proper t jobs h o.0) (due_sends t h) (falls_at t h e) (sent_as_due h o.0) (due_unsent t w r h) (λ m k. due_next t w r h e sent m (ap (has_name m) f ∙ k)) (distinct h) n
      ∙ ap (λ l. cond (has_name n l) (due_sends t (Then h e sent) n) 0) (sym f)

  -- What is owed at the start, as code finds it: the names that the jobs lack.
  pub owed_begin : (fresh : List Question) → names_of fresh ≡ once [] (wanted jobs (told t (Begin (first_sent fresh)))) → All IsQuestion fresh → IsOwed t jobs [] [] (Begin (first_sent fresh)) (first_sent fresh)
  owed_begin fresh asks proper =
      let new = new_from-once [] fresh _ asks in
      record {
        fresh = fresh;
        again = [];
        asks = asks;
        proper = proper;
        repeats = sym (again_are t [] [] fresh (Begin (first_sent fresh)) new (λ m. 1) (λ m. false) (λ m. refl) (λ m k. refl) (λ m k. due_begin t w r (first_sent fresh) m) ∙ none fresh);
        out = sym (ap (outgoing_from []) (append-nil fresh) ∙ new_to_first [] [] fresh new (λ n k. refl));
      }
    where
      none : (l : List Question) → filter (λ q. false) l ≡ []
      none [] = refl
      none (q ∷ l) = none l

  -- the questions that fall due
  pub falling : (h : Turns) (e : Event) (qs : List Question) → questions_of (filter_map (falls_due t h e) qs) ≡ filter (λ q. falls_at t h e q.name) qs
  falling h e [] = refl
  falling h e (q ∷ qs) = go (is_beat h e) (flies (limit t) (told t (Then h e [])) (λ m. age h m + 1) q.name) (sending_at t (age h q.name + 1)) (falling h e qs)
    where
      later : List Question
      later = filter (λ x. falls_at t h e x.name) qs

      go : (b c : Bool) (r : Option ℕ) → questions_of (filter_map (falls_due t h e) qs) ≡ later → questions_of (cons_option (cond b (cond c (option_map (numbered_sending q) r) None) None) (filter_map (falls_due t h e) qs)) ≡ cond (b && (c && is_some r)) (q ∷ later) later
      go true true (Some j) ih = ap (λ l. q ∷ l) ih
      go true true None ih = ih
      go true false r ih = ih
      go false c r ih = ih

  -- What is owed after an event, as code finds it: the names that the jobs lack, then the sendings that fall due.
  module _ (h : Turns) (e : Event) (fresh : List Question) (again : List Sending) (o : SendsOwed t jobs h) (asks : names_of fresh ≡ once (names_of (firsts h)) (wanted jobs (told t (Then h e [])))) (proper : All IsQuestion fresh) (falls : again ≡ filter_map (falls_due t h e) (firsts h ++ fresh)) where
    abbrev both : List Question
    both = firsts h ++ fresh

    new : AllNew (firsts h) fresh
    new = new_from-once (firsts h) fresh (wanted jobs (told t (Then h e []))) asks

    abbrev pub out : List Outgoing
    out = map outgoing_of (map first_sending fresh ++ again)

    asked_again : questions_of again ≡ filter (λ q. falls_at t h e q.name) both
    asked_again = ap questions_of falls ∙ falling h e both

    abbrev D : Name → ℕ
    D n = cond (has_name n both) (due_sends t h n) 0

    sent_again : outgoing_from (questions h ++ fresh) (questions_of again) ≡ map outgoing_of again
    sent_again =
        ap (λ l. outgoing_from (questions h ++ fresh) (questions_of l)) falls
        ∙ in_turn D (falls_due t h e) (questions h ++ fresh) [] both (AllNew-append [] (firsts h) fresh (distinct h) new)
        (λ n k. times_fresh (questions h) (firsts h) fresh new (due_sends t h) (sent_as_due h o) (due_unsent t w r h) n)
        (λ q s k f. falls_numbered t w r h e q s f ∙ ap (numbered_sending q) (sym (ap (λ b. cond b (due_sends t h q.name) 0) k)))
        ∙ ap (map outgoing_of) (sym falls)

    sent_now : out ≡ outgoing_from (questions h) (fresh ++ questions_of again)
    sent_now =
        map-append outgoing_of (map first_sending fresh) again
        ∙ ap (λ l. l ++ map outgoing_of again) (sym (new_to_first (questions h) (firsts h) fresh new (λ n k. sent_as_due h o n ∙ ap (λ b. cond b (due_sends t h n) 0) k)))
        ∙ ap (λ l. outgoing_from (questions h) fresh ++ l) (sym sent_again)
        ∙ sym (outgoing_from-append (questions h) fresh (questions_of again))

    all : All IsQuestion (fresh ++ questions_of again)
    all = All-append IsQuestion fresh (questions_of again) proper (All-same IsQuestion (questions_of again) _ asked_again (All-filter _ IsQuestion both (All-append IsQuestion (firsts h) fresh (firsts_proper t jobs h o) proper)))

    now : firsts (Then h e out) ≡ both
    now =
        firsts-then h e out
        ∙ ap (λ l. firsts h ++ l) (
        ap (new_among (firsts h)) (ap asked_in sent_now ∙ asked_in-outgoing (questions h) (fresh ++ questions_of again) all)
        ∙ new_among-new (firsts h) fresh (questions_of again) new (subst (AllSeen both) (sym asked_again) (seen_filter _ [] both))
        )

    pub owed_then : IsOwed t jobs (questions h) (firsts h) (Then h e out) out
    owed_then =
        record {
          fresh = fresh;
          again = questions_of again;
          asks = asks ∙ ap (λ M. once (names_of (firsts h)) (wanted jobs M)) (told_by_event t h e [] out);
          proper = proper;
          repeats = asked_again ∙ sym (again_are t (questions h) (firsts h) fresh (Then h e out) new (due_sends t h) (falls_at t h e) (sent_as_due h o) (due_unsent t w r h) (λ m k. due_next t w r h e out m (ap (has_name m) now ∙ k)));
          out = sent_now;
        }
