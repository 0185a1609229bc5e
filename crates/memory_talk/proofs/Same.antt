-- There is one log: what is owed, what is answered and which numbers are drawn fix each turn by those before it.
use Rattle.std.proofs.Common.{◌≡◌, ℕ, zero, suc, ◌+◌, ◌<◌, true, false, ◌⊎◌, inl, inr, List, [], ◌∷◌, ◌++◌, map, take, length, refl, sym, ◌∙◌, ap, subst, arith}
use Rattle.std.specs.List.{filter}
use Rattle.std.proofs.lemmas.List.{append_cancel_left, append-nil, append_assoc, length-append, length-map, map-append, take_at}
use Rattle.std.proofs.lemmas.List.Elements.{All-nil}
use Rattle.pac_names.specs.Names.{Name}
use Rattle.js_host.specs.Answers.{AnswerMap}
use Rattle.poll_log.specs.declared.question.Question.{Question}
use Rattle.poll_log.specs.declared.terms.Terms.{Terms}
use Rattle.poll_log.specs.Turns.{Outgoing, Turns, Begin, Then, Event}
use Rattle.poll_log.specs.Questions.{drawn, firsts, has_name, names_of, outgoing_from, questions}
use Rattle.poll_log.specs.Told.{Map, due_sends, told}
use Rattle.poll_log.specs.Jobs.{IsOwed, Job, SendsOwed, WaitsBefore, once, some_wait, wanted}
use Rattle.poll_log.proofs.Dues.{again_are, firsts_next, firsts_of_begin, firsts_proper, fresh_new, sent_as_due}
use Rattle.poll_log.proofs.Names.{cons_parts, true_false}
use Rattle.poll_log.proofs.TurnLaws.{due_begin, due_next, due_unsent, falls_at, told_by_event}
use Rattle.pac_generate.specs.Answered.{IsAnswered, due_reply, event_by}
use Rattle.memory_talk.specs.Numbers.{first_numbers, number_after}
use Rattle.memory_talk.specs.Laws.{IsLogOf, OneLog}

-- ---- numbers

pub length_numbers : (n : ℕ) → length (first_numbers n) ≡ n
length_numbers zero = refl
length_numbers (suc n) = length-append (first_numbers n) (number_after n ∷ []) ∙ ap (λ (k : ℕ). k + 1) (length_numbers n) ∙ (omega arith)

numbers_more : (a b : ℕ) → (more : List ℕ) × (first_numbers (a + b) ≡ first_numbers a ++ more)
numbers_more a zero = ([], ap first_numbers (let z : a + 0 ≡ a = omega arith in z) ∙ sym (append-nil (first_numbers a)))
numbers_more a (suc b) =
    let before = numbers_more a b in (
      before.0 ++ number_after (a + b) ∷ [],
      ap first_numbers (let z : a + suc b ≡ suc (a + b) = omega arith in z)
          ∙ ap (λ (ns : List ℕ). ns ++ number_after (a + b) ∷ []) before.1
          ∙ append_assoc (first_numbers a) before.0 (number_after (a + b) ∷ []),
    )

-- these numbers are the first so many
abbrev pub AreNumbered : List ℕ → Type 0
AreNumbered ns = ns ≡ first_numbers (length ns)

pub numbered_front : (xs ys : List ℕ) → AreNumbered (xs ++ ys) → AreNumbered xs
numbered_front xs ys e =
    let more = numbers_more (length xs) (length ys) in
    let same : xs ++ ys ≡ first_numbers (length xs) ++ more.0 = e ∙ ap first_numbers (length-append xs ys) ∙ more.1 in
    sym (take_at xs ys (length xs) refl) ∙ ap (take (length xs)) same ∙ take_at (first_numbers (length xs)) more.0 (length xs) (length_numbers (length xs))

-- ---- questions with the same names and numbers

abbrev pub ids_of : List Question → List ℕ
ids_of qs = map (λ (q : Question). q.id) qs

same_question : (one other : Question) → one.id ≡ other.id → one.name ≡ other.name → one ≡ other
same_question one other e f =
    ap (λ (i : ℕ). let r : Question = record { id = i; name = one.name } in r) e
    ∙ ap (λ (n : Name). let r : Question = record { id = other.id; name = n } in r) f

same_questions : (xs ys : List Question) → names_of xs ≡ names_of ys → ids_of xs ≡ ids_of ys → xs ≡ ys
same_questions [] [] e f = refl
same_questions [] (y ∷ ys) e f = cc
same_questions (x ∷ xs) [] e f = cc
same_questions (x ∷ xs) (y ∷ ys) e f =
    let names = cons_parts _ _ _ _ e in
    let ids = cons_parts _ _ _ _ f in
    ap (λ (q : Question). q ∷ xs) (same_question x y ids.0 names.0) ∙ ap (λ (qs : List Question). y ∷ qs) (same_questions xs ys names.1 ids.1)

same_length : (xs ys : List Question) → names_of xs ≡ names_of ys → length xs ≡ length ys
same_length xs ys e = sym (length-map xs (λ (q : Question). q.name)) ∙ ap length e ∙ length-map ys (λ (q : Question). q.name)

pub same_fresh : (before : List ℕ) (xs ys : List Question) → names_of xs ≡ names_of ys → AreNumbered (before ++ ids_of xs) → AreNumbered (before ++ ids_of ys) → xs ≡ ys
same_fresh before xs ys e one other =
    let long : length (ids_of xs) ≡ length (ids_of ys) = length-map xs (λ (q : Question). q.id) ∙ same_length xs ys e ∙ sym (length-map ys (λ (q : Question). q.id)) in
    let whole : length (before ++ ids_of xs) ≡ length (before ++ ids_of ys) =
    length-append before (ids_of xs) ∙ ap (λ (k : ℕ). length before + k) long ∙ sym (length-append before (ids_of ys)) in
    same_questions xs ys e (append_cancel_left before (ids_of xs) (ids_of ys) (one ∙ ap first_numbers whole ∙ sym other))

-- ---- one turn

pub told_none : (t : Terms) (one other : List Outgoing) → told t (Begin one) ≡ told t (Begin other)
unfolding told
told_none t one other = refl

module _ (t : Terms) (jobs : List Job) (w : 0 < t.wait) (r : 0 < t.tries) where
  -- what is sent again after an event
  pub repeats_fall : (h : Turns) (e : Event) (sent : List Outgoing) → SendsOwed t jobs h → (o : IsOwed t jobs (questions h) (firsts h) (Then h e sent) sent)
      → o.again ≡ filter (λ q. falls_at t h e q.name) (firsts h ++ o.fresh)
  repeats_fall h e sent s o =
      o.repeats
      ∙ again_are t (questions h) (firsts h) o.fresh (Then h e sent) (fresh_new t jobs (questions h) (firsts h) (Then h e sent) sent o (firsts_proper t jobs h s)) (due_sends t h) (falls_at t h e)
      (sent_as_due t jobs w r h s) (due_unsent t w r h) (λ m k. due_next t w r h e sent m (ap (has_name m) (firsts_next t jobs h e sent s o) ∙ k))

  pub repeats_none : (sent : List Outgoing) (o : IsOwed t jobs [] [] (Begin sent) sent) → o.again ≡ filter (λ q. false) o.fresh
  repeats_none sent o =
      o.repeats
      ∙ again_are t [] [] o.fresh (Begin sent) (fresh_new t jobs [] [] (Begin sent) sent o (All-nil _)) (λ m. 1) (λ m. false) (λ m. refl) (λ m k. refl) (λ m k. due_begin t w r sent m)

  -- what is owed is the same where the numbers are
  sent_from : (earlier : List Question) (sent other : List Outgoing) (fresh again fresh' again' : List Question) → sent ≡ outgoing_from earlier (fresh ++ again)
      → other ≡ outgoing_from earlier (fresh' ++ again') → fresh ≡ fresh' → again ≡ again' → sent ≡ other
  sent_from earlier sent other fresh again fresh' again' e f g k =
      e ∙ ap (λ (qs : List Question). outgoing_from earlier (qs ++ again)) g ∙ ap (λ (qs : List Question). outgoing_from earlier (fresh' ++ qs)) k ∙ sym f

  drawn_next : (h : Turns) (e : Event) (sent : List Outgoing) → SendsOwed t jobs h → (o : IsOwed t jobs (questions h) (firsts h) (Then h e sent) sent) → drawn (Then h e sent) ≡ drawn h ++ ids_of o.fresh
  drawn_next h e sent s o = ap ids_of (firsts_next t jobs h e sent s o) ∙ map-append (λ (q : Question). q.id) (firsts h) o.fresh

  same_then : (h : Turns) (e : Event) (sent other : List Outgoing) → SendsOwed t jobs h
      → IsOwed t jobs (questions h) (firsts h) (Then h e sent) sent → IsOwed t jobs (questions h) (firsts h) (Then h e other) other
      → AreNumbered (drawn (Then h e sent)) → AreNumbered (drawn (Then h e other)) → sent ≡ other
  same_then h e sent other s o p one two =
      let fresh : o.fresh ≡ p.fresh =
      same_fresh (drawn h) o.fresh p.fresh
      (o.asks ∙ ap (λ (M : Map). once (names_of (firsts h)) (wanted jobs M)) (told_by_event t h e sent other) ∙ sym p.asks)
      (subst AreNumbered (drawn_next h e sent s o) one) (subst AreNumbered (drawn_next h e other s p) two) in
      let again : o.again ≡ p.again =
      repeats_fall h e sent s o ∙ ap (λ (qs : List Question). filter (λ q. falls_at t h e q.name) (firsts h ++ qs)) fresh ∙ sym (repeats_fall h e other s p) in
      sent_from (questions h) sent other o.fresh o.again p.fresh p.again o.out p.out fresh again

  same_begin : (sent other : List Outgoing) → IsOwed t jobs [] [] (Begin sent) sent → IsOwed t jobs [] [] (Begin other) other
      → AreNumbered (drawn (Begin sent)) → AreNumbered (drawn (Begin other)) → sent ≡ other
  same_begin sent other o p one two =
      let fresh : o.fresh ≡ p.fresh =
      same_fresh [] o.fresh p.fresh
      (o.asks ∙ ap (λ (M : Map). once [] (wanted jobs M)) (told_none t sent other) ∙ sym p.asks)
      (subst AreNumbered (ap ids_of (firsts_of_begin t jobs sent o)) one) (subst AreNumbered (ap ids_of (firsts_of_begin t jobs other p)) two) in
      let again : o.again ≡ p.again = repeats_none sent o ∙ ap (λ (qs : List Question). filter (λ q. false) qs) fresh ∙ sym (repeats_none other p) in
      sent_from [] sent other o.fresh o.again p.fresh p.again o.out p.out fresh again

-- ---- fronts

-- the first log is a front of the second, with fewer events
abbrev pub IsBefore : Turns → Turns → Type 0
IsBefore h (Begin sent) = ⊥
IsBefore h (Then before e sent) = (h ≡ before) ⊎ IsBefore h before

-- a log so far
pub record IsSoFar (answers : AnswerMap) (t : Terms) (jobs : List Job) (h : Turns) : Type 0 where
  pub sends : SendsOwed t jobs h
  pub answered : IsAnswered answers h
  pub numbered : AreNumbered (drawn h)

pub waited : (t : Terms) (jobs : List Job) (h longer : Turns) → IsBefore h longer → WaitsBefore t jobs longer → some_wait t jobs h ≡ true
waited t jobs h (Begin sent) b waits = absurd b
waited t jobs h (Then before e sent) (inl same) waits = ap (some_wait t jobs) same ∙ waits.1
waited t jobs h (Then before e sent) (inr b) waits = waited t jobs h before b waits.0

module _ (answers : AnswerMap) (t : Terms) (jobs : List Job) (w : 0 < t.wait) (r : 0 < t.tries) where
  pub so_far : (h : Turns) (e : Event) (sent : List Outgoing) → IsSoFar answers t jobs (Then h e sent) → IsSoFar answers t jobs h
  unfolding IsAnswered
  so_far h e sent log =
      record {
        sends = log.sends.0;
        answered = log.answered.0;
        numbered = numbered_front (drawn h) (ids_of log.sends.1.fresh) (subst AreNumbered (drawn_next t jobs w r h e sent log.sends.0 log.sends.1) log.numbered);
      }

  pub came : (h : Turns) (e : Event) (sent : List Outgoing) → IsSoFar answers t jobs (Then h e sent) → e ≡ event_by (due_reply answers h)
  unfolding IsAnswered
  came h e sent log = log.answered.1

  -- a log with one event more goes on as each longer log does
  same_next : (h : Turns) (e e' : Event) (sent sent' : List Outgoing) → IsSoFar answers t jobs (Then h e sent) → IsSoFar answers t jobs (Then h e' sent') → Then h e sent ≡ Then h e' sent'
  same_next h e e' sent sent' one other = go e' (came h e sent one ∙ sym (came h e' sent' other)) other
    where
      go : (x : Event) → e ≡ x → IsSoFar answers t jobs (Then h x sent') → Then h e sent ≡ Then h x sent'
      go x same log =
          let log' : IsSoFar answers t jobs (Then h e sent') = subst (λ (y : Event). IsSoFar answers t jobs (Then h y sent')) (sym same) log in
          ap (Then h e) (same_then t jobs w r h e sent sent' one.sends.0 one.sends.1 log'.sends.1 one.numbered log'.numbered) ∙ ap (λ (y : Event). Then h y sent') same

  next : (h : Turns) (e : Event) (sent : List Outgoing) (longer : Turns) → IsSoFar answers t jobs (Then h e sent) → IsSoFar answers t jobs longer → IsBefore h longer
      → (Then h e sent ≡ longer) ⊎ IsBefore (Then h e sent) longer
  next h e sent (Begin sent') one other b = absurd b
  next h e sent (Then h' e' sent') one other (inl same) =
      let here : IsSoFar answers t jobs (Then h' e sent) = subst (λ (x : Turns). IsSoFar answers t jobs (Then x e sent)) same one in
      inl (ap (λ (x : Turns). Then x e sent) same ∙ same_next h' e e' sent sent' here other)
  next h e sent (Then h' e' sent') one other (inr b) = inr (next h e sent h' one (so_far h' e' sent' other) b)

  -- two logs are the same, or one is a front of the other
  pub compared : (one other : Turns) → IsSoFar answers t jobs one → IsSoFar answers t jobs other → (one ≡ other) ⊎ (IsBefore one other ⊎ IsBefore other one)
  compared (Begin sent) (Begin sent') p q = inl (ap Begin (same_begin t jobs w r sent sent' p.sends q.sends p.numbered q.numbered))
  compared (Begin sent) (Then h e sent') p q = go (compared (Begin sent) h p (so_far h e sent' q))
    where
      go : (Begin sent ≡ h) ⊎ (IsBefore (Begin sent) h ⊎ IsBefore h (Begin sent)) → (Begin sent ≡ Then h e sent') ⊎ (IsBefore (Begin sent) (Then h e sent') ⊎ IsBefore (Then h e sent') (Begin sent))
      go (inl same) = inr (inl (inl same))
      go (inr (inl b)) = inr (inl (inr b))
      go (inr (inr b)) = absurd b
  compared (Then h e sent) other p q = go (compared h other (so_far h e sent p) q)
    where
      go : (h ≡ other) ⊎ (IsBefore h other ⊎ IsBefore other h) → (Then h e sent ≡ other) ⊎ (IsBefore (Then h e sent) other ⊎ IsBefore other (Then h e sent))
      go (inl same) = inr (inr (inl (sym same)))
      go (inr (inl b)) = further (next h e sent other p q b)
        where
          further : (Then h e sent ≡ other) ⊎ IsBefore (Then h e sent) other → (Then h e sent ≡ other) ⊎ (IsBefore (Then h e sent) other ⊎ IsBefore other (Then h e sent))
          further (inl same) = inl same
          further (inr c) = inr (inl c)
      go (inr (inr b)) = inr (inr (inr b))

  pub so_far_of : (h : Turns) → IsLogOf answers t jobs h → IsSoFar answers t jobs h
  so_far_of h log =
      record {
        sends = log.polled.sends;
        answered = log.in_memory.answered;
        numbered = log.in_memory.numbered ∙ ap first_numbers (sym (length-map (firsts h) (λ (q : Question). q.id)));
      }

  same_turns : (one other : Turns) → IsLogOf answers t jobs one → IsLogOf answers t jobs other → one ≡ other
  same_turns one other p q = go (compared one other (so_far_of one p) (so_far_of other q))
    where
      go : (one ≡ other) ⊎ (IsBefore one other ⊎ IsBefore other one) → one ≡ other
      go (inl same) = same
      go (inr (inl b)) = true_false (sym (waited t jobs one other b q.polled.waits) ∙ p.polled.ended)
      go (inr (inr b)) = true_false (sym (waited t jobs other one b p.polled.waits) ∙ q.polled.ended)

pub one_log : OneLog
one_log answers t jobs one other w r p q = same_turns answers t jobs w r one other p q
