-- A log that is cut short is a front of the whole one.
use Rattle.std.proofs.Common.{◌≡◌, ℕ, ◌<◌, ◌≤◌, false, ◌⊎◌, inl, inr, List, [], ◌∷◌, ◌++◌, map, length, refl, sym, ◌∙◌, ap, subst, arith, append_assoc}
use Rattle.std.specs.List.{AllByRecursion, filter}
use Rattle.std.proofs.lemmas.Bool.{cases_lt}
use Rattle.std.proofs.lemmas.List.{append-nil, length-map, map-append}
use Rattle.std.proofs.lemmas.List.Elements.{All-from_recursion, All-nil, recursion_from_All}
use Rattle.js_host.specs.Answers.{AnswerMap}
use Rattle.pac_ports.specs.declared.link.Move.{Move}
use Rattle.poll_log.specs.declared.question.Question.{Question}
use Rattle.poll_log.specs.declared.terms.Terms.{Terms}
use Rattle.poll_log.specs.Turns.{Outgoing, Turns, Begin, Then, Event}
use Rattle.poll_log.specs.Sendings.{server_of}
use Rattle.poll_log.specs.Questions.{IsQuestion, asked_in, drawn, firsts, names_of, new_among, outgoing, outgoing_from, questions, times}
use Rattle.poll_log.specs.Told.{Map}
use Rattle.poll_log.specs.Jobs.{IsCut, IsOwed, Job, SendsOwed, once, some_wait, wanted}
use Rattle.poll_log.proofs.Asking.{asked_in-outgoing}
use Rattle.poll_log.proofs.Counts.{seen_filter}
use Rattle.poll_log.proofs.Dues.{all_proper, firsts_next, firsts_of_begin, firsts_proper, fresh_new}
use Rattle.poll_log.proofs.Names.{AllNew, AllSeen, cons_parts, new_among-new, true_false}
use Rattle.poll_log.proofs.Outgoing.{outgoing_from-append}
use Rattle.poll_log.proofs.TurnLaws.{falls_at, firsts-begin, firsts-then, told_by_event}
use Rattle.poll_log.specs.Rounds.{sent_move}
use Rattle.pac_generate.specs.Answered.{IsAnswered, due_reply, event_by}
use Rattle.memory_talk.specs.Numbers.{first_numbers}
use Rattle.memory_talk.specs.Laws.{CutIsFront, IsLogOf}
use Rattle.memory_talk.proofs.Moves.{move_of, moves_of, turns_longer}
use Rattle.memory_talk.proofs.Same.{AreNumbered, IsBefore, IsSoFar, came, compared, ids_of, numbered_front, repeats_fall, repeats_none, same_fresh, so_far, so_far_of, told_none, waited}

-- ---- lists in parts

record AreParted {A B : Type 0} (f : List A → List B) (front : List B) (xs : List A) : Type 0 where
  pub before : List A
  pub behind : List A
  pub parts : xs ≡ before ++ behind
  pub front_is : front ≡ f before

-- what makes a list in two parts has two parts
parted : {A B : Type 0} (f : A → B) (front back : List B) (xs : List A) → front ++ back ≡ map f xs → AreParted (map f) front xs
parted f [] back xs e = record { before = []; behind = xs; parts = refl; front_is = refl }
parted f (y ∷ front) back [] e = cc
parted f (y ∷ front) back (x ∷ xs) e =
    let c = cons_parts y (f x) (front ++ back) (map f xs) e in
    let p = parted f front back xs c.1 in
    record { before = x ∷ p.before; behind = p.behind; parts = ap (λ l. x ∷ l) p.parts; front_is = ap (λ z. z ∷ front) c.0 ∙ ap (λ l. f x ∷ l) p.front_is }

-- so have the questions that are sent
parted_out : (earlier : List Question) (front back : List Outgoing) (qs : List Question) → front ++ back ≡ outgoing_from earlier qs → AreParted (outgoing_from earlier) front qs
unfolding outgoing_from
parted_out earlier [] back qs e = record { before = []; behind = qs; parts = refl; front_is = refl }
parted_out earlier (d ∷ front) back [] e =
    let none : d ∷ (front ++ back) ≡ [] = e in
    cc
parted_out earlier (d ∷ front) back (q ∷ qs) e =
    let one : Outgoing = outgoing (server_of (times earlier q.name)) q in
    let c = cons_parts d one (front ++ back) (outgoing_from (earlier ++ q ∷ []) qs) e in
    let p = parted_out (earlier ++ q ∷ []) front back qs c.1 in
    record { before = q ∷ p.before; behind = p.behind; parts = ap (λ l. q ∷ l) p.parts; front_is = ap (λ z. z ∷ front) c.0 ∙ ap (λ l. one ∷ l) p.front_is }

record Overlap {A : Type 0} (xs ys zs ws : List A) : Type 0 where
  pub middle : List A
  pub longer : xs ≡ zs ++ middle
  pub later : ws ≡ middle ++ ys

-- of two ways to part a list one has the longer front
overlap : {A : Type 0} (xs ys zs ws : List A) → xs ++ ys ≡ zs ++ ws → length zs ≤ length xs → Overlap xs ys zs ws
overlap xs ys [] ws e low = record { middle = xs; longer = refl; later = sym e }
overlap [] ys (z ∷ zs) ws e low = absurd (omega arith)
overlap (x ∷ xs) ys (z ∷ zs) ws e low =
    let c = cons_parts x z (xs ++ ys) (zs ++ ws) e in
    let o = overlap xs ys zs ws c.1 (omega arith) in
    record { middle = o.middle; longer = ap (λ y. y ∷ xs) c.0 ∙ ap (λ l. z ∷ l) o.longer; later = o.later }

front_each : {A : Type 0} (P : A → Type 0) (xs ys : List A) → AllByRecursion P (xs ++ ys) → AllByRecursion P xs
front_each P [] ys h = tt
front_each P (x ∷ xs) ys h = (h.0, front_each P xs ys h.1)

front_new : (seen xs ys : List Question) → AllNew seen (xs ++ ys) → AllNew seen xs
front_new seen [] ys h = tt
front_new seen (x ∷ xs) ys h = (h.0, front_new (seen ++ x ∷ []) xs ys h.1)

front_seen : (seen xs ys : List Question) → AllSeen seen (xs ++ ys) → AllSeen seen xs
front_seen seen [] ys h = tt
front_seen seen (x ∷ xs) ys h = (h.0, front_seen seen xs ys h.1)

-- ---- one turn

-- it begins so
abbrev Begins : {A : Type 0} → List A → List A → Type 0
Begins {A} front whole = (rest : List A) × (whole ≡ front ++ rest)

-- What is sent in a turn: as far as that is cut short, where in earlier turns these were sent, and these first, and in the
-- whole log.
module _ (earlier before fresh again fresh' again' : List Question) (sent unsent other : List Outgoing) (new : AllNew before fresh) (seen : AllSeen (before ++ fresh) again)
    (proper : AllByRecursion IsQuestion (fresh ++ again)) (out : sent ++ unsent ≡ outgoing_from earlier (fresh ++ again)) (out' : other ≡ outgoing_from earlier (fresh' ++ again'))
    (names : names_of fresh ≡ names_of fresh') (repeats : fresh ≡ fresh' → again ≡ again')
    (one : AreNumbered (ids_of (before ++ new_among before (asked_in sent)))) (two : AreNumbered (ids_of (before ++ fresh'))) where
  p : AreParted (outgoing_from earlier) sent (fresh ++ again)
  p = parted_out earlier sent unsent (fresh ++ again) out

  asked : asked_in sent ≡ p.before
  asked =
      ap asked_in p.front_is
      ∙ asked_in-outgoing earlier p.before (All-from_recursion IsQuestion p.before (front_each IsQuestion p.before p.behind (subst (AllByRecursion IsQuestion) p.parts proper)))

  numbered : (qs : List Question) → new_among before p.before ≡ qs → AreNumbered (ids_of before ++ ids_of qs)
  numbered qs e =
      subst AreNumbered (map-append (λ (q : Question). q.id) before qs)
      (subst (λ (l : List Question). AreNumbered (ids_of (before ++ l))) (ap (new_among before) asked ∙ e) one)

  all_numbered : AreNumbered (ids_of before ++ ids_of fresh')
  all_numbered = subst AreNumbered (map-append (λ (q : Question). q.id) before fresh') two

  -- only new names were sent
  turn_new : Overlap fresh again p.before p.behind → Begins sent other
  turn_new o =
      let first : new_among before p.before ≡ p.before =
      ap (new_among before) (sym (append-nil p.before)) ∙ new_among-new before p.before [] (front_new before p.before o.middle (subst (AllNew before) o.longer new)) tt in
      let more = parted (λ (q : Question). q.name) (names_of p.before) (names_of o.middle) fresh' (sym (map-append (λ (q : Question). q.name) p.before o.middle) ∙ ap names_of (sym o.longer) ∙ names) in
      let ids : ids_of before ++ ids_of fresh' ≡ (ids_of before ++ ids_of more.before) ++ ids_of more.behind =
      ap (λ (l : List ℕ). ids_of before ++ l) (ap ids_of more.parts ∙ map-append (λ (q : Question). q.id) more.before more.behind) ∙ sym (append_assoc (ids_of before) (ids_of more.before) (ids_of more.behind)) in
      let same : p.before ≡ more.before =
      same_fresh (ids_of before) p.before more.before more.front_is (numbered p.before first)
      (numbered_front (ids_of before ++ ids_of more.before) (ids_of more.behind) (subst AreNumbered ids all_numbered)) in
      let whole : fresh' ++ again' ≡ p.before ++ (more.behind ++ again') =
      ap (λ (l : List Question). l ++ again') (more.parts ∙ ap (λ (l : List Question). l ++ more.behind) (sym same)) ∙ append_assoc p.before more.behind again' in (
        outgoing_from (earlier ++ p.before) (more.behind ++ again'),
        out' ∙ ap (outgoing_from earlier) whole ∙ outgoing_from-append earlier p.before (more.behind ++ again')
            ∙ ap (λ (l : List Outgoing). l ++ outgoing_from (earlier ++ p.before) (more.behind ++ again')) (sym p.front_is),
      )

  -- all new names were sent
  turn_all : Overlap p.before p.behind fresh again → Begins sent other
  turn_all o =
      let first : new_among before p.before ≡ fresh = ap (new_among before) o.longer ∙ new_among-new before fresh o.middle new (front_seen (before ++ fresh) o.middle p.behind (subst (AllSeen (before ++ fresh)) o.later seen)) in
      let same : fresh ≡ fresh' = same_fresh (ids_of before) fresh fresh' names (numbered fresh first) all_numbered in (
        unsent,
        out' ∙ ap (λ (l : List Question). outgoing_from earlier (l ++ again')) (sym same) ∙ ap (λ (l : List Question). outgoing_from earlier (fresh ++ l)) (sym (repeats same)) ∙ sym out,
      )

  turn : Begins sent other
  turn = elim (cases_lt (length fresh) (length p.before)) [
    | inl long ↦ turn_all (overlap p.before p.behind fresh again (sym p.parts) (omega arith))
    | inr short ↦ turn_new (overlap fresh again p.before p.behind p.parts short)
  ]

module _ (t : Terms) (jobs : List Job) (w : 0 < t.wait) (r : 0 < t.tries) where
  turn_begin : (sent unsent other : List Outgoing) → IsOwed t jobs [] [] (Begin (sent ++ unsent)) (sent ++ unsent) → IsOwed t jobs [] [] (Begin other) other
      → AreNumbered (drawn (Begin sent)) → AreNumbered (drawn (Begin other)) → Begins sent other
  turn_begin sent unsent other o p one two =
      turn [] [] o.fresh o.again p.fresh p.again sent unsent other (fresh_new t jobs [] [] (Begin (sent ++ unsent)) (sent ++ unsent) o (All-nil IsQuestion))
      (subst (AllSeen o.fresh) (sym o.repeats) (seen_filter _ [] o.fresh))
      (recursion_from_All IsQuestion (o.fresh ++ o.again) (all_proper t jobs [] [] (Begin (sent ++ unsent)) (sent ++ unsent) o (All-nil IsQuestion)))
      o.out p.out (o.asks ∙ ap (λ (M : Map). once [] (wanted jobs M)) (told_none t (sent ++ unsent) other) ∙ sym p.asks)
      (λ same. repeats_none t jobs w r (sent ++ unsent) o ∙ ap (filter (λ q. false)) same ∙ sym (repeats_none t jobs w r other p))
      (subst (λ (l : List Question). AreNumbered (ids_of l)) (firsts-begin sent) one)
      (subst (λ (l : List Question). AreNumbered (ids_of l)) (firsts_of_begin t jobs other p) two)

  turn_then : (h : Turns) (e : Event) (sent unsent other : List Outgoing) → SendsOwed t jobs h
      → IsOwed t jobs (questions h) (firsts h) (Then h e (sent ++ unsent)) (sent ++ unsent) → IsOwed t jobs (questions h) (firsts h) (Then h e other) other
      → AreNumbered (drawn (Then h e sent)) → AreNumbered (drawn (Then h e other)) → Begins sent other
  turn_then h e sent unsent other s o p one two =
      let proper = firsts_proper t jobs h s in
      turn (questions h) (firsts h) o.fresh o.again p.fresh p.again sent unsent other (fresh_new t jobs (questions h) (firsts h) (Then h e (sent ++ unsent)) (sent ++ unsent) o proper)
      (subst (AllSeen (firsts h ++ o.fresh)) (sym o.repeats) (seen_filter _ [] (firsts h ++ o.fresh)))
      (recursion_from_All IsQuestion (o.fresh ++ o.again) (all_proper t jobs (questions h) (firsts h) (Then h e (sent ++ unsent)) (sent ++ unsent) o proper))
      o.out p.out (o.asks ∙ ap (λ (M : Map). once (names_of (firsts h)) (wanted jobs M)) (told_by_event t h e (sent ++ unsent) other) ∙ sym p.asks)
      (λ same. repeats_fall t jobs w r h e (sent ++ unsent) s o ∙ ap (λ (qs : List Question). filter (λ q. falls_at t h e q.name) (firsts h ++ qs)) same ∙ sym (repeats_fall t jobs w r h e other s p))
      (subst (λ (l : List Question). AreNumbered (ids_of l)) (firsts-then h e sent) one)
      (subst (λ (l : List Question). AreNumbered (ids_of l)) (firsts_next t jobs h e other s p) two)

-- ---- all turns

longer : (front moves more : List Move) → Begins front moves → Begins front (moves ++ more)
longer front moves more b = (b.0 ++ more, ap (λ (l : List Move). l ++ more) b.1 ∙ append_assoc front b.0 more)

sent_begins : (sent other : List Outgoing) → Begins sent other → Begins (map sent_move sent) (map sent_move other)
sent_begins sent other b = (map sent_move b.0, ap (map sent_move) b.1 ∙ map-append sent_move sent b.0)

module _ (answers : AnswerMap) (t : Terms) (jobs : List Job) (w : 0 < t.wait) (r : 0 < t.tries) where
  from_begin : (sent unsent : List Outgoing) → IsOwed t jobs [] [] (Begin (sent ++ unsent)) (sent ++ unsent) → AreNumbered (drawn (Begin sent)) → (whole : Turns) → IsSoFar answers t jobs whole
      → Begins (moves_of (Begin sent)) (moves_of whole)
  from_begin sent unsent o one (Begin other) log = sent_begins sent other (turn_begin t jobs w r sent unsent other o log.sends one log.numbered)
  from_begin sent unsent o one (Then h e other) log =
      longer (moves_of (Begin sent)) (moves_of h) (move_of e ∷ map sent_move other) (from_begin sent unsent o one h (so_far answers t jobs w r h e other log))

  module _ (h : Turns) (e : Event) (sent unsent : List Outgoing) (s : SendsOwed t jobs h) (o : IsOwed t jobs (questions h) (firsts h) (Then h e (sent ++ unsent)) (sent ++ unsent))
      (due : e ≡ event_by (due_reply answers h)) (one : AreNumbered (drawn (Then h e sent))) where
    same_turn : (other : List Outgoing) → IsSoFar answers t jobs (Then h e other) → Begins (moves_of (Then h e sent)) (moves_of (Then h e other))
    same_turn other log =
        let b = sent_begins sent other (turn_then t jobs w r h e sent unsent other s o log.sends.1 one log.numbered) in
        (b.0, ap (λ (l : List Move). moves_of h ++ move_of e ∷ l) b.1 ∙ sym (append_assoc (moves_of h) (move_of e ∷ map sent_move sent) b.0))

    from_then : (whole : Turns) → IsSoFar answers t jobs whole → IsBefore h whole → Begins (moves_of (Then h e sent)) (moves_of whole)
    from_then (Begin other) log b = absurd b
    from_then (Then h' e' other) log (inl same) =
        let here : IsSoFar answers t jobs (Then h e' other) = subst (λ (x : Turns). IsSoFar answers t jobs (Then x e' other)) (sym same) log in
        let event : e' ≡ e = came answers t jobs w r h e' other here ∙ sym due in
        subst (λ (x : Turns). Begins (moves_of (Then h e sent)) (moves_of (Then x e' other))) same
        (subst (λ (x : Event). Begins (moves_of (Then h e sent)) (moves_of (Then h x other))) (sym event)
        (same_turn other (subst (λ (x : Event). IsSoFar answers t jobs (Then h x other)) event here)))
    from_then (Then h' e' other) log (inr b) =
        longer (moves_of (Then h e sent)) (moves_of h') (move_of e' ∷ map sent_move other) (from_then h' (so_far answers t jobs w r h' e' other log) b)

  front : (cut whole : Turns) → IsCut t jobs cut → IsAnswered answers cut → AreNumbered (drawn cut) → IsLogOf answers t jobs whole → Begins (moves_of cut) (moves_of whole)
  unfolding IsAnswered
  front (Begin sent) whole c a one log = from_begin sent c.unsent c.sends one whole (so_far_of answers t jobs w r whole log)
  front (Then h e sent) whole c a one log = go (compared answers t jobs w r h whole here (so_far_of answers t jobs w r whole log))
    where
      now : List Question
      now = new_among (firsts h) (asked_in sent)

      here : IsSoFar answers t jobs h
      here =
          record {
            sends = c.sends.0;
            answered = a.0;
            numbered = numbered_front (ids_of (firsts h)) (ids_of now) (subst AreNumbered (ap ids_of (firsts-then h e sent) ∙ map-append (λ (q : Question). q.id) (firsts h) now) one);
          }

      go : (h ≡ whole) ⊎ (IsBefore h whole ⊎ IsBefore whole h) → Begins (moves_of (Then h e sent)) (moves_of whole)
      go (inl same) = true_false (sym c.waits.1 ∙ ap (some_wait t jobs) same ∙ log.polled.ended)
      go (inr (inl b)) = from_then h e sent c.unsent c.sends.0 c.sends.1 a.1 one whole (so_far_of answers t jobs w r whole log) b
      go (inr (inr b)) = true_false (sym (waited t jobs whole h b c.waits.0) ∙ log.polled.ended)

pub cut_is_front : CutIsFront
cut_is_front answers t jobs cut whole w r c log =
    let numbered : AreNumbered (drawn cut) = c.in_memory.numbered ∙ ap first_numbers (sym (length-map (firsts cut) (λ (q : Question). q.id))) in
    let b = front answers t jobs w r cut whole c.cut c.in_memory.answered numbered log in
    turns_longer cut whole b.0 b.1
