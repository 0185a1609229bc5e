-- One event more, and the sessions stand for the longer log.
use Rattle.std.proofs.Common.{◌≡◌, ℕ, suc, ◌+◌, ◌<◌, ◌≤◌, Bool, true, false, ◌||◌, not, List, [], ◌∷◌, ◌++◌, get_or, length, map, Option, Some, None, refl, sym, ◌∙◌, ap, subst, arith}
use Rattle.std.specs.Prelude.{⊤}
use Rattle.std.specs.FinMap as finite
use Rattle.std.specs.List.{All, filter, filter_map, list_any}
use Rattle.std.proofs.lemmas.List.{append-nil, get_or-map, length-map, take_all}
use Rattle.std.proofs.lemmas.List.Elements.{All-append, All-filter, All-map, All-same, All-weaker}
use Rattle.std.proofs.lemmas.List.Folds.{list_any-append}
use mathlib.Core.Path.{fun_ext}
use Rattle.pac_names.specs.Names.{Name}
use Rattle.pac_names.specs.Comparing.{one_name, same_name}
use Rattle.run_trees.specs.RunTree.{RunTree}
use Rattle.pac_ports.specs.Dice.{DiceTold}
use Rattle.poll_log.specs.declared.question.Question.{Question}
use Rattle.poll_log.specs.declared.sending.Sending.{Sending}
use Rattle.poll_log.specs.declared.terms.Terms.{Terms}
use Rattle.poll_log.specs.Sendings.{AreTerms, limit}
use Rattle.poll_log.specs.Turns.{Outgoing, Turns, Then, Event, Given, Tick}
use Rattle.poll_log.specs.Beats.{is_beat}
use Rattle.poll_log.specs.Questions.{IsQuestion, asked_in, first_sending, firsts, has_name, names_of, new_among, outgoing_of, questions}
use Rattle.poll_log.specs.Told.{Map, age, is_dead, told}
use Rattle.poll_log.specs.Moment.{dead_in, flights_of}
use Rattle.poll_log.specs.Jobs.{IsOwed, Job, SendsOwed, once, runs_of, some_wait, told_to, waits_unless, wanted}
use Rattle.poll_log.proofs.Bounds.{want_sent}
use Rattle.poll_log.proofs.Counts.{seen_filter}
use Rattle.poll_log.proofs.Dues.{falling, firsts_proper, owed_then}
use Rattle.poll_log.proofs.Names.{AllNew, AllSeen, has, has-append, has-names, new_from-once, or-first, true_false}
use Rattle.poll_log.proofs.Outgoing.{questions_of}
use Rattle.poll_log.proofs.TurnLaws.{accepted_unsent, falls_at, falls_due, told_by_event, told_next, told_unsent}
use Rattle.poll_log.specs.Told as log
use Rattle.stub_poller.specs.State.{StubState, beaten, dying, resent}
use Rattle.stub_poller.specs.Shows.{Shows}
use Rattle.stub_poller.specs.Driven.{asking_all, beaten_if, driven, receiving}
use Rattle.stub_poller.proofs.Driving.{asked_all_show, driven_flights, driven_shows, driven_terms}
use Rattle.stub_poller.proofs.Ages as ages
use Rattle.stub_poller.proofs.Falling.{again_falls, again_if}
use Rattle.poll_loop.specs.Counting.{HasCounted}
use Rattle.poll_loop.specs.Numbers.{GaveAll}
use Rattle.poll_loop.specs.Steps.{StepFails, Stepped}
use Rattle.poll_loop.specs.Task.{Task}
use Rattle.session_log.specs.Asked.{job_of}
use Rattle.session_log.specs.Sessions.{all_runs, waits_told}
use Rattle.session_log.proofs.Ends.{costs}
use Rattle.session_log.proofs.Totals.{grown}
use Rattle.session_core.specs.declared.lookups.Lookups.{Lookups}
use Rattle.session_core.specs.declared.poller.Core.{Core}
use Rattle.session_core.specs.declared.session.Progress.{Progress}
use Rattle.session_core.specs.declared.session.Progress.TheVariants.{Finished, Waiting, Unanswered}
use Rattle.session_core.specs.declared.session.Session.{Session}
use Rattle.session_core.specs.Lookups.{found_at, hearing, told_name, with_asked}
use Rattle.session_core.specs.Sessions.{IsPlaced, buried, count_woken, dead_of, died_with, if_dead, is_waiting, is_woken, unanswered_by}
use Rattle.session_core.specs.Settling.{numbers_of}
use Rattle.session_core.specs.Waiting.{ended, ended_all, ended_by, ended_if}
use Rattle.session_core.specs.Beginning.{run_jobs}
use Rattle.session_core.specs.Cascade.{Cascades, IsNext, KnowsThese, missed_names}
use Rattle.session_core.specs.Stands.{Stands, StandsFor, jobs_of, task_of}
use Rattle.session_core.proofs.Drawing.{GaveSome}
use Rattle.session_core.proofs.Found.{known, receiving_shows, table_told, tells}
use Rattle.session_core.proofs.Knowing.{asking_terms, dead_still}
use Rattle.session_core.proofs.Sent.{newly_sent}
use Rattle.session_core.proofs.Tells.{Tells, count_is, kept_job, next_counted, next_placed, once_missed}

-- ---- runs and jobs

-- each session goes on with its run
runs_same : {R Out : Type 0} (xs ys : List (Session R Out)) → length ys ≡ length xs → ((k : ℕ) (d : Session R Out) → k < length xs → (get_or ys k d).run ≡ (get_or xs k d).run) → map (λ s. s.run) ys ≡ map (λ s. s.run) xs
runs_same [] [] long same = refl
runs_same [] (y ∷ ys) long same = absurd (omega arith)
runs_same (x ∷ xs) [] long same = absurd (omega arith)
runs_same (x ∷ xs) (y ∷ ys) long same =
    ap (λ r. r ∷ map (λ s. s.run) ys) (same 0 x (omega arith))
    ∙ ap (λ l. x.run ∷ l) (runs_same xs ys (omega arith) (λ k d low. same (suc k) d (omega arith)))

pub buried_keeps : {R Out : Type 0} (stub : StubState) (xs : List (Session R Out)) → map (λ s. s.run) (map (buried stub) xs) ≡ map (λ s. s.run) xs
buried_keeps stub [] = refl
buried_keeps stub (x ∷ xs) = ap (λ l. x.run ∷ l) (buried_keeps stub xs)

pub ended_keeps : {R Out : Type 0} (names : List Name) (xs : List (Session R Out)) → map (λ s. s.run) (ended_all names xs) ≡ map (λ s. s.run) xs
ended_keeps [] xs = refl
ended_keeps {R = R} {Out = Out} (n ∷ names) xs = ended_keeps names (map (ended_by n) xs) ∙ one xs
  where
    one : (ys : List (Session R Out)) → map (λ s. s.run) (map (ended_by n) ys) ≡ map (λ s. s.run) ys
    one [] = refl
    one (y ∷ ys) = ap (λ l. y.run ∷ l) (one ys)

pub cascades_keep : {R Out End : Type 0} (gives : Out → End → List (List ℕ) → Type 0) (tree : R → RunTree End) (told : Option Name) (sessions sessions' : List (Session R Out)) (lookups lookups' : Lookups) (dice dice' : Option DiceTold) (asked : List Question) → Cascades gives tree told sessions sessions' lookups lookups' dice dice' asked → map (λ s. s.run) sessions' ≡ map (λ s. s.run) sessions
cascades_keep gives tree told sessions sessions' lookups lookups' dice dice' asked c =
    runs_same sessions sessions' c.long (λ k d low. (c.next k d low).run)

module _ {R Out End : Type 0} (tree : R → RunTree End) where
  pub jobs_run : (sessions : List (Session R Out)) → jobs_of tree sessions ≡ run_jobs tree (map (λ s. s.run) sessions)
  jobs_run [] = refl
  jobs_run (s ∷ sessions) = ap (λ l. job_of (tree s.run) ∷ l) (jobs_run sessions)

  jobs_same : (xs ys : List (Session R Out)) → map (λ s. s.run) ys ≡ map (λ s. s.run) xs → jobs_of tree ys ≡ jobs_of tree xs
  jobs_same xs ys same = jobs_run ys ∙ ap (run_jobs tree) same ∙ sym (jobs_run xs)

-- ---- deaths

dead_received : (e : Event) (stub : StubState) → dead_of (receiving e stub) ≡ dead_of stub
dead_received (Given d) stub = refl
dead_received Tick stub = refl

still_dead : (stub : StubState) (n : Name) → dead_of stub n ≡ true → dead_of (beaten stub) n ≡ true
still_dead stub n e = has-append n stub.dead (dying stub) ∙ or-first _ _ e

module _ {R Out End : Type 0} (gives : Out → End → List (List ℕ) → Type 0) (tree : R → RunTree End) (M : Map) (stub : StubState) where
  buried_placed : (s : Session R Out) → IsPlaced gives (tree s.run) M (dead_of stub) s.progress → IsPlaced gives (tree s.run) M (dead_of (beaten stub)) (buried (beaten stub) s).progress
  buried_placed s p = go s.progress p
    where
      dies : (n : Name) (b : Bool) → dead_of (beaten stub) n ≡ b → job_of (tree s.run) M ≡ Some n → IsPlaced gives (tree s.run) M (dead_of (beaten stub)) (unanswered_by (if_dead n b) (Waiting n))
      dies n true d first = (first, d)
      dies n false d first = (first, d)

      go : (progress : Progress Out) → IsPlaced gives (tree s.run) M (dead_of stub) progress → IsPlaced gives (tree s.run) M (dead_of (beaten stub)) (unanswered_by (died_with (beaten stub) progress) progress)
      go (Waiting n) p = dies n (dead_of (beaten stub) n) refl p.0
      go (Finished out) p = p
      go (Unanswered n) p = (p.0, still_dead stub n p.1)

-- what waits waits for a name that is not dead
abbrev pub IsAlive : {Out : Type 0} → StubState → Progress Out → Type 0
IsAlive stub (Waiting n) = dead_of stub n ≡ false
IsAlive stub (Finished out) = ⊤
IsAlive stub (Unanswered n) = ⊤

placed_alive : {Out End : Type 0} (gives : Out → End → List (List ℕ) → Type 0) (run : RunTree End) (M : Map) (stub : StubState) (p : Progress Out) → IsPlaced gives run M (dead_of stub) p → IsAlive stub p
placed_alive gives run M stub (Waiting n) placed = placed.1
placed_alive gives run M stub (Finished out) placed = tt
placed_alive gives run M stub (Unanswered n) placed = tt

-- ended, name by name
abbrev ended_each : {R Out : Type 0} → List Name → Session R Out → Session R Out
ended_each [] s = s
ended_each (n ∷ names) s = ended_each names (ended_by n s)

same_sym : (a b : Name) → same_name a b ≡ same_name b a
same_sym a b = go (same_name a b) refl (same_name b a) refl
  where
    go : (x : Bool) → same_name a b ≡ x → (y : Bool) → same_name b a ≡ y → x ≡ y
    go true e true f = refl
    go false e false f = refl
    go true e false f = true_false (sym ((one_name b a).1 (sym ((one_name a b).0 e))) ∙ f)
    go false e true f = true_false (sym ((one_name a b).1 (sym ((one_name b a).0 f))) ∙ e)

module _ {R Out : Type 0} (stub : StubState) where
  all_each : (names : List Name) (xs : List (Session R Out)) → ended_all names xs ≡ map (ended_each names) xs
  all_each [] xs = same xs
    where
      same : (ys : List (Session R Out)) → ys ≡ map (λ s. s) ys
      same [] = refl
      same (y ∷ ys) = ap (λ l. y ∷ l) (same ys)
  all_each (n ∷ names) xs = all_each names (map (ended_by n) xs) ∙ both xs
    where
      both : (ys : List (Session R Out)) → map (ended_each names) (map (ended_by n) ys) ≡ map (ended_each (n ∷ names)) ys
      both [] = refl
      both (y ∷ ys) = ap (λ l. ended_each names (ended_by n y) ∷ l) (both ys)

  -- who is unanswered stays so, and so does who is finished
  each_unanswered : (names : List Name) (s : Session R Out) (m : Name) → s.progress ≡ Unanswered m → ended_each names s ≡ s
  each_unanswered [] s m e = refl
  each_unanswered (n ∷ names) s m e =
      let same : ended_by n s ≡ s = ap (λ p. record s { progress = ended n p }) e ∙ ap (λ p. record s { progress = p }) (sym e) in
      ap (ended_each names) same ∙ each_unanswered names s m e

  each_finished : (names : List Name) (s : Session R Out) (out : Out) → s.progress ≡ Finished out → ended_each names s ≡ s
  each_finished [] s out e = refl
  each_finished (n ∷ names) s out e =
      let same : ended_by n s ≡ s = ap (λ p. record s { progress = ended n p }) e ∙ ap (λ p. record s { progress = p }) (sym e) in
      ap (ended_each names) same ∙ each_finished names s out e

  each_waiting : (names : List Name) (s : Session R Out) (m : Name) → s.progress ≡ Waiting m → ended_each names s ≡ record s { progress = unanswered_by (if_dead m (list_any (λ n. same_name n m) names)) (Waiting m) }
  each_waiting [] s m e = ap (λ p. record s { progress = p }) e
  each_waiting (n ∷ names) s m e = ap (λ p. ended_each names (record s { progress = ended n p })) e ∙ go (same_name m n) refl (λ x e. each_waiting names x m e)
    where
      go : (b : Bool) → same_name m n ≡ b → ((x : Session R Out) → x.progress ≡ Waiting m → ended_each names x ≡ record x { progress = unanswered_by (if_dead m (list_any (λ y. same_name y m) names)) (Waiting m) }) → ended_each names (record s { progress = ended_if b m }) ≡ record s { progress = unanswered_by (if_dead m (same_name n m || list_any (λ x. same_name x m) names)) (Waiting m) }
      go true f ih =
          each_unanswered names (record s { progress = Unanswered m }) m refl
          ∙ ap (λ b. record s { progress = unanswered_by (if_dead m (b || list_any (λ x. same_name x m) names)) (Waiting m) }) (sym (same_sym n m ∙ f))
      go false f ih =
          ih (record s { progress = Waiting m }) refl
          ∙ ap (λ b. record s { progress = unanswered_by (if_dead m (b || list_any (λ x. same_name x m) names)) (Waiting m) }) (sym (same_sym n m ∙ f))

  each_buried : (s : Session R Out) → IsAlive stub s.progress → ended_each (dying stub) s ≡ buried (beaten stub) s
  each_buried s a = go s.progress refl a
    where
      go : (p : Progress Out) → s.progress ≡ p → IsAlive stub p → ended_each (dying stub) s ≡ record s { progress = unanswered_by (died_with (beaten stub) p) p }
      go (Waiting m) e k =
          let all : dead_of (beaten stub) m ≡ list_any (λ n. same_name n m) (dying stub) =
          list_any-append (λ n. same_name n m) stub.dead (dying stub) ∙ ap (λ b. b || list_any (λ n. same_name n m) (dying stub)) k
          in
          each_waiting (dying stub) s m e ∙ ap (λ b. record s { progress = unanswered_by (if_dead m b) (Waiting m) }) (sym all)
      go (Finished out) e k = each_finished (dying stub) s out e ∙ ap (λ p. record s { progress = p }) e
      go (Unanswered m) e k = each_unanswered (dying stub) s m e ∙ ap (λ p. record s { progress = p }) e

  -- where who waits is alive, ending those who wait for a dying name is burying
  ended_buried : (xs : List (Session R Out)) → All (λ x. IsAlive stub x.progress) xs → ended_all (dying stub) xs ≡ map (buried (beaten stub)) xs
  ended_buried xs a = all_each (dying stub) xs ∙ every xs a
    where
      every : (ys : List (Session R Out)) → All (λ y. IsAlive stub y.progress) ys → map (ended_each (dying stub)) ys ≡ map (buried (beaten stub)) ys
      every [] b = refl
      every (y ∷ ys) b = ap (λ z. z ∷ map (ended_each (dying stub)) ys) (each_buried y (b 0 y (omega arith))) ∙ ap (λ l. buried (beaten stub) y ∷ l) (every ys (λ k d low. b (suc k) d (omega arith)))

-- the sessions after an event that is a beat, or none
abbrev pub closed : {R Out : Type 0} → Bool → StubState → List (Session R Out) → List (Session R Out)
closed true stub sessions = map (buried stub) sessions
closed false stub sessions = sessions

-- ---- one event

module _ {R Out End : Type 0} (gives : Out → End → List (List ℕ) → Type 0) (tree : R → RunTree End) (sessions : List (Session R Out)) (lookups : Lookups) (task : Task) (h : Turns) (s : Stands gives tree sessions lookups task h) (e : Event) where
  abbrev stub : StubState
  stub = lookups.stub

  abbrev t : Terms
  t = stub.terms

  abbrev jobs : List Job
  jobs = jobs_of tree sessions

  abbrev before : Map
  before = told t h

  abbrev after : Map
  after = told t (Then h e [])

  abbrev word : Option Name
  word = told_name (found_at e stub)

  lasts : 0 < limit t
  lasts = ages.lasts t s.ranges.waits s.ranges.tried

  told_now : Tells word before after (dead_of stub)
  told_now = tells t h lasts stub s.flying lookups.table s.told_is e

  abbrev Here : Session R Out → Type 0
  Here x = IsPlaced gives (tree x.run) before (dead_of stub) x.progress

  placed_here : All Here sessions
  placed_here = subst (λ M. All (λ x. IsPlaced gives (tree x.run) M (dead_of stub) x.progress) sessions) (fun_ext s.told_is) s.placed

  -- how many runs an event costs, before anything is sent
  pub cost_of : all_runs t jobs h + count_woken word sessions ≡ all_runs t jobs (Then h e [])
  cost_of =
      let more = grown t jobs h e [] in
      let count : count_woken word sessions ≡ waits_told jobs before after = count_is gives word before after (dead_of stub) told_now tree sessions placed_here in
      omega arith

  module _ (sessions' : List (Session R Out)) (last : Lookups) (dice dice' : Option DiceTold) (asked : List Question) (cascades : Cascades gives tree word sessions sessions' (hearing e lookups) last dice dice' asked) where
    -- the stub when all was asked
    abbrev mid : StubState
    mid = asking_all asked (receiving e stub)

    table_next : finite.get (hearing e lookups).table ≡ after
    table_next = fun_ext (table_told t h lasts stub s.flying lookups.table s.told_is e)

    next : (k : ℕ) (d : Session R Out) → k < length sessions → IsNext gives tree (is_woken word (get_or sessions k d).progress) after (dead_of stub) (get_or sessions k d) (get_or sessions' k d)
    next k d low =
        subst (λ M. IsNext gives tree (is_woken word (get_or sessions k d).progress) M (dead_of stub) (get_or sessions k d) (get_or sessions' k d)) table_next
        (subst (λ dead. IsNext gives tree (is_woken word (get_or sessions k d).progress) (finite.get (hearing e lookups).table) dead (get_or sessions k d) (get_or sessions' k d)) (dead_received e stub) (cascades.next k d low))

    same_jobs : jobs_of tree sessions' ≡ jobs
    same_jobs = jobs_same tree sessions sessions' (cascades_keep gives tree word sessions sessions' (hearing e lookups) last dice dice' asked cascades)

    -- what was asked
    was_wanted : (k : ℕ) (d : Session R Out) → k < length sessions → is_woken word (get_or sessions k d).progress ≡ false → (m : Name) → job_of (tree (get_or sessions k d).run) after ≡ Some m → has m (names_of (firsts h)) ≡ true
    was_wanted k d low w m j =
        let x : Session R Out = get_or sessions k d in
        let kept : job_of (tree x.run) after ≡ job_of (tree x.run) before = kept_job gives word before after (dead_of stub) told_now (tree x.run) x.progress (placed_here k d low) w in
        let at : get_or jobs k (job_of (tree d.run)) ≡ job_of (tree x.run) = get_or-map (λ (y : Session R Out). job_of (tree y.run)) sessions k d (job_of (tree d.run)) low in
        let many : length jobs ≡ length sessions = length-map sessions (λ y. job_of (tree y.run)) in
        has-names m (firsts h) ∙ want_sent t jobs h s.sends k (job_of (tree d.run)) m (omega arith) (ap (λ (f : Job). f before) at ∙ sym kept ∙ j)

    knows_sent : KnowsThese (receiving e stub) (finite.get (hearing e lookups).table) (names_of (firsts h))
    knows_sent = subst (λ M. KnowsThese (receiving e stub) M (names_of (firsts h))) (sym table_next) (known t h lasts stub s.flying lookups.table s.told_is e)

    asks : names_of asked ≡ once (names_of (firsts h)) (wanted jobs after)
    asks =
        cascades.asks (names_of (firsts h)) knows_sent
        ∙ ap (λ l. once (names_of (firsts h)) (missed_names tree word (finite.get (hearing e lookups).table) l)) (take_all (length sessions) sessions (omega arith))
        ∙ ap (λ M. once (names_of (firsts h)) (missed_names tree word M sessions)) table_next
        ∙ once_missed gives word before after (dead_of stub) told_now tree (names_of (firsts h)) sessions was_wanted

    new : AllNew (firsts h) asked
    new = new_from-once (firsts h) asked (wanted jobs after) asks

    unsent_untold : (m : Name) → has_name m (firsts h) ≡ false → after m ≡ None
    unsent_untold m k = told_next t h e [] m ∙ ap (λ r. log.or_else r (log.accepted t h e m)) (told_unsent t h m k) ∙ accepted_unsent t h e m k

    mid_shows : Shows mid after (age h) (firsts h ++ asked)
    mid_shows = asked_all_show asked (receiving e stub) after (age h) (firsts h) (receiving_shows t h lasts stub s.flying lookups.table s.told_is e) new unsent_untold

    mid_terms : mid.terms ≡ t
    mid_terms = asking_terms asked (receiving e stub) ∙ received_terms e
      where
        received_terms : (e : Event) → (receiving e stub).terms ≡ stub.terms
        received_terms (Given d) = refl
        received_terms Tick = refl

    abbrev sent_first : List Question
    sent_first = firsts h ++ asked

    abbrev again : List Sending
    again = again_if (is_beat h e) mid

    abbrev sent : List Outgoing
    sent = map outgoing_of (map first_sending asked ++ again)

    again_is : again ≡ filter_map (falls_due t h e) sent_first
    again_is = again_falls t h e sent_first mid mid_terms mid_shows (is_beat h e) refl

    owed : IsOwed t jobs (questions h) (firsts h) (Then h e sent) sent
    owed = owed_then t jobs s.ranges.waits s.ranges.tried h e asked again s.sends asks cascades.proper again_is

    -- the first sends of the turn are those that were asked
    newly : new_among (firsts h) (asked_in sent) ≡ asked
    newly =
        newly_sent (firsts h) asked again cascades.proper
        (All-same IsQuestion (questions_of again) _ asked_again (All-filter _ IsQuestion sent_first (All-append IsQuestion (firsts h) asked (firsts_proper t jobs h s.sends) cascades.proper)))
        new (subst (AllSeen sent_first) (sym asked_again) (seen_filter _ [] sent_first))
      where
        asked_again : questions_of again ≡ filter (λ q. falls_at t h e q.name) sent_first
        asked_again = ap questions_of again_is ∙ falling t jobs s.ranges.waits s.ranges.tried h e sent_first

    flying : beaten_if (is_beat h e) mid ≡ driven t (Then h e sent)
    unfolding driven
    flying =
        ap (λ x. beaten_if (is_beat h e) (asking_all asked (receiving e x))) s.flying
        ∙ ap (λ qs. beaten_if (is_beat h e) (asking_all qs (receiving e (driven t h)))) (sym newly)

    -- what becomes of each session
    placed_next : All (λ x. IsPlaced gives (tree x.run) after (dead_of mid) x.progress) sessions'
    placed_next k d low =
        let many : length sessions' ≡ length sessions = cascades.long in
        let same : dead_of stub ≡ dead_of mid = sym (fun_ext (dead_still asked (receiving e stub)) ∙ dead_received e stub) in
        subst (λ dead. IsPlaced gives (tree (get_or sessions' k d).run) after dead (get_or sessions' k d).progress) same
        (next_placed gives word before after (dead_of stub) told_now tree (get_or sessions k d) (get_or sessions' k d) (next k d (omega arith)) (placed_here k d (omega arith)))

    counted_next : All (λ x. x.runs ≡ runs_of t (Then h e sent) (job_of (tree x.run))) sessions'
    unfolding runs_of
    counted_next k d low =
        let many : length sessions' ≡ length sessions = cascades.long in
        let short : k < length sessions = omega arith in
        let x : Session R Out = get_or sessions k d in
        let few = (costs t h (tree x.run)).most in
        next_counted gives word before after (dead_of stub) told_now tree x (get_or sessions' k d) (runs_of t h (job_of (tree x.run))) (next k d short) (placed_here k d short) (s.counted k d short) few
        ∙ ap (λ M. runs_of t h (job_of (tree x.run)) + told_to (job_of (tree x.run) before) M) (told_by_event t h e [] sent)
        ∙ ap (λ r. runs_of t h (job_of (tree r)) + told_to (job_of (tree r) before) (told t (Then h e sent))) (sym (next k d short).run)

    module _ (b : Bool) (beats : b ≡ is_beat h e) (n : ℕ) (counts : HasCounted n (Then h e sent)) where
      abbrev sessions'' : List (Session R Out)
      sessions'' = closed b (beaten mid) sessions'

      abbrev lookups'' : Lookups
      lookups'' = record { table = (hearing e lookups).table; stub = beaten_if b mid; beats = n }

      closed_jobs : (c : Bool) → jobs_of tree (closed c (beaten mid) sessions') ≡ jobs
      closed_jobs true = jobs_same tree sessions' (map (buried (beaten mid)) sessions') (buried_keeps (beaten mid) sessions') ∙ same_jobs
      closed_jobs false = same_jobs

      closed_terms : (c : Bool) → (beaten_if c mid).terms ≡ t
      closed_terms true = mid_terms
      closed_terms false = mid_terms

      closed_placed : (c : Bool) → All (λ x. IsPlaced gives (tree x.run) after (dead_of (beaten_if c mid)) x.progress) (closed c (beaten mid) sessions')
      closed_placed false = placed_next
      closed_placed true =
          All-map (λ x. IsPlaced gives (tree x.run) after (dead_of (beaten mid)) x.progress) (buried (beaten mid)) sessions'
          (All-weaker (λ x. IsPlaced gives (tree x.run) after (dead_of mid) x.progress) (λ x. IsPlaced gives (tree x.run) after (dead_of (beaten mid)) (buried (beaten mid) x).progress) (buried_placed gives tree after mid) sessions' placed_next)

      closed_counted : (c : Bool) → All (λ x. x.runs ≡ runs_of t (Then h e sent) (job_of (tree x.run))) (closed c (beaten mid) sessions')
      closed_counted false = counted_next
      closed_counted true = All-map (λ x. x.runs ≡ runs_of t (Then h e sent) (job_of (tree x.run))) (buried (beaten mid)) sessions' counted_next

      stands_next : Stands gives tree sessions'' lookups'' (task_of t jobs) (Then h e sent)
      stands_next =
          let terms : lookups''.stub.terms ≡ t = closed_terms b in
          let js : jobs_of tree sessions'' ≡ jobs = closed_jobs b in
          record {
            same = ap (λ x. task_of x jobs) (sym terms) ∙ ap (task_of lookups''.stub.terms) (sym js);
            ranges = subst AreTerms (sym terms) s.ranges;
            sends = subst (λ x. SendsOwed x (jobs_of tree sessions'') (Then h e sent)) (sym terms) (subst (λ l. SendsOwed t l (Then h e sent)) (sym js) (s.sends, owed));
            flying = ap (λ c. beaten_if c mid) beats ∙ flying ∙ ap (λ x. driven x (Then h e sent)) (sym terms);
            told_is = λ m. ap (λ (M : Map). M m) (table_next ∙ told_by_event t h e [] sent) ∙ ap (λ x. told x (Then h e sent) m) (sym terms);
            placed = subst (λ M. All (λ x. IsPlaced gives (tree x.run) M (dead_of lookups''.stub) x.progress) sessions'') (sym table_next) (closed_placed b);
            counted = subst (λ x. All (λ y. y.runs ≡ runs_of x (Then h e sent) (job_of (tree y.run))) sessions'') (sym terms) (closed_counted b);
            beating = counts;
          }

      module _ (runs runs' : ℕ) (ran : runs' ≡ runs + count_woken word sessions) where
        total_next : runs' + all_runs t jobs h ≡ runs + all_runs t jobs (Then h e sent)
        total_next =
            let more = grown t jobs h e sent in
            let same : waits_told jobs before after ≡ waits_told jobs before (told t (Then h e sent)) = ap (waits_told jobs before) (told_by_event t h e [] sent) in
            let count : count_woken word sessions ≡ waits_told jobs before after = count_is gives word before after (dead_of stub) told_now tree sessions placed_here in
            omega arith

        -- one event was treated whole
        pub stepped : Stepped (Stands gives tree sessions'' lookups'' task) task h e sent dice dice' runs runs'
        stepped =
            subst (λ x. Stepped (Stands gives tree sessions'' lookups'' x) x h e sent dice dice' runs runs') (sym s.same)
            (record { stands = stands_next; owed = owed; drew = subst (λ qs. GaveAll dice (numbers_of qs) dice') (sym newly) cascades.drew; ran = total_next })

-- ---- as the code finds it

-- The event was heard, and the sessions that waited for what it tells ran again; then it was counted.
module _ {R Out End : Type 0} (gives : Out → End → List (List ℕ) → Type 0) (tree : R → RunTree End) (sessions sessions' : List (Session R Out)) (lookups heard mid : Lookups) (n : ℕ) (e : Event) (told : Option Name) (beat : Bool) (dice dice' : Option DiceTold) (runs runs' : ℕ) (asked : List Question) (first : List Sending)
    (told_is : told ≡ told_name (found_at e lookups.stub)) (heard_is : heard ≡ hearing e lookups)
    (ran_again : Cascades gives tree told sessions sessions' heard mid dice dice' asked) (ran : runs' ≡ runs + count_woken told sessions)
    (first_is : first ≡ map first_sending asked)
    (tests : (turns : Turns) → HasCounted mid.beats turns → beat ≡ is_beat turns e) (counts : (turns : Turns) (sent : List Outgoing) → HasCounted mid.beats turns → HasCounted n (Then turns e sent)) where
  cascades : Cascades gives tree (told_name (found_at e lookups.stub)) sessions sessions' (hearing e lookups) mid dice dice' asked
  cascades =
      subst (λ w. Cascades gives tree w sessions sessions' (hearing e lookups) mid dice dice' asked) told_is
      (subst (λ l. Cascades gives tree told sessions sessions' l mid dice dice' asked) heard_is ran_again)

  abbrev stub_then : StubState
  stub_then = asking_all asked (receiving e lookups.stub)

  -- what is known when the event was counted
  abbrev then_with : Lookups → StubState → Lookups
  then_with l stub = record l { stub = stub; beats = n }

  module _ (task : Task) (h : Turns) (s : Stands gives tree sessions lookups task h) where
    beating : HasCounted mid.beats h
    beating = ap (λ (l : Lookups). l.beats) cascades.lookups_are ∙ s.beating

    abbrev sent_at : Bool → List Outgoing
    sent_at b = map outgoing_of (map first_sending asked ++ again_if b stub_then)

    by_beat : (b : Bool) → beat ≡ b → Stepped (Stands gives tree (closed b (beaten stub_then) sessions') (then_with (with_asked asked (hearing e lookups)) (beaten_if b stub_then)) task) task h e (sent_at b) dice dice' runs runs'
    by_beat b k =
        let is : is_beat h e ≡ b = sym (tests h beating) ∙ k in
        subst (λ c. Stepped (Stands gives tree (closed b (beaten stub_then) sessions') (then_with (with_asked asked (hearing e lookups)) (beaten_if b stub_then)) task) task h e (sent_at c) dice dice' runs runs') is
        (stepped gives tree sessions lookups task h s e sessions' mid dice dice' asked cascades b (sym is) n (counts h (sent_at (is_beat h e)) beating) runs runs' (ran ∙ ap (λ w. runs + count_woken w sessions) told_is))

    -- an event that is no beat
    pub stepped_none : beat ≡ false → Stepped (Stands gives tree sessions' (then_with mid mid.stub) task) task h e (map outgoing_of first) dice dice' runs runs'
    stepped_none b =
        subst (λ l. Stepped (Stands gives tree sessions' (then_with l l.stub) task) task h e (map outgoing_of first) dice dice' runs runs') (sym cascades.lookups_are)
        (subst (λ l. Stepped (Stands gives tree sessions' (then_with (with_asked asked (hearing e lookups)) stub_then) task) task h e (map outgoing_of l) dice dice' runs runs') (append-nil (map first_sending asked) ∙ sym first_is) (by_beat false b))

    -- who waits waits for a name that is alive
    alive : All (λ (x : Session R Out). IsAlive mid.stub x.progress) sessions'
    alive k d low =
        subst (λ (l : Lookups). IsAlive l.stub (get_or sessions' k d).progress) (sym cascades.lookups_are)
        (placed_alive gives (tree (get_or sessions' k d).run) (after gives tree sessions lookups task h s e) stub_then (get_or sessions' k d).progress (placed_next gives tree sessions lookups task h s e sessions' mid dice dice' asked cascades k d low))

    -- a beat
    pub stepped_beat : beat ≡ true → (repeats sent : List Sending) (last : List (Session R Out)) (stub' : StubState) → repeats ≡ resent mid.stub → stub' ≡ beaten mid.stub → last ≡ ended_all (dying mid.stub) sessions' → sent ≡ first ++ repeats → Stepped (Stands gives tree last (then_with mid stub') task) task h e (map outgoing_of sent) dice dice' runs runs'
    stepped_beat b repeats sent last stub' a k l w =
        subst (λ x. Stepped (Stands gives tree last (then_with mid x) task) task h e (map outgoing_of sent) dice dice' runs runs') (sym k)
        (subst (λ x. Stepped (Stands gives tree x (then_with mid (beaten mid.stub)) task) task h e (map outgoing_of sent) dice dice' runs runs') (sym (l ∙ ended_buried mid.stub sessions' alive))
        (subst (λ x. Stepped (Stands gives tree (map (buried (beaten mid.stub)) sessions') (then_with mid (beaten mid.stub)) task) task h e (map outgoing_of x) dice dice' runs runs') (ap (λ x. x ++ resent mid.stub) (sym first_is) ∙ ap (λ x. first ++ x) (sym a) ∙ sym w)
        (subst (λ m. Stepped (Stands gives tree (map (buried (beaten m.stub)) sessions') (then_with m (beaten m.stub)) task) task h e (map outgoing_of (map first_sending asked ++ resent m.stub)) dice dice' runs runs') (sym cascades.lookups_are) (by_beat true b))))

-- memory ran out in the midst of an event
pub step_fails : {R Out End : Type 0} (gives : Out → End → List (List ℕ) → Type 0) (tree : R → RunTree End) (sessions : List (Session R Out)) (lookups : Lookups) (e : Event) (told : Option Name) (dice dice' : Option DiceTold) (runs runs' : ℕ) → told ≡ told_name (found_at e lookups.stub) → GaveSome dice dice' → runs' ≤ runs + count_woken told sessions → (task : Task) (h : Turns) → Stands gives tree sessions lookups task h → StepFails task h e dice dice' runs runs'
step_fails gives tree sessions lookups e told dice dice' runs runs' told_is drew few task h s =
    subst (λ x. StepFails x h e dice dice' runs runs') (sym s.same)
    (record {
      drew = drew;
      ran =
          let cost = cost_of gives tree sessions lookups task h s e in
          let low : runs' ≤ runs + count_woken (told_name (found_at e lookups.stub)) sessions = subst (λ w. runs' ≤ runs + count_woken w sessions) told_is few in
          omega arith;
    })

-- whether nobody waits
module _ {R Out End : Type 0} (gives : Out → End → List (List ℕ) → Type 0) (tree : R → RunTree End) (M : Map) (dead : Name → Bool) where
  waits_as : (run : RunTree End) (progress : Progress Out) → IsPlaced gives run M dead progress → is_waiting progress ≡ waits_unless dead (job_of run M)
  waits_as run (Waiting m) p = sym (ap (waits_unless dead) p.0 ∙ ap not p.1)
  waits_as run (Finished out) p = sym (ap (waits_unless dead) p.0)
  waits_as run (Unanswered m) p = sym (ap (waits_unless dead) p.0 ∙ ap not p.1)

  some_as : (sessions : List (Session R Out)) → All (λ x. IsPlaced gives (tree x.run) M dead x.progress) sessions → list_any (λ x. is_waiting x.progress) sessions ≡ list_any (λ job. waits_unless dead (job M)) (jobs_of tree sessions)
  some_as [] p = refl
  some_as (x ∷ sessions) p =
      ap (λ b. b || list_any (λ (y : Session R Out). is_waiting y.progress) sessions) (waits_as (tree x.run) x.progress (p 0 x (omega arith)))
      ∙ ap (λ b. waits_unless dead (job_of (tree x.run) M) || b) (some_as sessions (λ k d low. p (suc k) d (omega arith)))

module _ {R Out End : Type 0} (gives : Out → End → List (List ℕ) → Type 0) (tree : R → RunTree End) (sessions : List (Session R Out)) (lookups : Lookups) (task : Task) (h : Turns) (s : Stands gives tree sessions lookups task h) where
  pub dead_is : dead_of lookups.stub ≡ is_dead lookups.stub.terms h
  unfolding is_dead dead_in
  dead_is =
      fun_ext (λ m.
      ap (λ x. dead_of x m) s.flying
      ∙ (driven_shows lookups.stub.terms h (ages.lasts lookups.stub.terms s.ranges.waits s.ranges.tried)).dying m
      ∙ ap (λ x. dead_in (limit x) (told lookups.stub.terms h) (age h) (firsts h) m) (driven_terms lookups.stub.terms h))

  pub flights_are : lookups.stub.flights ≡ flights_of task.terms h
  flights_are =
      ap (λ (x : StubState). x.flights) s.flying
      ∙ driven_flights lookups.stub.terms h (ages.lasts lookups.stub.terms s.ranges.waits s.ranges.tried)
      ∙ sym (ap (λ (x : Task). flights_of x.terms h) s.same)

  pub waits_is : list_any (λ x. is_waiting x.progress) sessions ≡ some_wait task.terms task.jobs h
  waits_is =
      some_as gives tree (told lookups.stub.terms h) (dead_of lookups.stub) sessions (subst (λ M. All (λ x. IsPlaced gives (tree x.run) M (dead_of lookups.stub) x.progress) sessions) (fun_ext s.told_is) s.placed)
      ∙ ap (λ dead. list_any (λ (job : Job). waits_unless dead (job (told lookups.stub.terms h))) (jobs_of tree sessions)) dead_is
      ∙ sym (ap (λ (x : Task). some_wait x.terms x.jobs h) s.same)

-- memory didn't run out
pub stepped_whole : {R Out End : Type 0} (gives : Out → End → List (List ℕ) → Type 0) (tree : R → RunTree End) (core : Core R Out) (sessions : List (Session R Out)) (task : Task) (h : Turns) (e : Event) (out : List Outgoing) (dice dice' : Option DiceTold) (runs runs' : ℕ) → core.sessions.broken ≡ false → core.sessions.roster.all.items ≡ sessions → Stepped (Stands gives tree sessions core.lookups task) task h e out dice dice' runs runs' → Stepped (StandsFor gives tree core task) task h e out dice dice' runs runs'
stepped_whole gives tree core sessions task h e out dice dice' runs runs' whole is p =
    record { stands = record { whole = whole; stands = subst (λ l. Stands gives tree l core.lookups task (Then h e out)) (sym is) p.stands }; owed = p.owed; drew = p.drew; ran = p.ran }
