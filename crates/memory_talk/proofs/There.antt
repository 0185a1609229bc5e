-- There is a whole log: turn by turn, until no job waits.
use Rattle.std.proofs.Common.{◌≡◌, ℕ, zero, suc, ◌+◌, ◌*◌, ◌<◌, ◌≤◌, Bool, true, false, List, [], ◌∷◌, ◌++◌, length, refl, sym, ◌∙◌, ap, subst, arith, append_assoc}
use Rattle.std.specs.List.{All, AllByRecursion, filter}
use Rattle.std.proofs.lemmas.List.{append-nil, length-map, map-append}
use Rattle.std.proofs.lemmas.List.Elements.{All-append, All-cons, All-filter, All-nil, All-same}
use Rattle.pac_names.specs.declared.limits.TheConstants.{MOST_NAMES}
use Rattle.pac_names.specs.Names.{Name}
use Rattle.js_host.specs.Answers.{AnswerMap}
use Rattle.poll_log.specs.declared.question.Question.{Question}
use Rattle.poll_log.specs.declared.terms.TheConstants.{FLOOD}
use Rattle.poll_log.specs.declared.terms.Terms.{Terms}
use Rattle.poll_log.specs.Sendings.{limit}
use Rattle.poll_log.specs.Turns.{Outgoing, Turns, Begin, Then, Event}
use Rattle.poll_log.specs.Beats.{events}
use Rattle.poll_log.specs.Questions.{IsQuestion, asked_in, drawn, first_sent, firsts, has_name, names_of, new_among, outgoing_from, questions}
use Rattle.poll_log.specs.Told.{Map, due_sends, told}
use Rattle.poll_log.specs.Jobs.{IsOwed, Job, WaitsBefore, once, some_wait, wanted}
use Rattle.poll_log.specs.Laws.{IsRestartable}
use Rattle.poll_log.proofs.Asking.{asked_in-outgoing}
use Rattle.poll_log.proofs.BeatLaws.{events-begin, events-then}
use Rattle.poll_log.proofs.Bounds.{bounded}
use Rattle.poll_log.proofs.Counts.{seen_filter}
use Rattle.poll_log.proofs.Dues.{again_are, firsts_proper, owed_begin, sent_as_due}
use Rattle.poll_log.proofs.Names.{AllNew, AllSeen, new_among-new, new_from-once}
use Rattle.poll_log.proofs.Outgoing.{new_to_first}
use Rattle.poll_log.proofs.TurnLaws.{due_next, due_unsent, falls_at, firsts-begin, firsts-then, told_by_event}
use Rattle.poll_loop.specs.Task.{AsksLookupNames}
use Rattle.poll_loop.proofs.Owing.{Named, once_named, wanted_named}
use Rattle.pac_generate.specs.Answered.{IsAnswered, due_reply, event_by}
use Rattle.memory_talk.specs.Numbers.{first_numbers, number_after}
use Rattle.memory_talk.specs.Laws.{IsLogOf, LogIsThere}
use Rattle.memory_talk.proofs.Moves.{moves_of, turns_back}
use Rattle.memory_talk.proofs.Same.{AreNumbered, IsSoFar, ids_of, length_numbers, told_none}

-- ---- questions under the next numbers

-- for these names, the first under this number
abbrev numbered_from : ℕ → List Name → List Question
numbered_from i [] = []
numbered_from i (n ∷ ns) = record { id = number_after i; name = n } ∷ numbered_from (suc i) ns

their_names : (i : ℕ) (ns : List Name) → names_of (numbered_from i ns) ≡ ns
their_names i [] = refl
their_names i (n ∷ ns) = ap (λ (l : List Name). n ∷ l) (their_names (suc i) ns)

their_numbers : (i : ℕ) (ns : List Name) → first_numbers i ++ ids_of (numbered_from i ns) ≡ first_numbers (i + length ns)
their_numbers i [] = append-nil (first_numbers i) ∙ ap first_numbers (let z : i ≡ i + 0 = omega arith in z)
their_numbers i (n ∷ ns) =
    sym (append_assoc (first_numbers i) (number_after i ∷ []) (ids_of (numbered_from (suc i) ns))) ∙ their_numbers (suc i) ns
    ∙ ap first_numbers (let z : suc i + length ns ≡ i + suc (length ns) = omega arith in z)

all_asked : (i : ℕ) (ns : List Name) → AllByRecursion Named ns → All IsQuestion (numbered_from i ns)
all_asked i [] named = All-nil IsQuestion
all_asked i (n ∷ ns) named =
    All-cons IsQuestion (record { id = number_after i; name = n }) (numbered_from (suc i) ns) (record { number = omega arith; name = named.0 }) (all_asked (suc i) ns named.1)

-- so the numbers go on
numbers_go_on : (before : List ℕ) (ns : List Name) → AreNumbered before → AreNumbered (before ++ ids_of (numbered_from (length before) ns))
numbers_go_on before ns numbered =
    let all : before ++ ids_of (numbered_from (length before) ns) ≡ first_numbers (length before + length ns) =
    ap (λ (l : List ℕ). l ++ ids_of (numbered_from (length before) ns)) numbered ∙ their_numbers (length before) ns in
    all ∙ ap first_numbers (sym (ap length all ∙ length_numbers (length before + length ns)))

-- what is new among these questions
new_sent : (earlier before fresh again : List Question) → AllNew before fresh → AllSeen (before ++ fresh) again → All IsQuestion (fresh ++ again)
    → new_among before (asked_in (outgoing_from earlier (fresh ++ again))) ≡ fresh
new_sent earlier before fresh again new seen proper = ap (new_among before) (asked_in-outgoing earlier (fresh ++ again) proper) ∙ new_among-new before fresh again new seen

-- ---- turn by turn

module _ (answers : AnswerMap) (t : Terms) (jobs : List Job) (w : 0 < t.wait) (r : 0 < t.tries) (named : All AsksLookupNames jobs) (laws : All (IsRestartable MOST_NAMES) jobs) where
  -- A log that can go on, and has so many events.
  record IsOpen (count : ℕ) : Type 0 where
    pub turns : Turns
    pub so_far : IsSoFar answers t jobs turns
    pub waited : WaitsBefore t jobs turns
    pub counted : events turns ≡ count

  asked_at : (before : List Question) (M : Map) → AllByRecursion Named (once (names_of before) (wanted jobs M))
  asked_at before M = once_named (names_of before) (wanted jobs M) (wanted_named jobs M named)

  begun : IsOpen 0
  unfolding IsAnswered
  begun =
      let M : Map = told t (Begin []) in
      let ns : List Name = once [] (wanted jobs M) in
      let fresh : List Question = numbered_from 0 ns in
      let sent : List Outgoing = first_sent fresh in
      let proper = all_asked 0 ns (asked_at [] M) in
      let new = new_from-once [] fresh (wanted jobs M) (their_names 0 ns) in
      let out : sent ≡ outgoing_from [] (fresh ++ []) = sym (ap (outgoing_from []) (append-nil fresh) ∙ new_to_first [] [] fresh new (λ n k. refl)) in
      let names : firsts (Begin sent) ≡ fresh =
      firsts-begin sent ∙ ap (λ (ds : List Outgoing). new_among [] (asked_in ds)) out
      ∙ new_sent [] [] fresh [] new tt (All-same IsQuestion (fresh ++ []) fresh (append-nil fresh) proper) in
      record {
        turns = Begin sent;
        so_far = record {
          sends = owed_begin t jobs w r fresh (their_names 0 ns ∙ ap (λ (N : Map). once [] (wanted jobs N)) (told_none t [] sent)) proper;
          answered = tt;
          numbered = subst AreNumbered (ap ids_of (sym names)) (numbers_go_on [] ns refl);
        };
        waited = tt;
        counted = events-begin sent;
      }

  next_turn : (count : ℕ) (o : IsOpen count) → some_wait t jobs o.turns ≡ true → IsOpen (count + 1)
  unfolding IsAnswered
  next_turn count o waits =
      let h : Turns = o.turns in
      let e : Event = event_by (due_reply answers h) in
      let M : Map = told t (Then h e []) in
      let ns : List Name = once (names_of (firsts h)) (wanted jobs M) in
      let fresh : List Question = numbered_from (length (drawn h)) ns in
      let falls : Question → Bool = λ q. falls_at t h e q.name in
      let again : List Question = filter falls (firsts h ++ fresh) in
      let sent : List Outgoing = outgoing_from (questions h) (fresh ++ again) in
      let asks = their_names (length (drawn h)) ns in
      let proper = all_asked (length (drawn h)) ns (asked_at (firsts h) M) in
      let all = All-append IsQuestion fresh again proper (All-filter falls IsQuestion (firsts h ++ fresh) (All-append IsQuestion (firsts h) fresh (firsts_proper t jobs h o.so_far.sends) proper)) in
      let new = new_from-once (firsts h) fresh (wanted jobs M) asks in
      let names : firsts (Then h e sent) ≡ firsts h ++ fresh =
      firsts-then h e sent ∙ ap (λ (qs : List Question). firsts h ++ qs) (new_sent (questions h) (firsts h) fresh again new (seen_filter falls [] (firsts h ++ fresh)) all) in
      let due =
      again_are t (questions h) (firsts h) fresh (Then h e sent) new (due_sends t h) (falls_at t h e) (sent_as_due t jobs w r h o.so_far.sends) (due_unsent t w r h)
      (λ n k. due_next t w r h e sent n (ap (has_name n) names ∙ k)) in
      let owed : IsOwed t jobs (questions h) (firsts h) (Then h e sent) sent =
      record {
        fresh = fresh;
        again = again;
        asks = asks ∙ ap (λ (N : Map). once (names_of (firsts h)) (wanted jobs N)) (told_by_event t h e [] sent);
        proper = proper;
        repeats = sym due;
        out = refl;
      } in
      let numbers : drawn (Then h e sent) ≡ drawn h ++ ids_of fresh = ap ids_of names ∙ map-append (λ (q : Question). q.id) (firsts h) fresh in
      record {
        turns = Then h e sent;
        so_far = record {
          sends = (o.so_far.sends, owed);
          answered = (o.so_far.answered, refl);
          numbered = subst AreNumbered (sym numbers) (numbers_go_on (drawn h) ns o.so_far.numbered);
        };
        waited = (o.waited, waits);
        counted = events-then h e sent ∙ ap (λ (n : ℕ). n + 1) o.counted;
      }

  -- no log has more events than so many
  abbrev most : ℕ
  most = FLOOD * (MOST_NAMES * limit t)

  too_many : (count : ℕ) (o : IsOpen count) → most ≤ count → some_wait t jobs o.turns ≡ true → ⊥
  too_many count o many waits =
      let few = (bounded MOST_NAMES t jobs o.turns laws o.so_far.sends o.waited).waiting waits in
      let counted = o.counted in
      omega (arith, few, counted, many)

  ended : (count : ℕ) (o : IsOpen count) → some_wait t jobs o.turns ≡ false → (whole : Turns) × IsLogOf answers t jobs whole
  ended count o e = (
    o.turns,
    record {
      polled = record { sends = o.so_far.sends; waits = o.waited; ended = e };
      in_memory = record {
        answered = o.so_far.answered;
        numbered = o.so_far.numbered ∙ ap first_numbers (length-map (firsts o.turns) (λ (q : Question). q.id));
      };
    },
  )

  -- so it ends
  goes_on : (left count : ℕ) → IsOpen count → most ≤ left + count → (whole : Turns) × IsLogOf answers t jobs whole
  goes_on zero count o low = go (some_wait t jobs o.turns) refl
    where
      go : (b : Bool) → some_wait t jobs o.turns ≡ b → (whole : Turns) × IsLogOf answers t jobs whole
      go true e = absurd (too_many count o (omega arith) e)
      go false e = ended count o e
  goes_on (suc left) count o low = go (some_wait t jobs o.turns) refl (λ e. goes_on left (count + 1) (next_turn count o e) (omega arith))
    where
      go : (b : Bool) → some_wait t jobs o.turns ≡ b → (some_wait t jobs o.turns ≡ true → (whole : Turns) × IsLogOf answers t jobs whole) → (whole : Turns) × IsLogOf answers t jobs whole
      go true e later = later e
      go false e later = ended count o e

pub log_is_there : LogIsThere
log_is_there answers task sound =
    let waits : 0 < task.terms.wait = sound.terms.waits in
    let tried : 0 < task.terms.tries = sound.terms.tried in
    let most : ℕ = FLOOD * (MOST_NAMES * limit task.terms) in
    let log = goes_on answers task.terms task.jobs waits tried sound.named sound.restartable most 0 (begun answers task.terms task.jobs waits tried sound.named sound.restartable) (omega arith) in
    (moves_of log.0, subst (IsLogOf answers task.terms task.jobs) (sym (turns_back log.0)) log.1)
