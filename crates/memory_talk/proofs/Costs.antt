-- A log that is cut short costs no more runs than a whole one: turn by turn both send the same names and are told the same,
-- whatever numbers their questions carry.
use Rattle.std.proofs.Common.{◌≡◌, ℕ, ◌+◌, ◌<◌, ◌≤◌, ◌⊎◌, Bool, true, false, cond, ◌||◌, inl, inr, List, [], ◌∷◌, ◌++◌, take, length, Option, Some, None, refl, sym, ◌∙◌, ap, subst, arith}
use Rattle.std.specs.List.{AllByRecursion, list_any}
use Rattle.std.proofs.lemmas.Bool.{cases_lt, or_cases}
use Rattle.std.proofs.lemmas.List.{length-map, length_push, map-append, take-append-le, take_at}
use Rattle.std.proofs.lemmas.List.Elements.{recursion_from_All}
use Rattle.pac_names.specs.Comparing.{same_name}
use Rattle.pac_names.specs.Names.{Name}
use mathlib.Core.Path.{fun_ext}
use Rattle.js_host.specs.Answers.{AnswerMap, answer_in}
use Rattle.poll_log.specs.declared.question.Question.{Question}
use Rattle.poll_log.specs.declared.terms.Terms.{Terms}
use Rattle.poll_log.specs.Turns.{Outgoing, Turns, Begin, Then, Event, with_sent}
use Rattle.poll_log.specs.Questions.{firsts, has_name, names_of, questions, was_sent}
use Rattle.poll_log.specs.Told.{Map, is_dead, told}
use Rattle.poll_log.specs.Jobs.{IsCut, IsFinished, IsOwed, IsPolled, Job, SendsOwed, WaitsBefore, once, some_wait, waits_unless, wanted}
use Rattle.poll_log.proofs.Dues.{firsts_next, firsts_of_begin}
use Rattle.poll_log.proofs.Names.{has, has-names, has_name-append, same_is, true_false}
use Rattle.poll_log.proofs.TurnLaws.{told_unsent}
use Rattle.session_log.specs.Sessions.{all_runs, waits_told}
use Rattle.session_log.proofs.Totals.{grown, runs_begin, runs_with_sent}
use Rattle.pac_generate.specs.Answered.{IsAnswered}
use Rattle.pac_generate.proofs.LogLaws.{answered_sent}
use Rattle.memory_talk.specs.Laws.{AreAddresses, AskFew, CutCostsNoMore, events_of, reply_event}
use Rattle.memory_talk.proofs.Few.{all_sent}
use Rattle.memory_talk.proofs.Prompt.{IsPrompt, IsUntold, awaited, next_due, shorter, told_among}
use Rattle.memory_talk.proofs.Replied.{all_replied, laws, prompt}
use Rattle.memory_talk.proofs.Room.{waits_sent}
use Rattle.memory_talk.proofs.Same.{told_none}

-- ---- what is told, by the names that were sent

-- the map's answers to these names
abbrev answers_to : AnswerMap → List Name → Map
answers_to answers ns n = cond (has n ns) (Some (answer_in answers n)) None

untold_among : (t : Terms) (h : Turns) (n : Name) (qs : List Question) → AllByRecursion (IsUntold t h) qs → has_name n qs ≡ true → told t h n ≡ None
untold_among t h n [] all k = true_false (sym k)
untold_among t h n (q ∷ qs) all k = elim (or_cases (same_name q.name n) (has_name n qs) k) [
  | inl same ↦ subst (λ (m : Name). told t h m ≡ None) (same_is q.name n same) all.0
  | inr later ↦ untold_among t h n qs all.1 later
]

module _ (answers : AnswerMap) (t : Terms) (h : Turns) (p : IsPrompt answers t h) where
  untold : (n : Name) → has_name n p.done ≡ false → told t h n ≡ None
  untold n other = go (has_name n p.due) refl
    where
      sent : was_sent h n ≡ (has_name n p.done || has_name n p.due)
      sent = ap (has_name n) p.names ∙ has_name-append n p.done p.due

      go : (b : Bool) → has_name n p.due ≡ b → told t h n ≡ None
      go true k = untold_among t h n p.due p.waiting k
      go false k = told_unsent t h n (sent ∙ ap (λ (b : Bool). b || has_name n p.due) other ∙ k)

  told_one : (n : Name) → told t h n ≡ answers_to answers (names_of p.done) n
  told_one n = go (has_name n p.done) refl
    where
      by : (b : Bool) → has_name n p.done ≡ b → cond b (Some (answer_in answers n)) None ≡ answers_to answers (names_of p.done) n
      by b k = ap (λ (c : Bool). cond c (Some (answer_in answers n)) None) (sym (has-names n p.done ∙ k))

      go : (b : Bool) → has_name n p.done ≡ b → told t h n ≡ answers_to answers (names_of p.done) n
      go true k = told_among answers t h n p.done p.answered k ∙ by true k
      go false k = untold n k ∙ by false k

  -- so many events came as names are told
  came : length (events_of h) ≡ length p.done
  came = ap length p.came ∙ length-map p.done (reply_event answers)

  done_names : names_of p.done ≡ take (length (events_of h)) (names_of (firsts h))
  done_names =
      sym (take_at (names_of p.done) (names_of p.due) (length (events_of h)) (length-map p.done (λ (q : Question). q.name) ∙ sym came))
      ∙ ap (take (length (events_of h))) (sym (ap names_of p.names ∙ map-append (λ (q : Question). q.name) p.done p.due))

  told_done : told t h ≡ answers_to answers (names_of p.done)
  told_done = fun_ext told_one

  -- of the names in the order of first sending, as many are told as events came
  told_is : told t h ≡ answers_to answers (take (length (events_of h)) (names_of (firsts h)))
  told_is = told_done ∙ ap (answers_to answers) done_names

-- jobs that are finished don't wait
none_wait : (dead : Name → Bool) (M : Map) (jobs : List Job) → AllByRecursion (λ job. job M ≡ None) jobs → list_any (λ job. waits_unless dead (job M)) jobs ≡ false
none_wait dead M [] finished = refl
none_wait dead M (job ∷ jobs) finished =
    ap (λ (r : Option Name). waits_unless dead r || list_any (λ (j : Job). waits_unless dead (j M)) jobs) finished.0 ∙ none_wait dead M jobs finished.1

-- ---- how many events came

events_begin : (sent : List Outgoing) → length (events_of (Begin sent)) ≡ 0
unfolding events_of
events_begin sent = refl

events_then : (h : Turns) (e : Event) (sent : List Outgoing) → length (events_of (Then h e sent)) ≡ length (events_of h) + 1
unfolding events_of
events_then h e sent = length_push (events_of h) e

-- ---- two logs, turn by turn

module _ (most : ℕ) (answers : AnswerMap) (small : AreAddresses answers) (t : Terms) (jobs : List Job) (few : AskFew most t jobs) where
  -- A log as it goes: what is owed was sent, some job waited before each event, and each event was the one that was due.
  record Goes (h : Turns) : Type 0 where
    pub sends : SendsOwed t jobs h
    pub waits : WaitsBefore t jobs h
    pub answered : IsAnswered answers h

  before : (h : Turns) (e : Event) (sent : List Outgoing) → Goes (Then h e sent) → Goes h
  unfolding IsAnswered
  before h e sent g = record { sends = g.sends.0; waits = g.waits.0; answered = g.answered.0 }

  is_prompt : (h : Turns) → Goes h → IsPrompt answers t h
  is_prompt h g = prompt most answers small t jobs few h g.sends g.waits g.answered

  -- while some job waits one name more was sent than events came
  one_due : (h : Turns) → Goes h → some_wait t jobs h ≡ true → length (events_of h) + 1 ≤ length (names_of (firsts h))
  one_due h g waits =
      let p = is_prompt h g in
      let next = next_due answers t h p (awaited most t h (is_dead t h) jobs (laws most answers small t jobs few) (all_sent t jobs h g.sends) waits) in
      let short = shorter (firsts h) p.done next.rest next.question (p.names ∙ ap (λ (qs : List Question). p.done ++ qs) next.parts) in
      let count = came answers t h p in
      let long = length-map (firsts h) (λ (q : Question). q.name) in
      omega (arith, short, count, long)

  module _ (h : Turns) (e : Event) (sent : List Outgoing) (g : Goes (Then h e sent)) where
    abbrev owed : IsOwed t jobs (questions h) (firsts h) (Then h e sent) sent
    owed = g.sends.1

    abbrev now_told : Map
    now_told = told t (Then h e sent)

    names_then : names_of (firsts (Then h e sent)) ≡ names_of (firsts h) ++ names_of owed.fresh
    names_then = ap names_of (firsts_next t jobs h e sent g.sends.0 owed) ∙ map-append (λ (q : Question). q.name) (firsts h) owed.fresh

    asked_then : names_of (firsts (Then h e sent)) ≡ names_of (firsts h) ++ once (names_of (firsts h)) (wanted jobs now_told)
    asked_then = names_then ∙ ap (λ (ns : List Name). names_of (firsts h) ++ ns) owed.asks

    told_then : now_told ≡ answers_to answers (take (length (events_of h) + 1) (names_of (firsts h)))
    told_then =
        told_is answers t (Then h e sent) (is_prompt (Then h e sent) g)
        ∙ ap (λ (k : ℕ). answers_to answers (take k (names_of (firsts (Then h e sent))))) (events_then h e sent)
        ∙ ap (λ (ns : List Name). answers_to answers (take (length (events_of h) + 1) ns)) names_then
        ∙ ap (answers_to answers) (take-append-le (length (events_of h) + 1) (names_of (firsts h)) (names_of owed.fresh) (one_due h (before h e sent g) g.waits.1))

  -- The names are the same, what is told is, and so is the cost.
  record AreAlike (one other : Turns) : Type 0 where
    pub names : names_of (firsts one) ≡ names_of (firsts other)
    pub same_told : told t one ≡ told t other
    pub runs : all_runs t jobs one ≡ all_runs t jobs other

  alike_begin : (sent other : List Outgoing) → Goes (Begin sent) → Goes (Begin other) → AreAlike (Begin sent) (Begin other)
  alike_begin sent other g k =
      let o : IsOwed t jobs [] [] (Begin sent) sent = g.sends in
      let p : IsOwed t jobs [] [] (Begin other) other = k.sends in
      let same = told_none t sent other in
      record {
        names =
            ap names_of (firsts_of_begin t jobs sent o) ∙ o.asks ∙ ap (λ (M : Map). once [] (wanted jobs M)) same
            ∙ sym (ap names_of (firsts_of_begin t jobs other p) ∙ p.asks);
        same_told = same;
        runs = runs_begin t jobs sent ∙ sym (runs_begin t jobs other);
      }

  alike_then : (h h' : Turns) (e e' : Event) (sent sent' : List Outgoing) → Goes (Then h e sent) → Goes (Then h' e' sent')
      → length (events_of h) ≡ length (events_of h') → AreAlike h h' → AreAlike (Then h e sent) (Then h' e' sent')
  alike_then h h' e e' sent sent' g k count a =
      let M : Map = told t (Then h e sent) in
      let same : M ≡ told t (Then h' e' sent') =
      told_then h e sent g ∙ ap (λ (n : ℕ). answers_to answers (take (n + 1) (names_of (firsts h)))) count
      ∙ ap (λ (ns : List Name). answers_to answers (take (length (events_of h') + 1) ns)) a.names ∙ sym (told_then h' e' sent' k) in
      record {
        names =
            asked_then h e sent g ∙ ap (λ (ns : List Name). ns ++ once ns (wanted jobs M)) a.names
            ∙ ap (λ (N : Map). names_of (firsts h') ++ once (names_of (firsts h')) (wanted jobs N)) same ∙ sym (asked_then h' e' sent' k);
        same_told = same;
        runs =
            grown t jobs h e sent ∙ ap (λ (n : ℕ). n + waits_told jobs (told t h) M) a.runs
            ∙ ap (λ (N : Map). all_runs t jobs h' + waits_told jobs N M) a.same_told
            ∙ ap (λ (N : Map). all_runs t jobs h' + waits_told jobs (told t h') N) same ∙ sym (grown t jobs h' e' sent');
      }

  -- logs with as many events are alike
  alike : (one other : Turns) → Goes one → Goes other → length (events_of one) ≡ length (events_of other) → AreAlike one other
  alike (Begin sent) (Begin other) g k count = alike_begin sent other g k
  alike (Begin sent) (Then h e other) g k count =
      let none = events_begin sent in
      let more = events_then h e other in
      absurd (omega (arith, count, none, more))
  alike (Then h e sent) (Begin other) g k count =
      let none = events_begin other in
      let more = events_then h e sent in
      absurd (omega (arith, count, none, more))
  alike (Then h e sent) (Then h' e' other) g k count =
      let one = events_then h e sent in
      let two = events_then h' e' other in
      let low : length (events_of h) ≡ length (events_of h') = omega (arith, count, one, two) in
      alike_then h h' e e' sent other g k low (alike h h' (before h e sent g) (before h' e' other k) low)

  -- a log with no more events costs no more
  costs : (one other : Turns) → Goes one → Goes other → length (events_of one) ≤ length (events_of other) → all_runs t jobs one ≤ all_runs t jobs other
  costs one (Begin sent) g k low =
      let none = events_begin sent in
      let same = (alike one (Begin sent) g k (omega (arith, low, none))).runs in
      omega (arith, same)
  costs one (Then h e sent) g k low = go (costs one h g (before h e sent k)) (cases_lt (length (events_of one)) (length (events_of (Then h e sent))))
    where
      go : (length (events_of one) ≤ length (events_of h) → all_runs t jobs one ≤ all_runs t jobs h)
          → (length (events_of one) < length (events_of (Then h e sent))) ⊎ (length (events_of (Then h e sent)) ≤ length (events_of one))
          → all_runs t jobs one ≤ all_runs t jobs (Then h e sent)
      go before_it (inl fewer) =
          let more = events_then h e sent in
          let rest = before_it (omega (arith, fewer, more)) in
          let next = grown t jobs h e sent in
          omega (arith, rest, next)
      go before_it (inr many) =
          let same = (alike one (Then h e sent) g k (omega (arith, low, many))).runs in
          omega (arith, same)

  -- no log goes on behind the events after which all jobs are finished
  within : (one log : Turns) → Goes one → Goes log → AllByRecursion (IsFinished t log) jobs → length (events_of one) ≤ length (events_of log)
  within (Begin sent) log g k finished = let none = events_begin sent in omega (arith, none)
  within (Then h e sent) log g k finished = go (within h log (before h e sent g) k finished) (cases_lt (length (events_of h)) (length (events_of log)))
    where
      go : length (events_of h) ≤ length (events_of log)
          → (length (events_of h) < length (events_of log)) ⊎ (length (events_of log) ≤ length (events_of h))
          → length (events_of (Then h e sent)) ≤ length (events_of log)
      go low (inl fewer) = let more = events_then h e sent in omega (arith, fewer, more)
      go low (inr many) =
          let same = (alike h log (before h e sent g) k (omega (arith, low, many))).same_told in
          true_false (sym g.waits.1 ∙ none_wait (is_dead t h) (told t h) jobs (subst (λ (M : Map). AllByRecursion (λ job. job M ≡ None) jobs) (sym same) finished))

  cut_within : (cut log : Turns) → IsCut t jobs cut → IsAnswered answers cut → IsPolled t jobs log → IsAnswered answers log → all_runs t jobs cut ≤ all_runs t jobs log
  cut_within cut log c answered polled replied =
      let sent : Turns = with_sent cut c.unsent in
      let one : Goes sent = record { sends = c.sends; waits = waits_sent t jobs cut c.unsent c.waits; answered = answered_sent answers cut c.unsent answered } in
      let other : Goes log = record { sends = polled.sends; waits = polled.waits; answered = replied } in
      let finished = recursion_from_All (IsFinished t log) jobs (all_replied most answers t jobs log small few polled replied).finished in
      let same = runs_with_sent t jobs cut c.unsent in
      let low = costs sent log one other (within sent log one other finished) in
      omega (arith, same, low)

pub cut_costs_no_more : CutCostsNoMore
cut_costs_no_more most answers t jobs cut log small few = cut_within most answers small t jobs few cut log
