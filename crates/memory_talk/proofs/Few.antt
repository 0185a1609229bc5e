-- Jobs that ask few names send few.
use Rattle.std.proofs.Common.{◌≡◌, ℕ, suc, ◌+◌, ◌*◌, ◌≤◌, Bool, true, false, cond, ◌||◌, List, [], ◌∷◌, ◌++◌, length, Option, Some, None, is_some, sym, ◌∙◌, ap, subst, refl, arith, append_assoc}
use Rattle.std.specs.List.{AllByRecursion, cons_option}
use Rattle.std.proofs.lemmas.List.{append-nil, length-append, length-map}
use Rattle.std.proofs.lemmas.List.Elements.{recursion_from_All}
use Rattle.pac_names.specs.declared.answer.Answer.{Answer}
use Rattle.pac_names.specs.Names.{Name}
use Rattle.poll_log.specs.declared.question.Question.{Question}
use Rattle.poll_log.specs.declared.terms.Terms.{Terms}
use Rattle.poll_log.specs.Turns.{Outgoing, Turns, Begin, Then, Event}
use Rattle.poll_log.specs.Questions.{firsts, names_of, was_sent}
use Rattle.poll_log.specs.Told.{Map, told}
use Rattle.poll_log.specs.Jobs.{Job, SendsOwed, once, onto_new, runs_of, told_to, wanted}
use Rattle.poll_log.specs.Laws.{Extends, IsRestartable}
use Rattle.poll_log.proofs.Bounds.{extends_next, runs_bound, want_sent}
use Rattle.poll_log.proofs.Dues.{firsts_next, firsts_of_begin}
use Rattle.poll_log.proofs.Names.{has, has-append, has-names, once-cons, once-none, true_false}
use Rattle.session_log.specs.Sessions.{total}

-- ---- names that are taken once

-- one where there is a name that was not seen
abbrev unseen : List Name → Option Name → ℕ
unseen seen None = 0
unseen seen (Some n) = cond (has n seen) 0 1

-- of the names that jobs want no more are taken than jobs want one that was not seen
once_few : (jobs : List Job) (M : Map) (seen more : List Name) → length (once (seen ++ more) (wanted jobs M)) ≤ total (λ job. unseen seen (job M)) jobs
once_few [] M seen more = let none : length (once (seen ++ more) []) ≡ 0 = ap length (once-none (seen ++ more)) in omega (arith, none)
once_few (job ∷ jobs) M seen more = go (job M) (once_few jobs M seen)
  where
    ns : List Name
    ns = wanted jobs M

    rest : ℕ
    rest = total (λ (j : Job). unseen seen (j M)) jobs

    go : (r : Option Name) → ((beyond : List Name) → length (once (seen ++ beyond) ns) ≤ rest) → length (once (seen ++ more) (cons_option r ns)) ≤ unseen seen r + rest
    go None few = let low : length (once (seen ++ more) ns) ≤ rest = few more in omega (arith, low)
    go (Some n) few = taken (has n (seen ++ more)) refl (has n seen) refl
      where
        split : (b : Bool) → has n (seen ++ more) ≡ b → once (seen ++ more) (n ∷ ns) ≡ onto_new b n (once (seen ++ more) ns) (once ((seen ++ more) ++ n ∷ []) ns)
        split b e = once-cons (seen ++ more) n ns ∙ ap (λ (x : Bool). onto_new x n (once (seen ++ more) ns) (once ((seen ++ more) ++ n ∷ []) ns)) e

        taken : (b : Bool) → has n (seen ++ more) ≡ b → (c : Bool) → has n seen ≡ c → length (once (seen ++ more) (n ∷ ns)) ≤ cond c 0 1 + rest
        taken true e c k =
            let same : length (once (seen ++ more) (n ∷ ns)) ≡ length (once (seen ++ more) ns) = ap length (split true e) in
            let low : length (once (seen ++ more) ns) ≤ rest = few more in
            omega (arith, same, low)
        taken false e true k = true_false (sym (has-append n seen more ∙ ap (λ (x : Bool). x || has n more) k) ∙ e)
        taken false e false k =
            let same : length (once (seen ++ more) (n ∷ ns)) ≡ suc (length (once (seen ++ (more ++ n ∷ [])) ns)) =
            ap length (split false e) ∙ ap (λ (l : List Name). suc (length (once l ns))) (append_assoc seen more (n ∷ [])) in
            let low : length (once (seen ++ (more ++ n ∷ [])) ns) ≤ rest = few (more ++ n ∷ []) in
            omega (arith, same, low)

once_all : (jobs : List Job) (M : Map) (seen : List Name) → length (once seen (wanted jobs M)) ≤ total (λ job. unseen seen (job M)) jobs
once_all jobs M seen =
    subst (λ (l : List Name). length (once l (wanted jobs M)) ≤ total (λ (job : Job). unseen seen (job M)) jobs) (append-nil seen) (once_few jobs M seen [])

-- ---- what jobs asked for by now

abbrev lacking_one : Option Name → ℕ
lacking_one None = 0
lacking_one (Some n) = 1

-- one more than the names that a job asked for by now: those that were told while it waited, and the one that it lacks
abbrev asked_for : Terms → Turns → Job → ℕ
asked_for t h job = runs_of t h job + lacking_one (job (told t h))

unseen_lacking : (seen : List Name) (r : Option Name) → unseen seen r ≤ lacking_one r
unseen_lacking seen None = omega arith
unseen_lacking seen (Some n) = go (has n seen)
  where
    go : (b : Bool) → cond b 0 1 ≤ 1
    go true = omega arith
    go false = omega arith

-- the job lacks a name that was sent, or none
abbrev pub LacksSent : Terms → Turns → Job → Type 0
LacksSent t h job = (n : Name) → job (told t h) ≡ Some n → was_sent h n ≡ true

pub all_sent : (t : Terms) (jobs : List Job) (h : Turns) → SendsOwed t jobs h → AllByRecursion (LacksSent t h) jobs
all_sent t jobs h o = recursion_from_All (LacksSent t h) jobs (λ k d low n e. want_sent t jobs h o k d n low e)

module _ (most : ℕ) (t : Terms) (h : Turns) (e : Event) (sent : List Outgoing) where
  abbrev seen : List Name
  seen = names_of (firsts h)

  asks_more : (job : Job) → IsRestartable most job → LacksSent t h job → unseen seen (job (told t (Then h e sent))) + asked_for t h job ≤ asked_for t (Then h e sent) job
  unfolding runs_of
  asks_more job law lacks = go (job M) refl
    where
      M : Map
      M = told t h

      N : Map
      N = told t (Then h e sent)

      x : Extends N M
      x = extends_next t h e sent

      runs : ℕ
      runs = runs_of t h job

      by_told : (n : Name) → job M ≡ Some n → (r : Option Answer) → N n ≡ r → unseen seen (job N) + (runs + 1) ≤ runs + cond (is_some r) 1 0 + lacking_one (job N)
      by_told n w None y =
          let again : job N ≡ Some n = law.waits N M n x w y in
          let old : unseen seen (job N) ≡ 0 = ap (unseen seen) again ∙ ap (λ (b : Bool). cond b 0 1) (has-names n (firsts h) ∙ lacks n w) in
          let one : lacking_one (job N) ≡ 1 = ap lacking_one again in
          omega (arith, old, one)
      by_told n w (Some a) y = let low = unseen_lacking seen (job N) in omega (arith, low)

      go : (r : Option Name) → job M ≡ r → unseen seen (job N) + (runs + lacking_one r) ≤ runs + told_to r N + lacking_one (job N)
      go None w = let none : unseen seen (job N) ≡ 0 = ap (unseen seen) (law.done N M x w) in omega (arith, none)
      go (Some n) w = by_told n w (N n) refl

  total_more : (jobs : List Job) → AllByRecursion (IsRestartable most) jobs → AllByRecursion (LacksSent t h) jobs
      → total (λ job. unseen seen (job (told t (Then h e sent)))) jobs + total (asked_for t h) jobs ≤ total (asked_for t (Then h e sent)) jobs
  total_more [] laws lacks = omega arith
  total_more (job ∷ jobs) laws lacks =
      let one = asks_more job laws.0 lacks.0 in
      let rest = total_more jobs laws.1 lacks.1 in
      omega (arith, one, rest)

total_begin : (t : Terms) (sent : List Outgoing) (jobs : List Job) → total (λ job. unseen [] (job (told t (Begin sent)))) jobs + length jobs ≤ total (asked_for t (Begin sent)) jobs
unfolding runs_of
total_begin t sent [] = omega arith
total_begin t sent (job ∷ jobs) =
    let one = unseen_lacking [] (job (told t (Begin sent))) in
    let first : runs_of t (Begin sent) job ≡ 1 = refl in
    let rest = total_begin t sent jobs in
    omega (arith, one, first, rest)

-- a job that asks so many names at most was run once more at most
asked_few : (most : ℕ) (t : Terms) (h : Turns) (job : Job) → IsRestartable most job → asked_for t h job ≤ most + 1
asked_few most t h job law = go (job (told t h)) refl
  where
    go : (r : Option Name) → job (told t h) ≡ r → runs_of t h job + lacking_one r ≤ most + 1
    go None e =
        let ran = runs_bound most t h job law in
        let deep = law.within (told t h) in
        omega (arith, ran, deep)
    go (Some n) e =
        let ran = runs_bound most t h job law in
        let deep = law.before (told t h) n e in
        omega (arith, ran, deep)

total_few : (most : ℕ) (t : Terms) (h : Turns) (jobs : List Job) → AllByRecursion (IsRestartable most) jobs → total (asked_for t h) jobs ≤ (most + 1) * length jobs
total_few most t h [] laws = omega arith
total_few most t h (job ∷ jobs) laws =
    let one = asked_few most t h job laws.0 in
    let rest = total_few most t h jobs laws.1 in
    omega (arith, one, rest)

-- ---- what is sent

module _ (most : ℕ) (t : Terms) (jobs : List Job) (laws : AllByRecursion (IsRestartable most) jobs) where
  sent_few : (h : Turns) → SendsOwed t jobs h → length (firsts h) + length jobs ≤ total (asked_for t h) jobs
  sent_few (Begin sent) o =
      let M : Map = told t (Begin sent) in
      let count : length (firsts (Begin sent)) ≡ length (once [] (wanted jobs M)) =
      ap length (firsts_of_begin t jobs sent o) ∙ sym (length-map o.fresh (λ (q : Question). q.name)) ∙ ap length o.asks in
      let few = once_all jobs M [] in
      let begun = total_begin t sent jobs in
      omega (arith, count, few, begun)
  sent_few (Then h e sent) o =
      let M : Map = told t (Then h e sent) in
      let new : length o.1.fresh ≡ length (once (names_of (firsts h)) (wanted jobs M)) = sym (length-map o.1.fresh (λ (q : Question). q.name)) ∙ ap length o.1.asks in
      let count : length (firsts (Then h e sent)) ≡ length (firsts h) + length o.1.fresh = ap length (firsts_next t jobs h e sent o.0 o.1) ∙ length-append (firsts h) o.1.fresh in
      let few = once_all jobs M (names_of (firsts h)) in
      let more = total_more most t h e sent jobs laws (all_sent t jobs h o.0) in
      let before = sent_few h o.0 in
      omega (arith, new, count, few, more, before)

  -- no more names are sent than so many for each job
  pub few_names : (h : Turns) → SendsOwed t jobs h → length (firsts h) ≤ most * length jobs
  few_names h o =
      let all = sent_few h o in
      let few = total_few most t h jobs laws in
      omega (arith, all, few)
