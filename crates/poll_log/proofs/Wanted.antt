-- A name that was sent and is not told is lacked by some job.
use Rattle.std.proofs.Common.{◌≡◌, ℕ, Bool, true, false, ◌||◌, List, [], ◌∷◌, ◌++◌, Option, Some, None, inl, inr, refl, sym, ◌∙◌, ap}
use Rattle.std.specs.List.{All, cons_option}
use Rattle.std.proofs.lemmas.Bool.{or_cases}
use Rattle.std.proofs.lemmas.List.Elements.{All-head, All-tail}
use Rattle.pac_names.specs.declared.answer.Answer.{Answer}
use Rattle.pac_names.specs.Comparing.{same_name}
use Rattle.pac_names.specs.Names.{Name}
use Rattle.poll_log.specs.declared.question.Question.{Question}
use Rattle.poll_log.specs.declared.terms.Terms.{Terms}
use Rattle.poll_log.specs.Turns.{Turns, Begin, Then}
use Rattle.poll_log.specs.Questions.{firsts, has_name, names_of, was_sent}
use Rattle.poll_log.specs.Told.{Map, told}
use Rattle.poll_log.specs.Jobs.{Job, SendsOwed, once, onto_new, wanted}
use Rattle.poll_log.specs.Laws.{Extends, IsRestartable}
use Rattle.poll_log.proofs.Bounds.{extends_next}
use Rattle.poll_log.proofs.Dues.{firsts_next, firsts_of_begin}
use Rattle.poll_log.proofs.Names.{has, has-names, has_name-append, none_some, once-cons, once-none, or-first, or-second, same_is, same_itself}

-- what is taken once was there
once_wanted : (seen ns : List Name) (m : Name) → has m (once seen ns) ≡ true → has m ns ≡ true
once_wanted seen [] m h = sym (ap (has m) (once-none seen)) ∙ h
once_wanted seen (n ∷ ns) m h = go (has n seen) (once_wanted seen ns m) (once_wanted (seen ++ n ∷ []) ns m) (sym (ap (has m) (once-cons seen n ns)) ∙ h)
  where
    behind : List Name
    behind = once (seen ++ n ∷ []) ns

    go : (b : Bool) → (has m (once seen ns) ≡ true → has m ns ≡ true) → (has m behind ≡ true → has m ns ≡ true) → has m (onto_new b n (once seen ns) behind) ≡ true → (same_name n m || has m ns) ≡ true
    go true left later k = or-second (same_name n m) (has m ns) (left k)
    go false left later k = elim (or_cases (same_name n m) (has m behind) k) [
      | inl same ↦ or-first (same_name n m) (has m ns) same
      | inr found ↦ or-second (same_name n m) (has m ns) (later found)
    ]

-- a new name is lacked
pub fresh_wanted : (jobs : List Job) (before fresh : List Question) (M : Map) (n : Name) → names_of fresh ≡ once (names_of before) (wanted jobs M) → has_name n fresh ≡ true → has n (wanted jobs M) ≡ true
fresh_wanted jobs before fresh M n asks h = once_wanted (names_of before) (wanted jobs M) n (ap (has n) (sym asks) ∙ has-names n fresh ∙ h)

-- a name that is lacked is lacked until it is told
wanted_stays : (most : ℕ) (N M : Map) (n : Name) → Extends N M → N n ≡ None → (jobs : List Job) → All (IsRestartable most) jobs → has n (wanted jobs M) ≡ true → has n (wanted jobs N) ≡ true
wanted_stays most N M n x u [] laws h = h
wanted_stays most N M n x u (job ∷ jobs) laws h = go (job M) refl (wanted_stays most N M n x u jobs (All-tail (IsRestartable most) job jobs laws)) h
  where
    law : IsRestartable most job
    law = All-head (IsRestartable most) job jobs laws

    beyond : (r : Option Name) → has n (wanted jobs N) ≡ true → has n (cons_option r (wanted jobs N)) ≡ true
    beyond None k = k
    beyond (Some m) k = or-second (same_name m n) (has n (wanted jobs N)) k

    go : (r : Option Name) → job M ≡ r → (has n (wanted jobs M) ≡ true → has n (wanted jobs N) ≡ true) → has n (cons_option r (wanted jobs M)) ≡ true → has n (cons_option (job N) (wanted jobs N)) ≡ true
    go None e rest k = beyond (job N) (rest k)
    go (Some m) e rest k = elim (or_cases (same_name m n) (has n (wanted jobs M)) k) [
      | inl same ↦ ap (λ (r : Option Name). has n (cons_option r (wanted jobs N))) (law.waits N M n x (e ∙ ap Some (same_is m n same)) u) ∙ or-first (same_name n n) (has n (wanted jobs N)) (same_itself n)
      | inr old ↦ beyond (job N) (rest old)
    ]

module _ (most : ℕ) (t : Terms) (jobs : List Job) (laws : All (IsRestartable most) jobs) where
  pub sent_wanted : (h : Turns) → SendsOwed t jobs h → (n : Name) → was_sent h n ≡ true → told t h n ≡ None → has n (wanted jobs (told t h)) ≡ true
  sent_wanted (Begin sent) o n s u = fresh_wanted jobs [] o.fresh (told t (Begin sent)) n o.asks (ap (has_name n) (sym (firsts_of_begin t jobs sent o)) ∙ s)
  sent_wanted (Then h e sent) o n s u =
      elim (or_cases (has_name n (firsts h)) (has_name n o.1.fresh) (sym (has_name-append n (firsts h) o.1.fresh) ∙ ap (has_name n) (sym (firsts_next t jobs h e sent o.0 o.1)) ∙ s)) [
        | inl old ↦ wanted_stays most (told t (Then h e sent)) (told t h) n (extends_next t h e sent) u jobs laws (sent_wanted h o.0 n old (untold (told t h n) refl))
        | inr new ↦ fresh_wanted jobs (firsts h) o.1.fresh (told t (Then h e sent)) n o.1.asks new
      ]
    where
      untold : (r : Option Answer) → told t h n ≡ r → told t h n ≡ None
      untold None k = k
      untold (Some x) k = none_some x (sym u ∙ extends_next t h e sent n x k)
