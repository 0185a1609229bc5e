-- From what is told to what is told next: the sessions that wait for a name run again, and the others stay.
use Rattle.std.proofs.Common.{◌≡◌, ℕ, ◌+◌, ◌-◌, ◌≤◌, ◌^◌, Bool, true, false, cond, List, [], ◌∷◌, ◌++◌, Option, Some, None, is_some, refl, sym, ◌∙◌, ap, subst, arith}
use Rattle.std.specs.Prelude.{min}
use Rattle.std.specs.List.{All, cons_option}
use Rattle.std.proofs.lemmas.List.Elements.{All-head, All-tail, All-weaker}
use Rattle.pac_names.specs.Names.{Name}
use Rattle.pac_names.specs.Comparing.{same_name}
use Rattle.run_trees.specs.RunTree.{RunTree}
use Rattle.poll_log.specs.Told.{Map}
use Rattle.poll_log.specs.Jobs.{once, onto_new, told_to, wanted}
use Rattle.poll_log.specs.Laws.{Extends}
use Rattle.poll_log.proofs.Names.{has, has-append, once-cons, or-first, true_false}
use Rattle.session_log.specs.Asked.{job_of}
use Rattle.session_log.specs.Sessions.{waits_told}
use Rattle.session_log.proofs.Orders.{run_is_job}
use Rattle.session_core.specs.declared.session.Progress.{Progress}
use Rattle.session_core.specs.declared.session.Progress.TheVariants.{Finished, Waiting, Unanswered}
use Rattle.session_core.specs.declared.session.Session.{Session}
use Rattle.session_core.specs.Sessions.{IsPlaced, count_woken, is_woken, one_if, one_run_more}
use Rattle.session_core.specs.Cascade.{IsNext, missed_if, missed_names}
use Rattle.session_core.specs.Stands.{jobs_of}

-- whether this is the name that was told
abbrev pub is_told : Option Name → Name → Bool
is_told None n = false
is_told (Some name) n = same_name n name

-- The name that was told, if one was, is not dead; it has an answer now, and each other name that had none has none.
pub record Tells (told : Option Name) (before after : Map) (dead : Name → Bool) : Type 0 where
  pub extends : Extends after before
  pub others : (n : Name) → before n ≡ None → is_told told n ≡ false → after n ≡ None
  pub here : (n : Name) → is_told told n ≡ true → is_some (after n) ≡ true
  pub alive : (n : Name) → is_told told n ≡ true → dead n ≡ false

woken_waiting : (Out : Type 0) (told : Option Name) (n : Name) → is_woken {Out = Out} told (Waiting n) ≡ is_told told n
woken_waiting Out None n = refl
woken_waiting Out (Some name) n = refl

finished_sleeps : {Out : Type 0} (told : Option Name) (out : Out) → is_woken told (Finished out) ≡ false
finished_sleeps None out = refl
finished_sleeps (Some name) out = refl

unanswered_sleeps : (Out : Type 0) (told : Option Name) (n : Name) → is_woken {Out = Out} told (Unanswered n) ≡ false
unanswered_sleeps Out None n = refl
unanswered_sleeps Out (Some name) n = refl

module _ {Out End : Type 0} (gives : Out → End → List (List ℕ) → Type 0) (told : Option Name) (before after : Map) (dead : Name → Bool) (t : Tells told before after dead) where
  -- a dead name was not told
  dead_untold : (n : Name) → dead n ≡ true → is_told told n ≡ false
  dead_untold n d = go (is_told told n) refl
    where
      go : (b : Bool) → is_told told n ≡ b → b ≡ false
      go true e = true_false (sym d ∙ t.alive n e)
      go false e = refl

  still_missing : (run : RunTree End) (n : Name) → job_of run before ≡ Some n → is_told told n ≡ false → job_of run after ≡ Some n
  still_missing run n p w =
      let law = run_is_job run in
      law.waits after before n t.extends p (t.others n (law.lacks before n p) w)

  -- a session that was not woken is what it was
  placed_kept : (run : RunTree End) (progress : Progress Out) → IsPlaced gives run before dead progress → is_woken told progress ≡ false → IsPlaced gives run after dead progress
  placed_kept run (Waiting n) p w = (still_missing run n p.0 (sym (woken_waiting Out told n) ∙ w), p.1)
  placed_kept run (Finished out) p w = ((run_is_job run).done after before t.extends p.0, λ all h. p.1 all (λ n x k. h n x (t.extends n x k)))
  placed_kept run (Unanswered n) p w = (still_missing run n p.0 (dead_untold n p.1), p.1)

  -- and misses what it missed
  pub kept_job : (run : RunTree End) (progress : Progress Out) → IsPlaced gives run before dead progress → is_woken told progress ≡ false → job_of run after ≡ job_of run before
  kept_job run (Waiting n) p w = still_missing run n p.0 (sym (woken_waiting Out told n) ∙ w) ∙ sym p.0
  kept_job run (Finished out) p w = (run_is_job run).done after before t.extends p.0 ∙ sym p.0
  kept_job run (Unanswered n) p w = still_missing run n p.0 (dead_untold n p.1) ∙ sym p.0

  none_told : (n : Name) → after n ≡ None → told_to (Some n) after ≡ 0
  none_told n u = ap (λ r. cond (is_some r) 1 0) u

  -- a session is woken where its wait is told
  woken_counts : (run : RunTree End) (progress : Progress Out) → IsPlaced gives run before dead progress → one_if (is_woken told progress) ≡ told_to (job_of run before) after
  woken_counts run (Waiting n) p = go (is_told told n) refl
    where
      go : (b : Bool) → is_told told n ≡ b → one_if (is_woken {Out = Out} told (Waiting n)) ≡ told_to (job_of run before) after
      go true e =
          ap one_if (woken_waiting Out told n ∙ e)
          ∙ sym (ap (λ r. told_to r after) p.0 ∙ ap (λ b. cond b 1 0) (t.here n e))
      go false e =
          ap one_if (woken_waiting Out told n ∙ e)
          ∙ sym (ap (λ r. told_to r after) p.0 ∙ none_told n (t.others n ((run_is_job run).lacks before n p.0) e))
  woken_counts run (Finished out) p = ap one_if (finished_sleeps told out) ∙ sym (ap (λ r. told_to r after) p.0)
  woken_counts run (Unanswered n) p =
      ap one_if (unanswered_sleeps Out told n)
      ∙ sym (ap (λ r. told_to r after) p.0 ∙ none_told n (t.others n ((run_is_job run).lacks before n p.0) (dead_untold n p.1)))

  module _ {R : Type 0} (tree : R → RunTree End) where
    abbrev Placed : Session R Out → Type 0
    Placed s = IsPlaced gives (tree s.run) before dead s.progress

    -- as many are woken as waits are told
    pub count_is : (sessions : List (Session R Out)) → All Placed sessions → count_woken told sessions ≡ waits_told (jobs_of tree sessions) before after
    count_is [] p = refl
    count_is (s ∷ sessions) p =
        let ih = count_is sessions (All-tail Placed s sessions p) in
        let here = woken_counts (tree s.run) s.progress (All-head Placed s sessions p) in
        omega arith

    pub next_placed : (s s' : Session R Out) → IsNext gives tree (is_woken told s.progress) after dead s s' → Placed s → IsPlaced gives (tree s'.run) after dead s'.progress
    next_placed s s' n p = subst (λ r. IsPlaced gives (tree r) after dead s'.progress) (sym n.run) (go (is_woken told s.progress) refl)
      where
        go : (b : Bool) → is_woken told s.progress ≡ b → IsPlaced gives (tree s.run) after dead s'.progress
        go true w = n.again w
        go false w = subst (IsPlaced gives (tree s.run) after dead) (sym (n.kept w)) (placed_kept (tree s.run) s.progress p w)

    pub next_counted : (s s' : Session R Out) (count : ℕ) → IsNext gives tree (is_woken told s.progress) after dead s s' → Placed s → s.runs ≡ count → count ≤ 33 → s'.runs ≡ count + told_to (job_of (tree s.run) before) after
    next_counted s s' count n p e low =
        n.runs
        ∙ go (is_woken told s.progress)
        ∙ ap (λ m. count + m) (woken_counts (tree s.run) s.progress p)
      where
        more : s.runs ≡ count → count ≤ 33 → min (s.runs + 1) (2 ^ 64 - 1) ≡ count + 1
        more e low = omega arith

        go : (b : Bool) → cond b (one_run_more s.runs) s.runs ≡ count + one_if b
        go true = more e low
        go false = omega (arith, e)

    -- what the woken ones miss is what all miss, but for names that were seen
    abbrev KeptSeen : List Name → Session R Out → Type 0
    KeptSeen seen s = is_woken told s.progress ≡ false → (m : Name) → job_of (tree s.run) after ≡ Some m → has m seen ≡ true

    more_seen : (seen : List Name) (n : Name) (s : Session R Out) → KeptSeen seen s → KeptSeen (seen ++ n ∷ []) s
    more_seen seen n s k w m e = has-append m seen (n ∷ []) ∙ or-first _ _ (k w m e)

    pub once_missed : (seen : List Name) (sessions : List (Session R Out)) → All (KeptSeen seen) sessions → once seen (missed_names tree told after sessions) ≡ once seen (wanted (jobs_of tree sessions) after)
    once_missed seen [] k = refl
    once_missed seen (s ∷ sessions) k =
        go (is_woken told s.progress) refl (job_of (tree s.run) after) refl (once_missed seen sessions rest) (λ m. once_missed (seen ++ m ∷ []) sessions (All-weaker (KeptSeen seen) (KeptSeen (seen ++ m ∷ [])) (more_seen seen m) sessions rest))
      where
        rest : All (KeptSeen seen) sessions
        rest = All-tail (KeptSeen seen) s sessions k

        some : List Name
        some = missed_names tree told after sessions

        all : List Name
        all = wanted (jobs_of tree sessions) after

        go : (b : Bool) → is_woken told s.progress ≡ b → (r : Option Name) → job_of (tree s.run) after ≡ r → once seen some ≡ once seen all → ((m : Name) → once (seen ++ m ∷ []) some ≡ once (seen ++ m ∷ []) all) → once seen (cons_option (missed_if b r) some) ≡ once seen (cons_option r all)
        go true w None j ih more = ih
        go true w (Some m) j ih more =
            once-cons seen m some
            ∙ ap (λ l. onto_new (has m seen) m l (once (seen ++ m ∷ []) some)) ih
            ∙ ap (onto_new (has m seen) m (once seen all)) (more m)
            ∙ sym (once-cons seen m all)
        go false w None j ih more = ih
        go false w (Some m) j ih more =
            ih ∙ sym (once-cons seen m all ∙ ap (λ b. onto_new b m (once seen all) (once (seen ++ m ∷ []) all)) (All-head (KeptSeen seen) s sessions k w m j))
