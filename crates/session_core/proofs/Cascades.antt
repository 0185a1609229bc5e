-- The cascade of runs after a name was told.
use Rattle.std.proofs.Common.{◌≡◌, ◌≢◌, ℕ, zero, suc, ◌+◌, ◌<◌, ◌≤◌, Bool, true, false, List, [], ◌∷◌, ◌++◌, length, take, get_or, set, Option, Some, None, refl, sym, ◌∙◌, ap, subst, arith, ◌==◌, get_or-set_other, get_or-set_same}
use Rattle.std.specs.FinMap as map
use Rattle.std.specs.List.{All}
use Rattle.std.specs.Option.{option_to_list}
use Rattle.std.proofs.lemmas.Bool.{eqb-false, eqb-true}
use Rattle.std.proofs.lemmas.List.{get_or_default, length-set, take_all, take_more}
use Rattle.std.proofs.lemmas.List.Elements.{All-append, All-nil, filter_map-append}
use Rattle.pac_ports.specs.Dice.{DiceTold}
use Rattle.pac_names.specs.Names.{Name}
use Rattle.run_trees.specs.RunTree.{RunTree}
use Rattle.poll_log.specs.declared.question.Question.{Question}
use Rattle.poll_log.specs.Questions.{IsQuestion, names_of}
use Rattle.poll_log.specs.Told.{Map}
use Rattle.poll_log.specs.Jobs.{once}
use Rattle.poll_log.proofs.Names.{none_some, once-append, once-none, true_false}
use Rattle.stub_poller.specs.Driven.{asking_all}
use Rattle.poll_loop.specs.Numbers.{GaveAll}
use Rattle.poll_loop.proofs.Logs.{gave-append}
use Rattle.session_log.specs.Asked.{job_of}
use Rattle.session_log.proofs.Orders.{run_is_job}
use Rattle.session_core.specs.declared.lookups.Lookups.{Lookups}
use Rattle.session_core.specs.declared.session.Session.{Session}
use Rattle.session_core.specs.declared.settling.Settled.{Settled}
use Rattle.session_core.specs.Lookups.{with_asked}
use Rattle.session_core.specs.Sessions.{IsPlaced, count_woken, dead_of, is_woken, one_if, one_run_more}
use Rattle.session_core.specs.Settling.{Settles, numbers_of}
use Rattle.session_core.specs.Cascade.{Cascades, CascadesTo, IsNext, KnowsThese, RunsAgain, missed_if, missed_names}
use Rattle.session_core.proofs.Knowing.{asked_both, asked_is_once, dead_still, knows_more, names-append, numbers-append, one_missed}
use Rattle.session_core.proofs.OneRun.{asks_none}
use mathlib.Core.Path.{fun_ext}

module _ {R Out End : Type 0} (gives : Out → End → List (List ℕ) → Type 0) (tree : R → RunTree End) (told : Option Name) (sessions : List (Session R Out)) (lookups : Lookups) where
  abbrev answers : Map
  answers = map.get lookups.table

  abbrev missed_of : Session R Out → Option Name
  missed_of s = missed_if (is_woken told s.progress) (job_of (tree s.run) answers)

  abbrev Next : Session R Out → Session R Out → Type 0
  Next s s' = IsNext gives tree (is_woken told s.progress) answers (dead_of lookups.stub) s s'

  missed_unheld : (s : Session R Out) (n : Name) → missed_of s ≡ Some n → answers n ≡ None
  missed_unheld s n e = go (is_woken told s.progress) e
    where
      go : (b : Bool) → missed_if b (job_of (tree s.run) answers) ≡ Some n → answers n ≡ None
      go true e = (run_is_job (tree s.run)).lacks answers n e
      go false e = none_some n e

  missed-more : (k : ℕ) (d : Session R Out) → k < length sessions → missed_names tree told answers (take (k + 1) sessions) ≡ missed_names tree told answers (take k sessions) ++ option_to_list (missed_of (get_or sessions k d))
  missed-more k d low =
      ap (missed_names tree told answers) (take_more sessions k d low)
      ∙ filter_map-append missed_of (take k sessions) (get_or sessions k d ∷ [])
      ∙ ap (λ l. missed_names tree told answers (take k sessions) ++ l) (one_missed (missed_of (get_or sessions k d)))

  pub cascade_none : (dice : Option DiceTold) → CascadesTo gives tree told sessions sessions lookups lookups dice dice [] 0
  cascade_none dice =
      record {
        long = refl;
        next = λ k d low. absurd (omega arith);
        rest = λ k d low. refl;
        asks = λ seen k. sym (once-none seen);
        proper = All-nil IsQuestion;
        drew = refl;
        lookups_are = refl;
      }

  pub cascade_more : (now : List (Session R Out)) (s' : Session R Out) (mid lookups' : Lookups) (dice dice' dice'' : Option DiceTold) (out asked out' : List Question) (k : ℕ) (d : Session R Out) → k < length sessions → CascadesTo gives tree told sessions now lookups mid dice dice' out k → RunsAgain gives tree (is_woken told (get_or now k d).progress) (get_or now k d) s' mid lookups' dice' dice'' asked → out' ≡ out ++ asked → CascadesTo gives tree told sessions (set now k s') lookups lookups' dice dice'' out' (k + 1)
  cascade_more now s' mid lookups' dice dice' dice'' out asked out' k d low c ran e =
      record {
        long = length-set now k s' ∙ c.long;
        next = λ j x high. next_at j x high (j == k) refl;
        rest = λ j x high. (let ne : j ≢ k = omega arith in rw get_or-set_other (c.rest j x (omega arith)));
        asks = λ seen knows. asks_then seen knows;
        proper = subst (All IsQuestion) (sym e) (All-append IsQuestion out asked c.proper r.asks.proper);
        drew = subst (λ l. GaveAll dice l dice'') (sym (numbers-append out asked) ∙ ap numbers_of (sym e)) (gave-append (numbers_of out) (numbers_of asked) dice dice' dice'' c.drew r.asks.drew);
        lookups_are = r.lookups_are ∙ asked_both out asked lookups ∙ ap (λ l. with_asked l lookups) (sym e);
      }
    where
      -- over what was known then
      r : RunsAgain gives tree (is_woken told (get_or now k d).progress) (get_or now k d) s' (with_asked out lookups) lookups' dice' dice'' asked
      r = subst (λ m. RunsAgain gives tree (is_woken told (get_or now k d).progress) (get_or now k d) s' m lookups' dice' dice'' asked) c.lookups_are ran

      here : get_or now k d ≡ get_or sessions k d
      here = c.rest k d (omega arith)

      next_now : (x : Session R Out) → Next (get_or sessions k x) s'
      next_now x =
          subst (λ s. Next s s') (here ∙ get_or_default sessions k d x low)
          (subst (λ dead. IsNext gives tree (is_woken told (get_or now k d).progress) answers dead (get_or now k d) s') (fun_ext (dead_still out lookups.stub)) r.next)

      next_at : (j : ℕ) (x : Session R Out) → j < k + 1 → (b : Bool) → (j == k) ≡ b → Next (get_or sessions j x) (get_or (set now k s') j x)
      next_at j x high true u =
          let v : j ≡ k = eqb-true _ _ u in
          let long : length now ≡ length sessions = c.long in
          let within : k < length now = omega arith in
          let at : get_or (set now k s') k x ≡ s' = rw get_or-set_same refl in
          subst (λ i. Next (get_or sessions i x) (get_or (set now k s') i x)) (sym v)
          (subst (Next (get_or sessions k x)) (sym at) (next_now x))
      next_at j x high false u =
          let ne : j ≢ k = eqb-false _ _ u in
          let at : get_or (set now k s') j x ≡ get_or now j x = rw get_or-set_other refl in
          subst (Next (get_or sessions j x)) (sym at) (c.next j x (omega arith))

      asks_then : (seen : List Name) → KnowsThese lookups.stub answers seen → names_of out' ≡ once seen (missed_names tree told answers (take (k + 1) sessions))
      asks_then seen knows =
          let before : List Name = missed_names tree told answers (take k sessions) in
          let first : names_of out ≡ once seen before = c.asks seen knows in
          let known : KnowsThese (asking_all out lookups.stub) answers (seen ++ names_of out) = knows_more out lookups.stub answers seen knows in
          let missed : missed_of (get_or now k d) ≡ missed_of (get_or sessions k d) = ap missed_of here in
          let now_asked : names_of asked ≡ once (seen ++ names_of out) (option_to_list (missed_of (get_or now k d))) =
          r.asks.names_are ∙ asked_is_once (asking_all out lookups.stub) answers (seen ++ names_of out) known (missed_of (get_or now k d)) (missed_unheld (get_or now k d)) in
          ap names_of e
          ∙ names-append out asked
          ∙ ap (λ l. names_of out ++ l) (now_asked ∙ ap (λ r. once (seen ++ names_of out) (option_to_list r)) missed)
          ∙ ap (λ l. l ++ once (seen ++ l) (option_to_list (missed_of (get_or sessions k d)))) first
          ∙ sym (once-append seen before (option_to_list (missed_of (get_or sessions k d))))
          ∙ ap (once seen) (sym (missed-more k d low))

-- ---- how many are woken

module _ {R Out : Type 0} (told : Option Name) where
  count-append : (xs ys : List (Session R Out)) → count_woken told (xs ++ ys) ≡ count_woken told xs + count_woken told ys
  count-append [] ys = omega arith
  count-append (x ∷ xs) ys = let ih = count-append xs ys in omega arith

  pub count_more : (sessions : List (Session R Out)) (k : ℕ) (d : Session R Out) → k < length sessions → count_woken told (take (k + 1) sessions) ≡ count_woken told (take k sessions) + one_if (is_woken told (get_or sessions k d).progress)
  count_more sessions k d low = ap (count_woken told) (take_more sessions k d low) ∙ count-append (take k sessions) (get_or sessions k d ∷ []) ∙ (omega arith)

  pub count_part : (sessions : List (Session R Out)) (k : ℕ) → count_woken told (take k sessions) ≤ count_woken told sessions
  count_part [] k = none k
    where
      none : (k : ℕ) → count_woken {R = R} {Out = Out} told (take k []) ≤ 0
      none zero = omega arith
      none (suc k) = omega arith
  count_part (s ∷ sessions) zero = omega arith
  count_part (s ∷ sessions) (suc k) = let ih = count_part sessions k in omega arith

  pub count_step : (sessions now : List (Session R Out)) (k : ℕ) (d : Session R Out) (start before after : ℕ) → k < length sessions → before ≡ start + count_woken told (take k sessions) → after ≡ before + one_if (is_woken told (get_or now k d).progress) → get_or now k d ≡ get_or sessions k d → after ≡ start + count_woken told (take (k + 1) sessions)
  count_step sessions now k d start before after low e f same =
      let more = count_more sessions k d low in
      let here : one_if (is_woken told (get_or now k d).progress) ≡ one_if (is_woken told (get_or sessions k d).progress) = ap (λ (s : Session R Out). one_if (is_woken told s.progress)) same in
      omega arith

  pub count_most : (sessions now : List (Session R Out)) (k : ℕ) (d : Session R Out) (start before after : ℕ) → k < length sessions → before ≡ start + count_woken told (take k sessions) → after ≡ before + one_if (is_woken told (get_or now k d).progress) → get_or now k d ≡ get_or sessions k d → after ≤ start + count_woken told sessions
  count_most sessions now k d start before after low e f same =
      let step = count_step sessions now k d start before after low e f same in
      let part = count_part sessions (k + 1) in
      omega arith

-- ---- one session

module _ {R Out End : Type 0} (gives : Out → End → List (List ℕ) → Type 0) (tree : R → RunTree End) (lookups lookups' : Lookups) (dice dice' : Option DiceTold) where
  -- one that was not woken is as it was
  pub runs_kept : (woken : Bool) (s : Session R Out) → woken ≡ false → RunsAgain gives tree woken s s lookups lookups dice dice []
  runs_kept true s e = true_false e
  runs_kept false s e =
      record {
        next = record { run = refl; runs = refl; again = λ k. true_false (sym k); kept = λ k. refl };
        asks = asks_none dice;
        lookups_are = refl;
      }

  pub runs_again : (woken : Bool) (s s' : Session R Out) (settled : Settled Out) → woken ≡ true → Settles gives (tree s.run) lookups lookups' dice dice' settled → s'.run ≡ s.run → s'.progress ≡ settled.progress → s'.runs ≡ one_run_more s.runs → RunsAgain gives tree woken s s' lookups lookups' dice dice' (option_to_list settled.asked)
  runs_again false s s' settled e w run progress runs = true_false (sym e)
  runs_again true s s' settled e w run progress runs =
      record {
        next = record {
          run = run;
          runs = runs;
          again = λ k. subst (IsPlaced gives (tree s.run) (map.get lookups.table) (dead_of lookups.stub)) (sym progress) w.placed;
          kept = λ k. true_false k;
        };
        asks = w.asks;
        lookups_are = w.lookups_are;
      }

-- ---- where nothing is told

none_missed : {R Out End : Type 0} (tree : R → RunTree End) (M : Map) (sessions : List (Session R Out)) → missed_names tree None M sessions ≡ []
none_missed tree M [] = refl
none_missed tree M (s ∷ sessions) = none_missed tree M sessions

pub none_woken : {R Out : Type 0} (sessions : List (Session R Out)) → count_woken None sessions ≡ 0
none_woken [] = refl
none_woken (s ∷ sessions) = let ih = none_woken sessions in omega arith

pub nobody_woken : {R Out End : Type 0} (gives : Out → End → List (List ℕ) → Type 0) (tree : R → RunTree End) (sessions : List (Session R Out)) (lookups : Lookups) (dice : Option DiceTold) → Cascades gives tree None sessions sessions lookups lookups dice dice []
nobody_woken gives tree sessions lookups dice =
    record {
      long = refl;
      next = λ k d low. record { run = refl; runs = refl; again = λ e. true_false (sym e); kept = λ e. refl };
      rest = λ k d low. refl;
      asks = λ seen k. sym (ap (once seen) (ap (missed_names tree None (map.get lookups.table)) (take_all (length sessions) sessions (omega arith)) ∙ none_missed tree (map.get lookups.table) sessions) ∙ once-none seen);
      proper = All-nil IsQuestion;
      drew = refl;
      lookups_are = refl;
    }
