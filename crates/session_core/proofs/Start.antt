-- What has begun stands for the log of the first sends, and what is said of sessions is what the log says.
use Rattle.std.proofs.Common.{Bool, ◌≡◌, ℕ, ◌+◌, ◌<◌, true, false, List, [], ◌∷◌, get_or, length, map, Option, None, inl, refl, sym, ◌∙◌, ap, subst, arith, ◌≤◌}
use Rattle.std.specs.FinMap as finite
use Rattle.std.specs.List.{All, cons_option}
use Rattle.std.proofs.lemmas.List.{append-nil, get_or-map, length-map}
use Rattle.std.proofs.lemmas.List.Elements.{All-cons, All-nil}
use Rattle.std.proofs.lemmas.List.Folds.{list_any_at}
use mathlib.Core.Path.{fun_ext}
use Rattle.run_trees.specs.RunTree.{RunTree}
use Rattle.pac_plan.specs.Plan.{Outside, unfinished}
use Rattle.pac_ports.specs.Dice.{DiceTold}
use Rattle.poll_log.specs.declared.question.Question.{Question}
use Rattle.poll_log.specs.declared.terms.Terms.{Terms}
use Rattle.poll_log.specs.Sendings.{AreTerms}
use Rattle.poll_log.specs.Flat.{flat_behind}
use Rattle.poll_log.specs.Turns.{Outgoing, Turns, Begin, with_moves}
use Rattle.poll_log.specs.Beats.{last_stretch, stretches}
use Rattle.poll_log.specs.Questions.{IsQuestion, asked_in, first_sending, first_sent, firsts, names_of, new_among, outgoing_of}
use Rattle.poll_log.specs.Rounds.{Opening, moves_of}
use Rattle.poll_log.specs.Streamed.{AreFramed}
use Rattle.poll_log.specs.Told.{Map, is_dead, told}
use Rattle.poll_log.specs.Jobs.{IsFinished, IsOwed, Job, once, runs_of, wanted, some_wait}
use Rattle.poll_log.specs.Laws.{IsRestartable}
use Rattle.poll_log.proofs.Dues.{owed_begin}
use Rattle.poll_log.proofs.Names.{new_from-once, none_some, true_false}
use Rattle.poll_log.proofs.TurnLaws.{firsts-begin, told-begin}
use Rattle.stub_poller.specs.State.{StubState, new_stub}
use Rattle.stub_poller.specs.Driven.{asking_all, driven}
use Rattle.poll_loop.specs.Counting.{HasCounted}
use Rattle.poll_loop.specs.Numbers.{GaveAll}
use Rattle.poll_loop.specs.Steps.{Began}
use Rattle.poll_loop.specs.Task.{AsksLookupNames, Task}
use Rattle.poll_loop.specs.Talks.{Talked}
use Rattle.poll_loop.specs.declared.looping.Upstream.{Upstream}
use Rattle.poll_loop.proofs.Kept.{few_none}
use Rattle.poll_loop.proofs.Owing.{cut_begin}
use Rattle.session_log.specs.Asked.{job_of}
use Rattle.session_log.specs.Sessions.{all_runs}
use Rattle.session_log.proofs.Orders.{run_is_job}
use Rattle.session_log.proofs.Totals.{runs_begin, runs_with_sent}
use Rattle.session_core.specs.declared.lookups.Lookups.{Lookups}
use Rattle.session_core.specs.declared.poller.Core.{Core}
use Rattle.session_core.specs.declared.session.Progress.{Progress}
use Rattle.session_core.specs.declared.session.Progress.TheVariants as progress
use Rattle.session_core.specs.declared.session.Session.{Session}
use Rattle.session_core.specs.Lookups.{new_lookups, with_asked}
use Rattle.session_core.specs.Sessions.{IsOutcome, IsPlaced, is_waiting}
use Rattle.session_core.specs.Settling.{numbers_of}
use Rattle.session_core.specs.Beginning.{Begins, missing_of, run_jobs}
use Rattle.session_core.specs.Ends.{IsState, is_finished, without_outcome}
use Rattle.session_core.specs.Stands.{Stands, StandsFor, jobs_of, task_of}
use Rattle.session_core.specs.Resolved.{AllEnded, HasEnded, talk_of}
use Rattle.session_core.proofs.Drawing.{GaveSome}
use Rattle.session_core.proofs.Knowing.{asking_terms, dead_still}
use Rattle.session_core.proofs.Sent.{newly_sent}
use Rattle.session_core.proofs.Turning.{dead_is, jobs_run, waits_is}
use Rattle.pac_names.specs.declared.limits.TheConstants.{MOST_NAMES}
use Rattle.pac_names.specs.Comparing.{compare_names}

module _ {R Out End : Type 0} (gives : Out → End → List (List ℕ) → Type 0) (tree : R → RunTree End) where
  wanted_runs : (M : Map) (all : List R) → wanted (run_jobs tree all) M ≡ missing_of tree M all
  wanted_runs M [] = refl
  wanted_runs M (run ∷ all) = ap (cons_option (job_of (tree run) M)) (wanted_runs M all)

  pub all_named : ((run : R) → AsksLookupNames (job_of (tree run))) → (all : List R) → All AsksLookupNames (run_jobs tree all)
  all_named named [] = All-nil AsksLookupNames
  all_named named (run ∷ all) = All-cons AsksLookupNames (job_of (tree run)) (run_jobs tree all) (named run) (all_named named all)

  all_restart : (all : List R) → All (IsRestartable MOST_NAMES) (run_jobs tree all)
  all_restart [] = All-nil (IsRestartable MOST_NAMES)
  all_restart (run ∷ all) = All-cons (IsRestartable MOST_NAMES) (job_of (tree run)) (run_jobs tree all) (run_is_job (tree run)) (all_restart all)

  module _ (t : Terms) (ranges : AreTerms t) (all : List R) (sessions : List (Session R Out)) (lookups : Lookups) (dice dice' : Option DiceTold) (asked : List Question) (b : Begins gives tree all (new_lookups t) lookups dice dice' sessions asked) where
    abbrev jobs : List Job
    jobs = run_jobs tree all

    abbrev sent : List Outgoing
    sent = first_sent asked

    abbrev stub : StubState
    stub = asking_all asked (new_stub t)

    nothing : finite.get (new_lookups t).table ≡ told t (Begin sent)
    nothing = fun_ext (λ n. finite.get-empty compare_names n ∙ sym (told-begin t sent n))

    asks : names_of asked ≡ once [] (wanted jobs (told t (Begin sent)))
    asks = b.asks [] (λ n u. refl) ∙ ap (once []) (ap (λ M. missing_of tree M all) nothing ∙ sym (wanted_runs (told t (Begin sent)) all))

    newly : new_among [] (asked_in sent) ≡ asked
    newly =
        ap (λ l. new_among [] (asked_in (map outgoing_of l))) (sym (append-nil (map first_sending asked)))
        ∙ newly_sent [] asked [] b.proper (All-nil IsQuestion) (new_from-once [] asked (wanted jobs (told t (Begin sent))) asks) tt

    same_jobs : jobs_of tree sessions ≡ jobs
    same_jobs = jobs_run tree sessions ∙ ap (run_jobs tree) b.runs_are

    owed : IsOwed t jobs [] [] (Begin sent) sent
    owed = owed_begin t jobs ranges.waits ranges.tried asked asks b.proper

    flying : stub ≡ driven t (Begin sent)
    unfolding driven
    flying = ap (λ qs. asking_all qs (new_stub t)) (sym newly)

    counted : All (λ s. s.runs ≡ runs_of t (Begin sent) (job_of (tree s.run))) sessions
    unfolding runs_of
    counted k d low = b.counted k d low

    beating : HasCounted 0 (Begin sent)
    unfolding last_stretch stretches
    beating = refl

    stands : Stands gives tree sessions (with_asked asked (new_lookups t)) (task_of t jobs) (Begin sent)
    stands =
        let terms : stub.terms ≡ t = asking_terms asked (new_stub t) in
        record {
          same = ap (λ x. task_of x jobs) (sym terms) ∙ ap (task_of stub.terms) (sym same_jobs);
          ranges = subst AreTerms (sym terms) ranges;
          sends = rw (terms, same_jobs) owed;
          flying = flying ∙ ap (λ x. driven x (Begin sent)) (sym terms);
          told_is = λ n. ap (λ M. M n) nothing ∙ ap (λ x. told x (Begin sent) n) (sym terms);
          placed = subst (λ dead. All (λ s. IsPlaced gives (tree s.run) (finite.get (new_lookups t).table) dead s.progress) sessions) (sym (fun_ext (dead_still asked (new_stub t)))) b.placed;
          counted = subst (λ x. All (λ s. s.runs ≡ runs_of x (Begin sent) (job_of (tree s.run))) sessions) (sym terms) counted;
          beating = beating;
        }

  -- the core has begun
  pub began : (t : Terms) (ranges : AreTerms t) (all : List R) (new : Lookups) (core : Core R Out) (dice dice' : Option DiceTold) (asked : List Question) → new ≡ new_lookups t → core.sessions.broken ≡ false → Begins gives tree all new core.lookups dice dice' core.sessions.roster.all.items asked → ((run : R) → AsksLookupNames (job_of (tree run))) → (runs runs' : ℕ) → runs' ≡ runs + length all → (old : Outside) → old.dice ≡ dice → old.runs ≡ runs → Began (StandsFor gives tree core (task_of t (run_jobs tree all))) (task_of t (run_jobs tree all)) (first_sent asked) old dice' runs'
  began t ranges all new core dice dice' asked is_new whole begins named runs runs' ran old d r =
      let jobs : List Job = run_jobs tree all in
      let sent : List Outgoing = first_sent asked in
      let sessions : List (Session R Out) = core.sessions.roster.all.items in
      let b : Begins gives tree all (new_lookups t) core.lookups dice dice' sessions asked = subst (λ l. Begins gives tree all l core.lookups dice dice' sessions asked) is_new begins in
      let count : all_runs t jobs (Begin sent) ≡ length jobs = runs_begin t jobs sent in
      let many : length jobs ≡ length all = length-map all (λ run. job_of (tree run)) in
      record {
        sound = record {
          terms = record { waits = ranges.waits; tried = ranges.tried };
          named = all_named named all;
          restartable = all_restart all;
          unsent_runs = runs_with_sent t jobs;
        };
        stands = record { whole = whole; stands = subst (λ l. Stands gives tree sessions l (task_of t jobs) (Begin sent)) (sym b.lookups_are) (stands t ranges all sessions core.lookups dice dice' asked b) };
        owed = owed t ranges all sessions core.lookups dice dice' asked b;
        drew = subst (λ x. GaveAll x (map (λ (q : Question). q.id) (firsts (Begin sent))) dice') (sym d) (subst (λ qs. GaveAll dice (numbers_of qs) dice') (sym (firsts-begin sent ∙ newly t ranges all sessions core.lookups dice dice' asked b)) b.drew);
        ran = omega arith;
      }

-- ---- what is said of a session

module _ {R Out End : Type 0} (gives : Out → End → List (List ℕ) → Type 0) (tree : R → RunTree End) (sessions : List (Session R Out)) (lookups : Lookups) (task : Task) (h : Turns) (s : Stands gives tree sessions lookups task h) (k : ℕ) (d : Session R Out) (low : k < length sessions) where
  abbrev terms : Terms
  terms = lookups.stub.terms

  abbrev here : Session R Out
  here = get_or sessions k d

  placed_by : IsPlaced gives (tree here.run) (told terms h) (is_dead terms h) here.progress
  placed_by =
      subst (λ M. IsPlaced gives (tree here.run) M (is_dead terms h) here.progress) (fun_ext s.told_is)
      (subst (λ dead. IsPlaced gives (tree here.run) (finite.get lookups.table) dead here.progress) (dead_is gives tree sessions lookups task h s) (s.placed k d low))

  -- of the job at its place among the jobs
  at_job : (P : Terms → Job → Type 0) (job : Job) → P terms (job_of (tree here.run)) → P task.terms (get_or task.jobs k job)
  at_job P job p =
      subst (λ (x : Task). P x.terms (get_or x.jobs k job)) (sym s.same)
      (subst (P terms) (sym (get_or-map (λ (x : Session R Out). job_of (tree x.run)) sessions k d job low)) p)

  pub state_is : (job : Job) → IsState task.terms h (get_or task.jobs k job) (without_outcome here.progress)
  state_is job = at_job (λ t j. IsState t h j (without_outcome here.progress)) job (go here.progress placed_by)
    where
      go : (p : Progress Out) → IsPlaced gives (tree here.run) (told terms h) (is_dead terms h) p → IsState terms h (job_of (tree here.run)) (without_outcome p)
      go (progress.Waiting m) p = record { first = p.0; alive = p.1 }
      go (progress.Finished out) p = p.0
      go (progress.Unanswered m) p = record { first = p.0; dead = p.1 }

  pub runs_is : (job : Job) → here.runs ≡ runs_of task.terms h (get_or task.jobs k job)
  runs_is job = at_job (λ t j. here.runs ≡ runs_of t h j) job (s.counted k d low)

  -- the outcome of a finished session
  pub outcome_is : (out : Out) → here.progress ≡ progress.Finished out → (job : Job) (run : R) → IsFinished task.terms h (get_or task.jobs k job) × IsOutcome gives (tree (get_or (map (λ (x : Session R Out). x.run) sessions) k run)) (told task.terms h) out
  outcome_is out e job run =
      let p = subst (IsPlaced gives (tree here.run) (told terms h) (is_dead terms h)) e placed_by in (
        at_job (λ t j. IsFinished t h j) job p.0,
        subst (λ (x : Task). IsOutcome gives (tree (get_or (map (λ (y : Session R Out). y.run) sessions) k run)) (told x.terms h) out) (sym s.same)
            (subst (λ r. IsOutcome gives (tree r) (told terms h) out) (sym (get_or-map (λ (y : Session R Out). y.run) sessions k d run low)) p.1),
      )

  -- one that is not finished has none
  pub not_finished : is_finished here.progress ≡ false → (job : Job) → IsFinished task.terms h (get_or task.jobs k job) → ⊥
  not_finished e job = at_job (λ t j. IsFinished t h j → ⊥) job (go here.progress e placed_by)
    where
      go : (p : Progress Out) → is_finished p ≡ false → IsPlaced gives (tree here.run) (told terms h) (is_dead terms h) p → IsFinished terms h (job_of (tree here.run)) → ⊥
      go (progress.Waiting m) e p f = none_some m (sym f ∙ p.0)
      go (progress.Finished out) e p f = true_false e
      go (progress.Unanswered m) e p f = none_some m (sym f ∙ p.0)

-- ---- at the end

-- nobody waits any more
pub all_ended : {R Out End : Type 0} (gives : Out → End → List (List ℕ) → Type 0) (tree : R → RunTree End) (all : List R) (sessions : List (Session R Out)) (lookups : Lookups) (t : Terms) (jobs : List Job) (h : Turns) → map (λ (x : Session R Out). x.run) sessions ≡ all → Stands gives tree sessions lookups (task_of t jobs) h → some_wait t jobs h ≡ false → AllEnded gives tree all t h sessions
all_ended {R = R} {Out = Out} gives tree all sessions lookups t jobs h runs s e =
    record {
      runs_are = runs;
      ended = λ k d low. subst (λ x. HasEnded gives (tree (get_or sessions k d).run) x h (get_or sessions k d).progress) terms (end_by k d (get_or sessions k d).progress (awake k d low (is_waiting (get_or sessions k d).progress) refl) (placed_by gives tree sessions lookups (task_of t jobs) h s k d low));
      counted = λ k d low. s.counted k d low ∙ ap (λ x. runs_of x h (job_of (tree (get_or sessions k d).run))) terms;
    }
  where
    terms : lookups.stub.terms ≡ t
    terms = sym (ap (λ (x : Task). x.terms) s.same)

    awake : (k : ℕ) (d : Session R Out) → k < length sessions → (b : Bool) → is_waiting (get_or sessions k d).progress ≡ b → b ≡ false
    awake k d low false w = refl
    awake k d low true w = true_false (sym (list_any_at (λ (x : Session R Out). is_waiting x.progress) sessions k d low w) ∙ waits_is gives tree sessions lookups (task_of t jobs) h s ∙ e)

    end_by : (k : ℕ) (d : Session R Out) (p : Progress Out) → is_waiting p ≡ false → IsPlaced gives (tree (get_or sessions k d).run) (told lookups.stub.terms h) (is_dead lookups.stub.terms h) p → HasEnded gives (tree (get_or sessions k d).run) lookups.stub.terms h p
    end_by k d (progress.Waiting m) w p = true_false w
    end_by k d (progress.Finished out) w p = p
    end_by k d (progress.Unanswered m) w p = record { first = p.0; dead = p.1 }

module _ (upstream : Upstream) (all : List Job) (old : Outside) where
  -- memory ran out before anything was sent
  pub not_sent : AreTerms upstream.terms → All AsksLookupNames all → (dice : Option DiceTold) (runs : ℕ) → GaveSome old.dice dice → runs ≤ old.runs + length all → Talked (talk_of upstream all) old unfinished [] (record old { dice = dice; runs = runs })
  unfolding firsts new_among with_moves flat_behind AreFramed moves_of
  not_sent terms named dice runs drew low =
      let count : all_runs upstream.terms all (Begin []) ≡ length all = runs_begin upstream.terms all [] in
      record {
        files = refl;
        clock = refl;
        few = few_none upstream.terms;
        streams = refl;
        ends = inl (record {
          cut = cut_begin upstream.terms all terms.waits terms.tried named;
          owed = None;
          streamed = record { rounds = Opening []; moves = refl; framed = refl };
          link = refl;
          drew = drew;
          ran = omega arith;
        });
      }
