-- One run more has begun.
use Rattle.std.proofs.Common.{◌≡◌, ℕ, List, [], ◌∷◌, ◌++◌, map, Option, refl, sym, ◌∙◌, ap, subst}
use Rattle.std.specs.FinMap as finite
use Rattle.std.specs.List.{All}
use Rattle.std.specs.Option.{option_to_list}
use Rattle.std.proofs.lemmas.List.{map-append}
use Rattle.std.proofs.lemmas.List.Elements.{All-append, All-nil, All-push, filter_map-append}
use mathlib.Core.Path.{fun_ext}
use Rattle.pac_ports.specs.Dice.{DiceTold}
use Rattle.pac_names.specs.Names.{Name}
use Rattle.run_trees.specs.RunTree.{RunTree}
use Rattle.poll_log.specs.declared.question.Question.{Question}
use Rattle.poll_log.specs.Questions.{IsQuestion, names_of}
use Rattle.poll_log.specs.Told.{Map}
use Rattle.poll_log.specs.Jobs.{once}
use Rattle.poll_log.proofs.Names.{once-append, once-none}
use Rattle.stub_poller.specs.Driven.{asking_all}
use Rattle.poll_loop.specs.Numbers.{GaveAll}
use Rattle.poll_loop.proofs.Logs.{gave-append}
use Rattle.session_log.specs.Asked.{job_of}
use Rattle.session_log.proofs.Orders.{run_is_job}
use Rattle.session_core.specs.declared.lookups.Lookups.{Lookups}
use Rattle.session_core.specs.declared.session.Session.{Session}
use Rattle.session_core.specs.declared.settling.Settled.{Settled}
use Rattle.session_core.specs.Lookups.{with_asked}
use Rattle.session_core.specs.Sessions.{IsPlaced, dead_of}
use Rattle.session_core.specs.Settling.{Settles, numbers_of}
use Rattle.session_core.specs.Cascade.{KnowsThese}
use Rattle.session_core.specs.Beginning.{Begins, missing_of}
use Rattle.session_core.proofs.Knowing.{asked_both, asked_is_once, dead_still, knows_more, names-append, numbers-append, one_missed}

module _ {R Out End : Type 0} (gives : Out → End → List (List ℕ) → Type 0) (tree : R → RunTree End) (lookups : Lookups) where
  abbrev answers : Map
  answers = finite.get lookups.table

  abbrev Placed : Session R Out → Type 0
  Placed s = IsPlaced gives (tree s.run) answers (dead_of lookups.stub) s.progress

  abbrev Once : Session R Out → Type 0
  Once s = s.runs ≡ 1

  pub begins_none : (dice : Option DiceTold) → Begins gives tree [] lookups lookups dice dice [] []
  begins_none dice =
      record {
        runs_are = refl;
        placed = All-nil Placed;
        counted = All-nil Once;
        asks = λ seen k. sym (once-none seen);
        proper = All-nil IsQuestion;
        drew = refl;
        lookups_are = refl;
      }

  pub begins_more : (all : List R) (run : R) (mid lookups' : Lookups) (dice dice' dice'' : Option DiceTold) (sessions sessions' : List (Session R Out)) (s : Session R Out) (asked asked' : List Question) (settled : Settled Out) → Begins gives tree all lookups mid dice dice' sessions asked → Settles gives (tree run) mid lookups' dice' dice'' settled → s.run ≡ run → s.progress ≡ settled.progress → s.runs ≡ 1 → sessions' ≡ sessions ++ s ∷ [] → asked' ≡ asked ++ option_to_list settled.asked → Begins gives tree (all ++ run ∷ []) lookups lookups' dice dice'' sessions' asked'
  begins_more all run mid lookups' dice dice' dice'' sessions sessions' s asked asked' settled b ran same progress once_run e f =
      record {
        runs_are = ap (map (λ (x : Session R Out). x.run)) e ∙ map-append (λ (x : Session R Out). x.run) sessions (s ∷ []) ∙ ap (λ l. l ++ s.run ∷ []) b.runs_are ∙ ap (λ r. all ++ r ∷ []) same;
        placed = subst (All Placed) (sym e) (All-push Placed sessions s b.placed here);
        counted = subst (All Once) (sym e) (All-push Once sessions s b.counted once_run);
        asks = asks_then;
        proper = subst (All IsQuestion) (sym f) (All-append IsQuestion asked more b.proper w.asks.proper);
        drew = subst (λ l. GaveAll dice l dice'') (sym (numbers-append asked more) ∙ ap numbers_of (sym f)) (gave-append (numbers_of asked) (numbers_of more) dice dice' dice'' b.drew w.asks.drew);
        lookups_are = w.lookups_are ∙ asked_both asked more lookups ∙ ap (λ l. with_asked l lookups) (sym f);
      }
    where
      more : List Question
      more = option_to_list settled.asked

      -- over what was known then
      w : Settles gives (tree run) (with_asked asked lookups) lookups' dice' dice'' settled
      w = subst (λ m. Settles gives (tree run) m lookups' dice' dice'' settled) b.lookups_are ran

      here : Placed s
      here =
          subst (λ r. IsPlaced gives (tree r) answers (dead_of lookups.stub) s.progress) (sym same)
          (subst (IsPlaced gives (tree run) answers (dead_of lookups.stub)) (sym progress)
          (subst (λ dead. IsPlaced gives (tree run) answers dead settled.progress) (fun_ext (dead_still asked lookups.stub)) w.placed))

      asks_then : (seen : List Name) → KnowsThese lookups.stub answers seen → names_of asked' ≡ once seen (missing_of tree answers (all ++ run ∷ []))
      asks_then seen knows =
          let before : List Name = missing_of tree answers all in
          let first : names_of asked ≡ once seen before = b.asks seen knows in
          let known : KnowsThese (asking_all asked lookups.stub) answers (seen ++ names_of asked) = knows_more asked lookups.stub answers seen knows in
          let now_asked : names_of more ≡ once (seen ++ names_of asked) (option_to_list (job_of (tree run) answers)) =
          w.asks.names_are ∙ asked_is_once (asking_all asked lookups.stub) answers (seen ++ names_of asked) known (job_of (tree run) answers) ((run_is_job (tree run)).lacks answers) in
          ap names_of f
          ∙ names-append asked more
          ∙ ap (λ l. names_of asked ++ l) now_asked
          ∙ ap (λ l. l ++ once (seen ++ l) (option_to_list (job_of (tree run) answers))) first
          ∙ sym (once-append seen before (option_to_list (job_of (tree run) answers)))
          ∙ ap (λ l. once seen (before ++ l)) (sym (one_missed (job_of (tree run) answers)))
          ∙ ap (once seen) (sym (filter_map-append (λ r. job_of (tree r) answers) all (run ∷ [])))
