-- What one run leaves.
use Rattle.std.proofs.Common.{◌≡◌, ℕ, Bool, true, false, List, [], Option, Some, None, refl, sym, ◌∙◌, ap, subst}
use Rattle.std.specs.FinMap as map
use Rattle.std.specs.Option.{option_to_list}
use Rattle.std.proofs.lemmas.List.Elements.{All-nil}
use Rattle.pac_ports.specs.Dice.{DiceTold}
use Rattle.pac_names.specs.Names.{Name}
use Rattle.js_host.specs.Answers.{AnswerMap, Completes, partly}
use Rattle.js_host.specs.Seen.{Seen, kept_alerts}
use Rattle.run_trees.specs.RunTree.{RunTree}
use Rattle.run_trees.specs.WholeRun.{whole_run}
use Rattle.poll_log.specs.Questions.{IsQuestion}
use Rattle.poll_log.proofs.Names.{true_false}
use Rattle.stub_poller.specs.State.{StubState, is_dead_in}
use Rattle.session_log.specs.Asked.{job_of}
use Rattle.session_log.specs.Sessions.{Holds}
use Rattle.session_log.proofs.Asking.{first_missing_is}
use Rattle.session_core.specs.declared.lookups.Lookups.{Lookups}
use Rattle.session_core.specs.declared.run.Attempt.TheVariants.{Done, Missing}
use Rattle.session_core.specs.declared.session.Progress.TheVariants.{Finished}
use Rattle.session_core.specs.declared.settling.Settled.{Settled}
use Rattle.session_core.specs.Answers.{Answers}
use Rattle.session_core.specs.Sessions.{IsOutcome, IsPlaced, dead_of}
use Rattle.session_core.specs.Settling.{Asks, Awaits, Settles, asked_of, progress_at}
use Rattle.session_core.proofs.Knowing.{with_stub}

-- nothing is asked
pub asks_none : (dice : Option DiceTold) → Asks [] dice dice []
asks_none dice = record { names_are = refl; proper = All-nil IsQuestion; drew = refl }

-- a map that holds the table completes it
completes : (all table : AnswerMap) → Holds all (map.get table) → Completes all (partly table)
completes all table h = record { extends = h; alone = λ wrong. true_false (sym wrong) }

itself : (table : AnswerMap) → Holds table (map.get table)
itself table n x e = e

module _ {Out End : Type 0} (gives : Out → End → List (List ℕ) → Type 0) (run : RunTree End) (lookups : Lookups) where
  abbrev table : AnswerMap
  table = lookups.table

  done_outcome : (out : Out) (after : Seen) → Answers gives run (partly table) (Done out) after → IsOutcome gives run (map.get table) out
  done_outcome out after a all h =
      let w = a.2.1 all (completes all table h) in
      subst (λ end. gives out end (kept_alerts (whole_run all run).alerts)) (sym w.end_is)
      (subst (λ alerts. gives out a.0 alerts) (sym w.alerts_are) a.1)

  done_none : (out : Out) (after : Seen) → Answers gives run (partly table) (Done out) after → job_of run (map.get table) ≡ None
  done_none out after a = first_missing_is run table ∙ (a.2.1 table (completes table table (itself table))).none_missing

  missing_first : (name : Name) (after : Seen) → Answers gives run (partly table) (Missing name) after → job_of run (map.get table) ≡ Some name
  missing_first name after a = first_missing_is run table ∙ (a.1 table (completes table table (itself table))).first_is

  -- a run that is done asks nothing
  pub settles_done : (out : Out) (after : Seen) (dice : Option DiceTold) → Answers gives run (partly table) (Done out) after → Settles gives run lookups lookups dice dice (record { progress = Finished out; asked = None })
  settles_done out after dice a =
      let none = done_none out after a in
      record {
        placed = (none, done_outcome out after a);
        asks = subst (λ r. Asks (asked_of lookups.stub r) dice dice []) (sym none) (asks_none dice);
        lookups_are = refl;
      }

  placed_by : (name : Name) (dead : Name → Bool) → job_of run (map.get table) ≡ Some name → (b : Bool) → dead name ≡ b → IsPlaced gives run (map.get table) dead (progress_at name b)
  placed_by name dead first true d = (first, d)
  placed_by name dead first false d = (first, d)

  -- one that misses a name awaits it
  pub settles_missing : (name : Name) (after : Seen) (stub : StubState) (dice dice' : Option DiceTold) (settled : Settled Out) → Answers gives run (partly table) (Missing name) after → Awaits name lookups.stub stub dice dice' settled → Settles gives run lookups (with_stub lookups stub) dice dice' settled
  settles_missing name after stub dice dice' settled a w =
      let first = missing_first name after a in
      record {
        placed = subst (IsPlaced gives run (map.get table) (dead_of lookups.stub)) (sym w.progress_is) (placed_by name (dead_of lookups.stub) first (is_dead_in name lookups.stub) refl);
        asks = subst (λ r. Asks (asked_of lookups.stub r) dice dice' (option_to_list settled.asked)) (sym first) w.asks;
        lookups_are = ap (with_stub lookups) w.stub_is;
      }
