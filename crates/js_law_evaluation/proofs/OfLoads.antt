-- A load that needs no clock is the load at each moment.
use Rattle.std.proofs.Common.{◌≡◌, refl, sym, ap, ◌∙◌, ℕ, List, [], None, Result}
use Rattle.std.specs.FinMap as map
use Rattle.pac_names.specs.Names.{Name}
use Rattle.pac_names.specs.Comparing.{compare_names}
use Rattle.heap_values.specs.declared.value.Value.{Value}
use Rattle.pac_calendar.specs.declared.moment.Moments.{Moments}
use Rattle.js_host.specs.Answers.{Knowledge, partly}
use Rattle.js_host.specs.Seen.{Seen, Reply, with_alert}
use Rattle.run_trees.specs.RunTree.{RunTree, Done, Ask, Tell, Walked, Ended, Stopped, walk}
use Rattle.js_evaluation.specs.State.{RunState, RunEnd, Comes, Faults, Stop, AfterValue}
use Rattle.js_evaluation.specs.Scoping.{by_slots}
use Rattle.js_evaluation.specs.Parts.{load_part}
use Rattle.js_evaluation.specs.Evaluation.{outer_scope, fresh_state}
use Rattle.js_evaluation.specs.declared.limits.TheConstants.{MOST_OPEN}
use Rattle.js_law_evaluation.specs.Laws.{at_moment, heard, LoadsAtEachMoment}
use Rattle.js_law_evaluation.proofs.Clocks.{GoesOn}
use Rattle.js_law_evaluation.proofs.OfScoping.{by_slots-end}
use Rattle.js_law_evaluation.proofs.OfEvaluation.{evaluation-ends}

-- nothing is known, nothing was asked, and these alerts are kept
abbrev quiet : List (List ℕ) → Seen
quiet = heard (partly map.empty)

-- a host that knows nothing lacks the name
lacks : (name : Name) (next : Reply → RunTree RunEnd) (alerts : List (List ℕ)) (end : RunEnd) (seen : Seen)
    → walk (Ask name next) (quiet alerts) ≡ Ended end seen → ⊥
unfolding walk
lacks name next alerts end seen e = go (rw (map.get-empty compare_names name) at e) where
  go : {name : Name} {before : Seen} → Stopped name before ≡ Ended end seen → ⊥
  go stops = cc

module _ (last : AfterValue) (m : Moments) (known : Knowledge) where
  -- what a run that comes to its end goes on with
  abbrev carried : Walked RunEnd → Walked RunEnd
  carried (Ended (Comes result s) seen) = walk (last result (at_moment m s)) (heard known seen.alerts)
  carried walked = walked

  goes_on : (one other : RunTree RunEnd) (alerts : List (List ℕ)) (result : Result Value Stop) (s : RunState) (seen : Seen)
      → GoesOn last m one other → walk one (quiet alerts) ≡ Ended (Comes result s) seen
      → walk other (heard known alerts) ≡ walk (last result (at_moment m s)) (heard known seen.alerts)
  unfolding walk GoesOn
  goes_on (Done (Comes before t)) other alerts result s seen goes e = ap (λ run. walk run (heard known alerts)) goes ∙ ap carried e
  goes_on (Done (Faults f)) other alerts result s seen goes e = cc
  goes_on (Ask name next) other alerts result s seen goes e = absurd (lacks name next alerts _ seen e)
  goes_on (Tell text next) other alerts result s seen goes e =
      ap (λ run. walk run (heard known alerts)) goes.1 ∙ goes_on next goes.0 (with_alert alerts text) result s seen goes.2 e

pub loads_at_each_moment : LoadsAtEachMoment
unfolding GoesOn
loads_at_each_moment ss functions settings fuel result s seen e m known after =
    goes_on after m known _ _ [] result s seen
    (((evaluation-ends by_slots-end functions MOST_OPEN).value (load_part outer_scope ss)).alike after m
    (λ result t. Done (Comes result t)) after (λ result t hidden. refl) (fresh_state by_slots None settings fuel) refl)
    e
