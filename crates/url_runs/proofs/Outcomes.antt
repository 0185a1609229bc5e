-- Outcomes of runs, as the code has them.
use Rattle.std.proofs.Common.{◌≡◌, ℕ, List, refl, ap, sym, ◌∙◌}
use Rattle.pac_names.specs.Names.{Name}
use Rattle.js_host.specs.Answers.{AnswerMap, Completes, wholly, Knowledge}
use Rattle.js_host.specs.Seen.{Seen, kept_alerts}
use Rattle.run_trees.specs.RunTree.{RunTree, Stopped}
use Rattle.run_trees.specs.WholeRun.{asked_names, whole_run}
use Rattle.run_trees.specs.Laws.{Restarts}
use Rattle.run_trees.proofs.Names.{first_missing-wholly}
use Rattle.js_evaluation.specs.State.{RunEnd}
use Rattle.js_evaluation.specs.Evaluation as def
use Rattle.js_evaluation.specs.Evaluation.{ending_of}
use Rattle.js_interp.specs.declared.outcome.Outcome.{Outcome}
use Rattle.js_interp.specs.Answers.{IsDone, seen_outcome}
use Rattle.js_interp.specs.Endings.{seen_ending}
use Rattle.url_runs.specs.Runs.{GivesOutcome, ScriptRuns, outcome_of}

-- a map of all names completes itself
itself : (answers : AnswerMap) → Completes answers (wholly answers)
itself answers = record { extends = λ name answer e. e; alone = λ e. refl }

-- no run stops there
pub never_stops : (answers : AnswerMap) (run : RunTree RunEnd) (name : Name) (after : Seen) → Restarts run (wholly answers) (Stopped name after) → ⊥
never_stops answers run name after stops =
    let first = stops.1 answers (itself answers) in
    let lacks = sym (first_missing-wholly answers (asked_names answers run)) ∙ first.first_is in
    cc

abbrev outcome_with : def.Ending → List (List ℕ) → def.Outcome
outcome_with ending alerts = record { ending = ending; alerts = alerts }

-- what a run that is done gives
pub gives : (run : RunTree RunEnd) (known : Knowledge) (outcome : Outcome) (after : Seen) (done : IsDone run known outcome after)
    → GivesOutcome outcome done.end after.alerts
gives run known outcome after done =
    ap (λ (ending : def.Ending). outcome_with ending after.alerts) done.ending_is
    ∙ ap (outcome_with (seen_ending outcome.ending)) done.alerts_are

-- over a host that knows every name it is the outcome against its map
pub outcome_is : (program : ScriptRuns) (entry : def.Entry) (answers : AnswerMap) (outcome : Outcome) (after : Seen)
    → IsDone (program entry) (wholly answers) outcome after → outcome_of program answers entry ≡ seen_outcome outcome
outcome_is program entry answers outcome after done =
    let run : RunTree RunEnd = program entry in
    let whole = done.is_whole.1 answers (itself answers) in
    ap (λ (end : RunEnd). outcome_with (ending_of end) (kept_alerts (whole_run answers run).alerts)) whole.end_is
    ∙ ap (outcome_with (ending_of done.end)) whole.alerts_are
    ∙ gives run (wholly answers) outcome after done
