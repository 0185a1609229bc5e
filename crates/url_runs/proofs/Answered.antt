-- No URL is unanswered where all that was sent is told.
use Rattle.std.proofs.Common.{◌≡◌, Bool, true, false, ◌||◌, List, [], ◌∷◌, map, cond, refl, ap, ◌∙◌}
use Rattle.std.specs.List.{All, list_any}
use Rattle.std.proofs.lemmas.List.Elements.{All-head, All-tail}
use Rattle.js_host.specs.Answers.{AnswerMap}
use Rattle.js_evaluation.specs.Evaluation.{Entry}
use Rattle.pac_plan.specs.declared.status.Status.TheVariants as status
use Rattle.poll_log.specs.declared.terms.Terms.{Terms}
use Rattle.poll_log.specs.Turns.{Turns, turns_of}
use Rattle.poll_log.specs.Jobs.{IsFinished}
use Rattle.poll_log.proofs.Finished.{all_finished}
use Rattle.poll_log.proofs.Names.{true_false}
use Rattle.url_runs.specs.Laws.{ToldAreAnswered}
use Rattle.url_runs.specs.Reports.{is_fault, is_unanswered}
use Rattle.url_runs.specs.Resolving.{all_ended, end_by, ended, url_job}
use Rattle.url_runs.specs.Runs.{ScriptRuns, outcome_of}

module _ (program : ScriptRuns) (answers : AnswerMap) (t : Terms) (h : Turns) where
  none_unanswered : (entries : List Entry) → All (IsFinished t h) (map (url_job program) entries) → list_any (λ e. is_unanswered e.end) (map (ended program answers t h) entries) ≡ false
  none_unanswered [] all = refl
  none_unanswered (entry ∷ entries) all =
      let first : IsFinished t h (url_job program entry) = All-head (IsFinished t h) (url_job program entry) (map (url_job program) entries) all in
      ap (λ r. is_unanswered (end_by r (outcome_of program answers entry)) || list_any (λ e. is_unanswered e.end) (map (ended program answers t h) entries)) first
      ∙ none_unanswered entries (All-tail (IsFinished t h) (url_job program entry) (map (url_job program) entries) all)

other_status : (a b : Bool) → a ≡ false → cond a status.Unanswered (cond b status.ScriptFault status.Good) ≡ status.Unanswered → ⊥
other_status true b e f = true_false e
other_status false true e f = cc
other_status false false e f = cc

pub answered : ToldAreAnswered
answered complete t program batch entries log polled all e =
    let h : Turns = turns_of log in
    let ends = all_ended program complete t h entries in
    other_status _ (list_any (λ x. is_fault x.end) ends)
    (none_unanswered program (complete.answers t h) t h entries (all_finished t (map (url_job program) entries) h polled.ended all)) e
