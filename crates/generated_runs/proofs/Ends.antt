-- How it ends with the URLs of a log that is answered from a map.
use Rattle.std.proofs.Common.{◌≡◌, ℕ, ◌+◌, ◌*◌, ◌≤◌, List, [], ◌∷◌, length, map, Option, Some, None, refl, sym, ◌∙◌, ap, arith}
use Rattle.std.specs.List.{sum_by}
use Rattle.std.proofs.lemmas.List.Sums.{sum_by-cons}
use Rattle.pac_names.specs.Names.{Name}
use Rattle.js_host.specs.Answers.{AnswerMap}
use Rattle.pac_names.specs.declared.limits.TheConstants.{MOST_NAMES}
use Rattle.run_trees.specs.WholeRun.{WholeRun}
use Rattle.run_trees.proofs.Few.{few-none, few-rest}
use Rattle.js_evaluation.specs.State.{RunEnd}
use Rattle.js_evaluation.specs.Evaluation.{Entry, Outcome, ending_of}
use Rattle.js_host.specs.Seen.{kept_alerts}
use Rattle.poll_log.specs.declared.terms.Terms.{Terms}
use Rattle.poll_log.specs.Turns.{Turns}
use Rattle.poll_log.specs.Told.{told}
use Rattle.poll_log.specs.Jobs.{runs_of}
use Rattle.report_text.specs.Report.{End, UrlEnd, done, seen_end}
use Rattle.report_text.specs.declared.blocks.UrlEnd as code
use Rattle.session_log.specs.Sessions.{Holds}
use Rattle.session_log.proofs.Ends.{told_finite}
use Rattle.pac_generate.specs.Answered.{IsAnswered}
use Rattle.memory_talk.specs.Laws.{AreAddresses}
use Rattle.memory_talk.proofs.Agreeing.{agrees}
use Rattle.url_runs.specs.Runs.{ScriptRuns, outcome_of}
use Rattle.url_runs.specs.Resolving.{end_by, ended, url_job}
use Rattle.url_runs.proofs.Counting.{few}

abbrev outcome_in : WholeRun RunEnd → Outcome
outcome_in run = record { ending = ending_of run.end; alerts = kept_alerts run.alerts }

abbrev with_end : ℕ → End → UrlEnd
with_end runs end = record { end = end; runs = runs }

-- ---- against the map

module _ (answers : AnswerMap) (terms : Terms) (turns : Turns) (small : AreAddresses answers) (answered : IsAnswered answers turns) where
  same_outcome : (program : ScriptRuns) (all : AnswerMap) → Holds all (told terms turns) → (entry : Entry) (lacking : Option Name) → url_job program entry (told terms turns) ≡ lacking
      → end_by lacking (outcome_of program all entry) ≡ end_by lacking (outcome_of program answers entry)
  same_outcome program all holds entry None finished =
      ap (λ (run : WholeRun RunEnd). done (outcome_in run)) (agrees answers terms turns (program entry) small answered finished all holds)
  same_outcome program all holds entry (Some name) lacking = refl

  -- how it ends with a URL is the same against each map that holds what is told
  same_end : (program : ScriptRuns) (all : AnswerMap) → Holds all (told terms turns) → (entry : Entry) → ended program all terms turns entry ≡ ended program answers terms turns entry
  same_end program all holds entry =
      ap (with_end (runs_of terms turns (url_job program entry))) (same_outcome program all holds entry (url_job program entry (told terms turns)) refl)

  same_ends : (program : ScriptRuns) (all : AnswerMap) → Holds all (told terms turns) → (entries : List Entry) → map (ended program all terms turns) entries ≡ map (ended program answers terms turns) entries
  same_ends program all holds [] = refl
  same_ends program all holds (entry ∷ entries) =
      ap (λ (end : UrlEnd). end ∷ map (ended program all terms turns) entries) (same_end program all holds entry)
      ∙ ap (λ (ends : List UrlEnd). ended program answers terms turns entry ∷ ends) (same_ends program all holds entries)

  -- what ends so against each map that holds what is told, ends so against the map
  pub ends_by_map : (program : ScriptRuns) (entries : List Entry) (ends : List UrlEnd) → ((all : AnswerMap) → Holds all (told terms turns) → ends ≡ map (ended program all terms turns) entries)
      → ends ≡ map (ended program answers terms turns) entries
  ends_by_map program entries ends each =
      let finite = told_finite terms turns in
      let holds : Holds finite.all (told terms turns) = λ n x told. finite.same n ∙ told in
      each finite.all holds ∙ same_ends program finite.all holds entries

-- ---- few runs

runs_few : (program : ScriptRuns) (all : AnswerMap) (terms : Terms) (turns : Turns) → Holds all (told terms turns) → (entry : Entry) → (ended program all terms turns entry).runs ≤ MOST_NAMES + 1
runs_few program all terms turns holds entry =
    let bound = few program entry terms turns all holds in
    let names = (few-rest all (program entry) [] few-none).few in
    omega (arith, bound, names)

sum_few : (program : ScriptRuns) (all : AnswerMap) (terms : Terms) (turns : Turns) → Holds all (told terms turns) → (entries : List Entry)
    → sum_by (λ (end : UrlEnd). end.runs) (map (ended program all terms turns) entries) ≤ (MOST_NAMES + 1) * length entries
sum_few program all terms turns holds [] = omega arith
sum_few program all terms turns holds (entry ∷ entries) =
    let one = runs_few program all terms turns holds entry in
    let rest = sum_few program all terms turns holds entries in
    let split = sum_by-cons (λ (end : UrlEnd). end.runs) (ended program all terms turns entry) (map (ended program all terms turns) entries) in
    omega (arith, one, rest, split)

-- as the code has them
sum_seen : (ends : List code.UrlEnd) → sum_by (λ (end : UrlEnd). end.runs) (map seen_end ends) ≡ sum_by (λ (end : code.UrlEnd). end.runs) ends
sum_seen [] = refl
sum_seen (end ∷ ends) =
    sum_by-cons (λ (x : UrlEnd). x.runs) (seen_end end) (map seen_end ends)
    ∙ ap (λ (n : ℕ). end.runs + n) (sum_seen ends)
    ∙ sym (sum_by-cons (λ (x : code.UrlEnd). x.runs) end ends)

pub runs_fit : (program : ScriptRuns) (terms : Terms) (turns : Turns) (entries : List Entry) (ends : List code.UrlEnd)
    → ((all : AnswerMap) → Holds all (told terms turns) → map seen_end ends ≡ map (ended program all terms turns) entries)
    → sum_by (λ (end : code.UrlEnd). end.runs) ends ≤ (MOST_NAMES + 1) * length entries
runs_fit program terms turns entries ends each =
    let finite = told_finite terms turns in
    let holds : Holds finite.all (told terms turns) = λ n x told. finite.same n ∙ told in
    let low = sum_few program finite.all terms turns holds entries in
    let same = ap (sum_by (λ (end : UrlEnd). end.runs)) (each finite.all holds) in
    let seen = sum_seen ends in
    omega (arith, low, same, seen)
