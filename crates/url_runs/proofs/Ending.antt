-- What is reported of sessions that have ended is what the log says of their URLs.
use Rattle.std.proofs.Common.{◌≡◌, ℕ, List, [], ◌∷◌, Option, ap, sym, ◌∙◌, subst, map, refl}
use Rattle.std.specs.List.{All}
use Rattle.std.proofs.lemmas.List.Elements.{All-head, All-tail}
use Rattle.pac_names.specs.Names.{Name}
use Rattle.js_host.specs.Answers.{AnswerMap}
use Rattle.js_evaluation.specs.Evaluation as def
use Rattle.js_interp.specs.declared.entry.Entry.{Entry}
use Rattle.js_interp.specs.declared.outcome.Outcome.{Outcome}
use Rattle.js_interp.specs.Answers.{entry_of}
use Rattle.pac_plan.specs.Plan as plans
use Rattle.pac_plan.specs.Plan.{Outside}
use Rattle.pac_ports.specs.declared.link.Move.{Move}
use Rattle.poll_log.specs.declared.terms.Terms.{Terms}
use Rattle.poll_log.specs.Turns.{Turns}
use Rattle.poll_log.specs.Told.{told}
use Rattle.poll_log.specs.Jobs.{Job, runs_of}
use Rattle.poll_loop.specs.Talks.{Talked}
use Rattle.poll_loop.specs.declared.looping.Upstream.{Upstream}
use Rattle.report_text.specs.Report.{End, UrlEnd, done}
use Rattle.session_log.specs.Asked.{job_of}
use Rattle.session_log.specs.Sessions.{Holds}
use Rattle.session_core.specs.declared.session.Session.{Session}
use Rattle.session_core.specs.declared.session.Progress.{Progress}
use Rattle.session_core.specs.declared.session.Progress.TheVariants.{Finished, Unanswered, Waiting}
use Rattle.session_core.specs.Beginning.{run_jobs}
use Rattle.session_core.specs.Resolved.{AllEnded, HasEnded, talk_of}
use Rattle.url_runs.specs.declared.url_run.UrlRun.{UrlRun}
use Rattle.url_runs.specs.Runs.{GivesOutcome, ScriptRuns, outcome_of, seen_for, seen_run, tree_of}
use Rattle.url_runs.specs.Ends.{end_of, session_end}
use Rattle.url_runs.specs.Resolving.{end_by, ended, url_job, urls_talk}

abbrev first_or : ScriptRuns × def.Entry → List (ScriptRuns × def.Entry) → ScriptRuns × def.Entry
first_or other [] = other
first_or other (run ∷ runs) = run

abbrev behind : List (ScriptRuns × def.Entry) → List (ScriptRuns × def.Entry)
behind [] = []
behind (run ∷ runs) = runs

module _ (script : ScriptRuns) (t : Terms) (h : Turns) (all : AnswerMap) (holds : Holds all (told t h)) where
  -- how it ended with a URL, by its first untold name
  progress_end : (entry : def.Entry) (progress : Progress Outcome) → HasEnded GivesOutcome (script entry) t h progress
      → end_of progress ≡ end_by (url_job script entry (told t h)) (outcome_of script all entry)
  progress_end entry (Finished out) e =
      ap done (sym (e.1 all holds)) ∙ sym (ap (λ (lacking : Option Name). end_by lacking (outcome_of script all entry)) e.0)
  progress_end entry (Unanswered n) e =
      sym (ap (λ (lacking : Option Name). end_by lacking (outcome_of script all entry)) e.first)
  progress_end entry (Waiting n) e = absurd e

  abbrev with_runs : End → ℕ → UrlEnd
  with_runs end runs = record { end = end; runs = runs }

  one_end : (entry : def.Entry) (progress : Progress Outcome) (runs : ℕ) → HasEnded GivesOutcome (script entry) t h progress
      → runs ≡ runs_of t h (url_job script entry) → with_runs (end_of progress) runs ≡ ended script all t h entry
  one_end entry progress runs e n =
      ap (λ (end : End). with_runs end runs) (progress_end entry progress e)
      ∙ ap (with_runs (end_by (url_job script entry (told t h)) (outcome_of script all entry))) n

  abbrev HasEndedThen : Session UrlRun Outcome → Type 0
  HasEndedThen s = HasEnded GivesOutcome (tree_of s.run) t h s.progress

  abbrev IsCounted : Session UrlRun Outcome → Type 0
  IsCounted s = s.runs ≡ runs_of t h (job_of (tree_of s.run))

  abbrev seen_runs : List (Session UrlRun Outcome) → List (ScriptRuns × def.Entry)
  seen_runs sessions = map seen_run (map (λ s. s.run) sessions)

  -- what is reported of the sessions, in order
  ends_are : (entries : List Entry) (sessions : List (Session UrlRun Outcome)) → seen_runs sessions ≡ map (seen_for script) entries
      → All HasEndedThen sessions → All IsCounted sessions
      → map session_end sessions ≡ map (ended script all t h) (map entry_of entries)
  ends_are [] [] e p n = refl
  ends_are [] (s ∷ sessions) e p n = cc
  ends_are (x ∷ entries) [] e p n = cc
  ends_are (x ∷ entries) (s ∷ sessions) e p n =
      let here : seen_run s.run ≡ seen_for script x = ap (first_or (seen_run s.run)) e in
      let one = one_end (entry_of x) s.progress s.runs
      (subst (λ (run : ScriptRuns × def.Entry). HasEnded GivesOutcome (run.0 run.1) t h s.progress) here (All-head HasEndedThen s sessions p))
      (subst (λ (run : ScriptRuns × def.Entry). s.runs ≡ runs_of t h (url_job run.0 run.1)) here (All-head IsCounted s sessions n)) in
      ap (λ (end : UrlEnd). end ∷ map session_end sessions) one
      ∙ ap (λ (ends : List UrlEnd). ended script all t h (entry_of x) ∷ ends)
      (ends_are entries sessions (ap behind e) (All-tail HasEndedThen s sessions p) (All-tail IsCounted s sessions n))

  -- how it ended with each URL
  pub urls_end : (entries : List Entry) (runs : List UrlRun) (sessions : List (Session UrlRun Outcome)) → map seen_run runs ≡ map (seen_for script) entries
      → AllEnded GivesOutcome tree_of runs t h sessions
      → map session_end sessions ≡ map (ended script all t h) (map entry_of entries)
  urls_end entries runs sessions e ends =
      let same : seen_runs sessions ≡ map (seen_for script) entries = ap (map seen_run) ends.runs_are ∙ e in
      ends_are entries sessions same ends.ended ends.counted

-- what is polled for are the jobs of the URLs
jobs_are : (script : ScriptRuns) (entries : List Entry) (runs : List UrlRun) → map seen_run runs ≡ map (seen_for script) entries
    → run_jobs tree_of runs ≡ map (url_job script) (map entry_of entries)
jobs_are script [] [] e = refl
jobs_are script [] (run ∷ runs) e = cc
jobs_are script (x ∷ entries) [] e = cc
jobs_are script (x ∷ entries) (run ∷ runs) e =
    ap (λ (job : Job). job ∷ run_jobs tree_of runs) (ap (λ (run : ScriptRuns × def.Entry). url_job run.0 run.1) (ap (first_or (seen_run run)) e))
    ∙ ap (λ (jobs : List Job). url_job script (entry_of x) ∷ jobs) (jobs_are script entries runs (ap behind e))

-- so the talk for their jobs is the one for the URLs
pub for_urls : (upstream : Upstream) (script : ScriptRuns) (entries : List Entry) (runs : List UrlRun) → map seen_run runs ≡ map (seen_for script) entries
    → {old new : Outside} {end : plans.End} {log : List Move} → Talked (talk_of upstream (run_jobs tree_of runs)) old end log new
    → Talked (urls_talk upstream script (map entry_of entries)) old end log new
for_urls upstream script entries runs e {old} {new} {end} {log} talked =
    subst (λ (jobs : List Job). Talked (talk_of upstream jobs) old end log new) (jobs_are script entries runs e) talked
