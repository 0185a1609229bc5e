-- Runs of many URLs, one after another.
use Rattle.std.proofs.Common.{◌≡◌, ℕ, zero, suc, ◌+◌, ◌≤◌, List, [], ◌∷◌, Option, None, length, map, inl, arith, ap, sym, ◌∙◌, subst}
use Rattle.std.proofs.lemmas.List.{length-map}
use Rattle.js_evaluation.specs.Evaluation.{Entry}
use Rattle.js_interp.specs.declared.entry.Entry as code
use Rattle.js_interp.specs.Answers.{entry_of}
use Rattle.poll_loop.specs.Task.{Talk}
use Rattle.pac_plan.specs.Plan.{Outside, Output, Plan}
use Rattle.pac_plan.specs.Follows.{Follows}
use Rattle.pac_plan.proofs.GivesUp.{gives_up}
use Rattle.pac_ask.specs.Talks.{talks}
use Rattle.url_runs.specs.Mapping.{run_each}

abbrev with_runs : Outside → ℕ → Outside
with_runs o runs = record o { runs = runs }

-- what comes behind the runs is followed from there
runs_on : (entries : List Entry) (next : Plan Talk) (o new : Outside) (made : Option Output)
    → Follows talks next (with_runs o (o.runs + length entries)) new made → Follows talks (run_each entries next) o new made
runs_on [] next o new made h = subst (λ (n : ℕ). Follows talks next (with_runs o n) new made) (omega arith) h
runs_on (entry ∷ entries) next o new made h =
    inl (runs_on entries next (with_runs o (o.runs + 1)) new made
    (subst (λ (n : ℕ). Follows talks next (with_runs o n) new made) (omega arith) h))

-- memory may run out behind some of the runs
ends_after : (entries : List Entry) (next : Plan Talk) (o : Outside) (n : ℕ) → n ≤ length entries
    → Follows talks (run_each entries next) o (with_runs o (o.runs + n)) None
ends_after entries next o zero low =
    subst (λ (n : ℕ). Follows talks (run_each entries next) o (with_runs o n) None) (omega arith) (gives_up talks (run_each entries next) o)
ends_after [] next o (suc n) low = absurd (omega arith)
ends_after (entry ∷ entries) next o (suc n) low =
    inl (subst (λ (m : ℕ). Follows talks (run_each entries next) (with_runs o (o.runs + 1)) (with_runs o m) None) (omega arith)
    (ends_after entries next (with_runs o (o.runs + 1)) n (omega arith)))

module _ (entries : List code.Entry) (next : Plan Talk) (o : Outside) (before runs : ℕ) where
  pub ran_all : (new : Outside) (made : Option Output) → runs ≡ before + length entries → Follows talks next (with_runs o runs) new made
      → Follows talks (run_each (map entry_of entries) next) (with_runs o before) new made
  ran_all new made ran h =
      let same : runs ≡ before + length (map entry_of entries) = ran ∙ ap (λ n. before + n) (sym (length-map entries entry_of)) in
      runs_on (map entry_of entries) next (with_runs o before) new made (subst (λ (n : ℕ). Follows talks next (with_runs o n) new made) same h)

  pub ran_some : (done : ℕ) → done ≤ length entries → runs ≡ before + done
      → Follows talks (run_each (map entry_of entries) next) (with_runs o before) (with_runs o runs) None
  ran_some done low ran =
      let many : length (map entry_of entries) ≡ length entries = length-map entries entry_of in
      subst (λ (n : ℕ). Follows talks (run_each (map entry_of entries) next) (with_runs o before) (with_runs o n) None) (sym ran)
      (ends_after (map entry_of entries) next (with_runs o before) done (omega arith))
