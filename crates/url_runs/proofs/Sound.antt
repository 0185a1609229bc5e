-- What is polled for is sound.
use Rattle.std.proofs.Common.{get_or, map}
use Rattle.std.proofs.lemmas.List.Elements.{All-map}
use Rattle.poll_log.specs.Laws.{IsRestartable}
use Rattle.poll_loop.specs.Task as jobs
use Rattle.session_log.proofs.Orders.{run_is_job}
use Rattle.session_log.proofs.Totals.{runs_with_sent}
use Rattle.url_runs.specs.Resolving.{url_job}
use Rattle.js_evaluation.specs.Evaluation.{Entry}
use Rattle.js_law_evaluation.specs.Laws.{AsksLookupNames}
use Rattle.url_runs.specs.Laws.{TasksAreSound}
use Rattle.url_runs.specs.Runs.{ScriptRuns}
use Rattle.url_runs.specs.Named.{jobs_named}
use Rattle.pac_names.specs.declared.limits.TheConstants.{MOST_NAMES}

pub sound : (script : ScriptRuns) → ((entry : Entry) → AsksLookupNames (script entry)) → TasksAreSound script
sound script asks upstream entries terms =
    record {
      terms = record { waits = terms.waits; tried = terms.tried };
      named = All-map jobs.AsksLookupNames (url_job script) entries (λ k d low. jobs_named (script (get_or entries k d)) (asks (get_or entries k d)));
      restartable = All-map (IsRestartable MOST_NAMES) (url_job script) entries (λ k d low. run_is_job (script (get_or entries k d)));
      unsent_runs = runs_with_sent upstream.terms (map (url_job script) entries);
    }
