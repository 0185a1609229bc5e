-- The log of `generate` is there, and has the reply to each question and nothing else; its talk costs no more than that.
use Rattle.std.proofs.Common.{◌≡◌, ◌+◌, ◌<◌, ◌≤◌, ℕ, List, length, ap, arith}
use Rattle.std.proofs.lemmas.List.{length-map}
use Rattle.batch_text.specs.declared.batch.TheConstants.{MOST_URLS}
use Rattle.pac_names.specs.declared.limits.TheConstants.{MOST_NAMES}
use Rattle.js_tree.specs.Tree.{StatementTree}
use Rattle.js_evaluation.specs.Evaluation.{run_by_names}
use Rattle.js_law_evaluation.proofs.OfEvaluation.{asks-by-names}
use Rattle.pac_generate.specs.Generated.{generated}
use Rattle.pac_plan.specs.Plan.{End, Outside, whole, faulted, unfinished}
use Rattle.pac_ports.specs.declared.link.Move.{Move}
use Rattle.poll_log.specs.Sendings.{AreTerms}
use Rattle.poll_log.specs.Turns.{turns_of}
use Rattle.poll_loop.specs.Task.{IsSound, Task}
use Rattle.url_runs.specs.Resolving.{url_job}
use Rattle.url_runs.proofs.Sound.{sound}
use Rattle.memory_talk.specs.Laws.{AskFew}
use Rattle.memory_talk.specs.Talks.{Talked}
use Rattle.memory_talk.proofs.Addresses.{sites_have}
use Rattle.memory_talk.proofs.Costs.{cut_costs_no_more}
use Rattle.memory_talk.proofs.Replied.{all_replied}
use Rattle.memory_talk.proofs.Room.{sound_few}
use Rattle.memory_talk.proofs.Same.{one_log}
use Rattle.memory_talk.proofs.There.{log_is_there}
use Rattle.pac_command.specs.Generate.{generated_batch, usual_upstream, usual_given}
use Rattle.pac_command.specs.Laws.{GenerateHasItsLog, IsGeneratedLog, generate_talk, generate_task}
use Rattle.pac_command.specs.Urls.{entries_for}
use Rattle.pac_command.proofs.Generated.{generated_few}

usual_terms : AreTerms usual_upstream.terms
usual_terms = record { waits = omega arith; wait = omega arith; tried = omega arith; tries = omega arith }

task_is_sound : (seed sites : ℕ) (script : List StatementTree) → IsSound (generate_task seed sites script)
task_is_sound seed sites script =
    sound (run_by_names script) (λ entry. asks-by-names script entry) usual_upstream (entries_for usual_given (generated_batch seed sites)) usual_terms

jobs_are_few : (seed sites : ℕ) (script : List StatementTree) → sites ≤ MOST_URLS → length (generate_task seed sites script).jobs ≤ MOST_URLS
jobs_are_few seed sites script low =
    let few = generated_few usual_given seed sites low in
    let same = length-map (entries_for usual_given (generated_batch seed sites)) (url_job (run_by_names script)) in
    omega (arith, few, same)

waits_long : (seed sites : ℕ) (script : List StatementTree) → 2 < (generate_task seed sites script).terms.wait
waits_long seed sites script = omega arith

jobs_ask_few : (seed sites : ℕ) (script : List StatementTree) → sites ≤ MOST_URLS
    → AskFew MOST_NAMES (generate_task seed sites script).terms (generate_task seed sites script).jobs
jobs_ask_few seed sites script low =
    sound_few (generate_task seed sites script) (task_is_sound seed sites script) (jobs_are_few seed sites script low) (waits_long seed sites script)

-- however the talk ends, its log is the whole one or is cut short
runs_within : (seed sites : ℕ) (script : List StatementTree) (log : List Move) → sites ≤ MOST_URLS → IsGeneratedLog seed sites script log
    → (old : Outside) (end : End) (part : List Move) (new : Outside) → Talked (generate_talk seed sites script) old end part new
    → new.runs ≤ old.runs + (generate_task seed sites script).runs (turns_of log)
runs_within seed sites script log low its old whole part new t =
    let task : Task = generate_task seed sites script in
    let finite = (task_is_sound seed sites script).terms in
    let same : turns_of log ≡ turns_of part =
    one_log (generated seed sites).map task.terms task.jobs (turns_of log) (turns_of part) finite.waits finite.tried its (record { polled = t.polled; in_memory = t.in_memory }) in
    let cost : task.runs (turns_of log) ≡ task.runs (turns_of part) = ap task.runs same in
    let ran : new.runs ≡ old.runs + task.runs (turns_of part) = ap (λ (o : Outside). o.runs) t.ran in
    omega (arith, cost, ran)
runs_within seed sites script log low its old faulted part new t = absurd t
runs_within seed sites script log low its old unfinished part new t =
    let task : Task = generate_task seed sites script in
    let cost : task.runs (turns_of part) ≤ task.runs (turns_of log) =
    cut_costs_no_more MOST_NAMES (generated seed sites).map task.terms task.jobs (turns_of part) (turns_of log) (sites_have seed sites)
    (jobs_ask_few seed sites script low) (t.cut (task_is_sound seed sites script)) t.answered its.polled its.in_memory.answered in
    let ran : new.runs ≤ old.runs + task.runs (turns_of part) = t.ran in
    omega (arith, cost, ran)

pub generate_has_its_log : GenerateHasItsLog
generate_has_its_log = record {
  is_there = λ seed sites script. log_is_there (generated seed sites).map (generate_task seed sites script) (task_is_sound seed sites script);
  replied = λ seed sites script log low its.
      all_replied _ (generated seed sites).map _ _ _ (sites_have seed sites) (jobs_ask_few seed sites script low) its.polled its.in_memory.answered;
  runs = runs_within;
}
