-- What `resolve` and `map` run, as they read it.
use Rattle.std.specs.Prelude.{ℕ, List}
use Rattle.batch_text.specs.Batch.{BatchEntry}
use Rattle.js_host.specs.Answers.{AnswerMap}
use Rattle.js_tree.specs.Tree.{StatementTree}
use Rattle.js_evaluation.specs.Evaluation.{run_by_names}
use Rattle.pac_words.specs.Commands.{Source}
use Rattle.url_runs.specs.Runs.{Work, seen_work}
use Rattle.url_runs.specs.declared.work.Work as declared
use Rattle.pac_command.specs.declared.given.Given.{Given}
use Rattle.pac_command.specs.Names.{names_from}
use Rattle.pac_command.specs.Plans.{CommandPlan}
use Rattle.pac_command.specs.Scripts.{script_from}
use Rattle.pac_command.specs.Urls.{entries_for, urls_from}

-- a script by its names, for the URLs of a batch
abbrev pub work_of : Given → List StatementTree → List BatchEntry → Work
work_of given script batch = record { script = run_by_names script; batch = batch; entries = entries_for given batch }

-- reads the URLs of a script, and goes on with both
abbrev pub urls_with : Given → Source → List StatementTree → (Work → CommandPlan) → CommandPlan
urls_with given source script next = urls_from given source (λ batch. next (work_of given script batch))

-- reads the script before
abbrev pub work_from : Given → List ℕ → Source → (Work → CommandPlan) → CommandPlan
work_from given script source next = script_from script (λ script. urls_with given source script next)

-- ---- with names

-- reads the file of names before the URLs, and goes on with what it says too
abbrev pub names_with : Given → List ℕ → Source → List StatementTree → (AnswerMap × Work → CommandPlan) → CommandPlan
names_with given names source script next = names_from names (λ answers. urls_with given source script (λ work. next (answers, work)))

-- reads the script before these
abbrev pub mapping_from : Given → List ℕ → List ℕ → Source → (AnswerMap × Work → CommandPlan) → CommandPlan
mapping_from given names script source next = script_from script (λ script. names_with given names source script next)

-- as the code has it
abbrev pub seen_mapping : AnswerMap × declared.Work → AnswerMap × Work
seen_mapping mapping = (mapping.0, seen_work mapping.1)
