-- Steps of commands, one after another, and what they hand on.
use Rattle.std.proofs.Common.{◌≡◌, ◌∙◌, List, Result, Ok, Err, map, sym, ap}
use Rattle.batch_text.specs.Batch.{BatchEntry, entry_seen}
use Rattle.js_tree.specs.Tree.{FunctionTree, StatementTree, Statements}
use Rattle.js_binding.specs.Resolved.{resolved}
use Rattle.js_evaluation.specs.Evaluation.{Entry, run_by_names, run_tree}
use Rattle.js_interp.specs.Answers.{entry_of}
use Rattle.js_law_names.proofs.ReadRuns.{reads_by_names}
use Rattle.js_scope.specs.declared.program.Program.{Program}
use Rattle.js_scope.specs.Gives.{IsProgramOf}
use Rattle.pac_ports.specs.Files.{FilesState}
use Rattle.pac_plan.specs.Plan.{with_files}
use Rattle.url_runs.specs.Runs.{ScriptRuns, Work, program_runs, seen_work}
use Rattle.url_runs.specs.declared.work.Work as declared
use Rattle.pac_command.specs.declared.early.Early.{Early}
use Rattle.pac_command.specs.declared.given.Given.{Given}
use Rattle.pac_command.specs.Plans.{CommandPlan}
use Rattle.pac_command.specs.Scripts.{WasRead}
use Rattle.pac_command.specs.Steps.{IsStep, said}
use Rattle.pac_command.specs.Urls.{entries_for}
use Rattle.pac_command.specs.Work.{work_of}

-- a step, and then another one
pub step_then : {A B : Type 0} (first : (A → CommandPlan) → CommandPlan) (second : A → (B → CommandPlan) → CommandPlan) (old mid new : FilesState) (a : A) (r : Result B Early)
    → IsStep first old (Ok a) mid → IsStep (second a) mid r new → IsStep (λ next. first (λ x. second x next)) old r new
step_then first second old mid new a (Ok b) f s = λ o next last made h. f o (λ x. second x next) last made (s o next last made h)
step_then first second old mid new a (Err e) f s = λ o next. f o (λ x. second x next) (with_files o new) (said e) (s o next)

-- the runs of the program of a script that was read are those of the script by its names
pub runs_are : (script : List StatementTree) (program : Program) → WasRead script → IsProgramOf (resolved script) program
    → run_by_names script ≡ program_runs program
runs_are script program read same =
    λ i entry. (reads_by_names read.0 script entry read.1 ∙ ap (λ (p : Statements × List FunctionTree). run_tree p.0 p.1 entry) same) i

-- so what is run is the script that was read, for the URLs that were read
pub work_is : (given : Given) (script : List StatementTree) (work : declared.Work) → WasRead script → IsProgramOf (resolved script) work.program
    → map entry_of work.entries.items ≡ entries_for given (map entry_seen work.batch) → seen_work work ≡ work_of given script (map entry_seen work.batch)
work_is given script work read same entries =
    let batch : List BatchEntry = map entry_seen work.batch in
    let part : ScriptRuns → List Entry → Work = λ runs es. record { script = runs; batch = batch; entries = es } in
    ap (λ (es : List Entry). part (program_runs work.program) es) entries ∙ ap (λ (runs : ScriptRuns). part runs (entries_for given batch)) (sym (runs_are script work.program read same))
