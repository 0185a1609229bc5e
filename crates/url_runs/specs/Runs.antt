-- A script that is run for URLs.
use Rattle.std.specs.Prelude.{◌≡◌, ℕ, List, map}
use Rattle.batch_text.specs.Batch.{BatchEntry, entry_seen}
use Rattle.js_tree.specs.Tree.{statements_of}
use Rattle.js_host.specs.Answers.{AnswerMap}
use Rattle.run_trees.specs.RunTree.{RunTree}
use Rattle.js_evaluation.specs.State.{RunEnd}
use Rattle.js_evaluation.specs.Evaluation as def
use Rattle.js_evaluation.specs.Evaluation.{Entry, ending_of, run_tree}
use Rattle.js_scope.specs.declared.program.Program.{Program}
use Rattle.js_scope.specs.Functions.{functions_of}
use Rattle.js_interp.specs.declared.entry.Entry as code
use Rattle.js_interp.specs.declared.outcome.Outcome.{Outcome}
use Rattle.js_interp.specs.Answers.{entry_of, seen_outcome}
use Rattle.url_runs.specs.declared.url_run.UrlRun.{UrlRun}
use Rattle.url_runs.specs.declared.work.Work as declared

-- a script as its runs: for each entry a tree of what is asked
abbrev pub ScriptRuns : Type 0
ScriptRuns = Entry → RunTree RunEnd

-- the runs of a program whose names have their slots
abbrev pub program_runs : Program → ScriptRuns
program_runs program entry = run_tree (statements_of program.body) (functions_of program.functions) entry

-- the outcome of one uninterrupted run, against a map of all names
abbrev pub outcome_of : ScriptRuns → AnswerMap → Entry → def.Outcome
outcome_of script answers entry = def.outcome_of (script entry) answers

-- a script, a batch of URLs, and what the runs for its URLs are for, in their order
pub record Work : Type 0 where
  pub script : ScriptRuns
  pub batch : List BatchEntry
  pub entries : List Entry

-- ---- as the code has it

-- the script, and what it is run for
abbrev pub seen_run : UrlRun → ScriptRuns × Entry
seen_run run = (program_runs run.program.now.program.now, entry_of run.entry)

abbrev pub seen_for : ScriptRuns → code.Entry → ScriptRuns × Entry
seen_for program entry = (program, entry_of entry)

abbrev pub seen_work : declared.Work → Work
seen_work work = record { script = program_runs work.program; batch = map entry_seen work.batch; entries = map entry_of work.entries.items }

abbrev pub tree_of : UrlRun → RunTree RunEnd
tree_of run = (seen_run run).0 (seen_run run).1

-- the outcome is that of a run which ends so and of whose alerts these are kept
abbrev pub GivesOutcome : Outcome → RunEnd → List (List ℕ) → Type 0
GivesOutcome outcome end alerts = record { ending = ending_of end; alerts = alerts } ≡ seen_outcome outcome
